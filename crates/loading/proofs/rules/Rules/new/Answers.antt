use Rattle.grammar.proofs.Slots.{indexed_none}
use Rattle.loading.proofs.rules.Rules.new.Goals as goal

pub invariant_of-result : goal.invariant_of-result
invariant_of-result c = record { indexed = rw c.new.ensures.items indexed_none }
