-- A new plan has as many directions as its count says.
use Rattle.std.proofs.Common.{rules}
use Rattle.plans.proofs.Plans.{length-alternating}
use Rattle.plans.proofs.alternating.Alternating.new.Goals as goal

pub invariant_of-result : goal.invariant_of-result
invariant_of-result c = search (rules, length-alternating)
