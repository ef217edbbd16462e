-- The lowest place is where the zeros at the end stop.
use Rattle.std.proofs.Common.{ap, ◌∙◌}
use Rattle.std.proofs.lemmas.Bool.Decides.{when_false}
use Rattle.bitset.specs.Sets.{has}
use Rattle.bitset.proofs.Digits.{not_empty, trailing_lowest}
use Rattle.bitset.proofs.Places.first.Goals as goal

pub returns-else-is_empty : goal.returns-else-is_empty
returns-else-is_empty c =
    let one = when_false _ _ c.if-is_empty.false c.is_empty.ensures in
    rw (← c.self.view_is) (trailing_lowest 64 c.self.inside.word c.self.invariant (not_empty c.self.inside.word one.0 (ap (λ x. has x one.0) c.self.view_is ∙ one.1)))
