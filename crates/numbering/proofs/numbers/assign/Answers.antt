-- Every place of the set has come.
use Rattle.std.proofs.Common.{cond, not, ◌&&◌, get_or, ap, ◌∙◌}
use Rattle.bitset.specs.Sets.{has}
use Rattle.numbering.proofs.Filling.{all_given}
use Rattle.numbering.proofs.numbers.assign.Goals as goal

pub returns : goal.returns
returns c = let steps = c.in-None.ensures.steps in
    all_given c.args.chosen c.args.pass c.loop-place.numbers c.args.numbers.now
    (λ p. c.loop-place.invariant.2 p ∙ ap (λ x. cond (has c.args.chosen p && not (has x p)) c.args.pass (get_or c.args.numbers.now p 0)) steps.0)
