-- What is in the way, as one set.
use Rattle.std.proofs.Common.{◌<◌, length, get_or, not, ◌&&◌, ap, ◌∙◌, arith}
use Rattle.std.proofs.lemmas.Grind.{get_or_default_zero}
use Rattle.bitset.specs.Sets.{has}
use Rattle.numbering.specs.Places.{holds}
use Rattle.numbering.proofs.Sweeps.{blocked_is}
use Rattle.numbering.proofs.passes.Pass.blocks.Goals as goal

pub returns : goal.returns
unfolding holds
returns c =
    let pass = c.args.self.now in
    let place = c.args.place in
    let in_bars : place < length pass.bars.now = omega (arith, pass.whole.1) in
    let in_predecessors : place < length pass.predecessors.now = omega (arith, pass.whole.0) in
    let bars = get_or_default_zero pass.bars.now place _ in_bars in
    blocked_is c.meets.result _ _ (get_or pass.bars.now place 0) pass.waiting c.args.candidates c.in_the_way-in_the_way.result
    (get_or_default_zero pass.predecessors.now place _ in_predecessors)
    (λ p. c.in_the_way-in_the_way.ensures p ∙ ap (λ s. has pass.waiting p && not (has c.args.candidates p && not (has s p))) bars) c.meets.ensures
