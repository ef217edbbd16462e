-- An attribute that is blocked is deleted; any other stays.
use Rattle.numbering.specs.Places.{holds}
use Rattle.bitset.specs.Sets.{has}
use Rattle.numbering.proofs.Sweeps.{sweep_end}
use Rattle.numbering.proofs.passes.Pass.swept.Goals as goal

pub returns-clause-swept : goal.returns-clause-swept
returns-clause-swept c =
    let pass = c.args.self.now in
    sweep_end (holds pass.predecessors.now) (holds pass.bars.now) (has pass.waiting) c.args.candidates c.loop-place.rest c.loop-place.place-iterator.left c.in-None.ensures.steps.0 c.loop-place.invariant
