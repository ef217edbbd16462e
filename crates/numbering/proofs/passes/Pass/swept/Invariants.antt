-- The candidates that have come are looked at.
use Rattle.bitset.specs.Sets.{has}
use Rattle.numbering.specs.Places.{holds}
use Rattle.numbering.proofs.Sweeps.{Sweeping}
use Rattle.numbering.proofs.passes.Pass.swept.Given as goal

abbrev pub invariant-loop-place : goal.invariant-loop-place
invariant-loop-place l = Sweeping (holds l.self.predecessors.now) (holds l.self.bars.now) (has l.self.waiting) l.fn.candidates l.rest l.place-iterator.left
