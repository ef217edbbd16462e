-- What is left are waiting attributes, and they have every stable set.
use Rattle.std.proofs.Common.{◌≡◌, ℕ, Bool, true}
use Rattle.bitset.specs.Sets.{has}
use Rattle.numbering.specs.Places.{holds}
use Rattle.numbering.specs.Settled.{Stable}
use Rattle.numbering.proofs.passes.Pass.settled.Given as goal

abbrev pub invariant-loop-rest : goal.invariant-loop-rest
invariant-loop-rest l = ((b : ℕ) → has l.candidates b ≡ true → has l.self.waiting b ≡ true)
    × ((t : ℕ → Bool) → Stable (holds l.self.predecessors.now) (holds l.self.bars.now) (has l.self.waiting) t → (b : ℕ) → t b ≡ true → has l.candidates b ≡ true)

abbrev pub decreases-loop-rest : goal.decreases-loop-rest
decreases-loop-rest l = l.candidates
