-- The columns before this place are filled.
use Rattle.std.proofs.Common.{◌≡◌, ℕ, ◌<◌, length}
use Rattle.numbering.specs.Places.{marked, holds}
use Rattle.numbering.proofs.columns.columns_of.Given as goal

abbrev pub invariant-loop-place : goal.invariant-loop-place
invariant-loop-place l = (length l.set-items ≡ 64) × ((p q : ℕ) → p < 64 → q < l.place → holds l.set-items p q ≡ marked l.arcs l.bit p q)
