-- The places that have come have the number of the pass.
use Rattle.std.proofs.Common.{◌≡◌, ℕ, true, cond, not, ◌&&◌, length, get_or}
use Rattle.bitset.specs.Sets.{has}
use Rattle.numbering.proofs.numbers.assign.Given as goal

abbrev pub invariant-loop-place : goal.invariant-loop-place
invariant-loop-place l =
    let left = l.place-iterator.left in
    (length l.numbers ≡ 64) × ((p : ℕ) → has left p ≡ true → has l.fn.chosen p ≡ true)
    × ((p : ℕ) → get_or l.numbers p 0 ≡ cond (has l.fn.chosen p && not (has left p)) l.pass (get_or l.initial.numbers p 0))
