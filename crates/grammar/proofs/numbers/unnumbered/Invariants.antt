-- The attributes before this place have their first numbers; the places from here on hold none.
use Rattle.std.proofs.Common.{◌≡◌, ℕ, ◌<◌, ◌≤◌, length, get_or}
use Rattle.grammar.proofs.FirstNumbers.{first_before}
use Rattle.grammar.proofs.numbers.unnumbered.Given as goal

abbrev pub invariant-loop-place : goal.invariant-loop-place
invariant-loop-place l = (length l.numbers ≡ 64) × (l.place ≤ 64) × ((p : ℕ) → p < 64 → get_or l.numbers p 0 ≡ first_before l.place l.attributes p)
