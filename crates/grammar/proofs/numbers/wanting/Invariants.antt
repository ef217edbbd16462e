-- The set has the wanting attributes before this place.
use Rattle.std.proofs.Common.{◌≡◌, ℕ, ◌&&◌, ltb}
use Rattle.bitset.specs.Sets.{has}
use Rattle.grammar.specs.Books.{wanting_at}
use Rattle.grammar.proofs.numbers.wanting.Given as goal

abbrev pub invariant-loop-place : goal.invariant-loop-place
invariant-loop-place l = (p : ℕ) → has l.wanted p ≡ (ltb p 64 && (ltb p l.place && wanting_at l.attributes p))
