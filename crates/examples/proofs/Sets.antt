-- Words that have the same places are the same.
use Rattle.std.proofs.Common.{◌≡◌, ℕ, suc, ◌<◌, true, false, eqb, refl, ap, arith}
use Rattle.std.proofs.lemmas.Bool.Decides.{nat_tests}
use Rattle.std.proofs.lemmas.Nat.{mod_below}
use Rattle.std.proofs.lemmas.Nat.Bits.{same_from_bits, bit_at_above}
use Rattle.bitset.specs.Sets.{has, many}

same_digit : (m n : ℕ) → m < 2 → n < 2 → eqb m 1 ≡ eqb n 1 → m ≡ n
same_digit m n hm hn e = grind (arith, nat_tests)

pub same_places : (x y : ℕ) → ((p : ℕ) → has x p ≡ has y p) → x ≡ y
unfolding has
same_places x y same = same_from_bits x y (λ p. same_digit _ _ (mod_below _ 2 (omega arith)) (mod_below _ 2 (omega arith)) (same p))

-- 7 is the set of places 0, 1 and 2
pub seven_0 : has 7 0 ≡ true
unfolding has
seven_0 = refl

pub seven_1 : has 7 1 ≡ true
unfolding has
seven_1 = refl

pub seven_2 : has 7 2 ≡ true
unfolding has
seven_2 = refl

pub seven_past : (p : ℕ) → has 7 (suc (suc (suc p))) ≡ false
unfolding has
seven_past p = ap (λ n. eqb n 1) (bit_at_above 7 3 (suc (suc (suc p))) (omega arith) (omega arith))

pub seven_size : many (has 7) 64 ≡ 3
unfolding has many
seven_size = refl
