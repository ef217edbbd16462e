-- What `has` says of the word operations.
use Rattle.std.proofs.Common.{◌≡◌, ℕ, zero, suc, ◌+◌, ◌-◌, ◌*◌, ◌/◌, ◌%◌, ◌^◌, ◌<◌, ◌≤◌, min, max, Bool, true, false, cond, not, ◌&&◌, ◌||◌, eqb, ltb, ◌⊎◌, sym, refl, ap, ◌∙◌, ap₂, inl, inr, pow-suc, MatchBool, arith}
use mathlib.Core.Path.{fun_ext}
use mathlib.Core.Bool.{and-true}
use lib.Arith.{lt-one}
use lib.Bits.{bit_and, bit_or, and_lt, and_mask}
use lib.Count.{ones, ones_step, count_trailing_zeros, under}
use Rattle.std.specs.Int.{bit_at}
use Rattle.std.proofs.lemmas.Nat.Bits.{bit_at_lowest, bit_at-suc, bit_at-zero, bit_at_and, bit_at_or, bit_at-pow_same, bit_at-pow_other, bit_at-lt, bit_at_above}
use Rattle.std.proofs.lemmas.Nat.{one_shl, pow_below, mod_below}
use Rattle.std.proofs.lemmas.Bool.{both_ways, ne_eqb, eq-eqb, cases_lt, cases_eq, eqb-true, eqb-false, and_parts}
use Rattle.std.proofs.lemmas.Bool.Decides.{nat_tests}
use Rattle.bitset.specs.Sets.{has, many, Lowest}

-- an operation on two digits, told by a test on two tests
digits : (f : ℕ → ℕ → ℕ) (t : Bool → Bool → Bool)
    → eqb (f 0 0) 1 ≡ t false false → eqb (f 0 1) 1 ≡ t false true → eqb (f 1 0) 1 ≡ t true false → eqb (f 1 1) 1 ≡ t true true
    → (m n : ℕ) → m < 2 → n < 2 → eqb (f m n) 1 ≡ t (eqb m 1) (eqb n 1)
digits f t e00 e01 e10 e11 zero zero h k = e00
digits f t e00 e01 e10 e11 zero (suc zero) h k = e01
digits f t e00 e01 e10 e11 (suc zero) zero h k = e10
digits f t e00 e01 e10 e11 (suc zero) (suc zero) h k = e11
digits f t e00 e01 e10 e11 (suc (suc m)) n h k = absurd (omega arith)
digits f t e00 e01 e10 e11 m (suc (suc n)) h k = absurd (omega arith)

pub has_and : (x y p : ℕ) → has (bit_and x y) p ≡ (has x p && has y p)
unfolding has
has_and x y p = ap (λ n. eqb n 1) (bit_at_and x y p) ∙ digits min ◌&&◌ refl refl refl refl (bit_at x p) (bit_at y p) (bit_at-lt x p) (bit_at-lt y p)

pub has_or : (x y p : ℕ) → has (bit_or x y) p ≡ (has x p || has y p)
unfolding has
has_or x y p = ap (λ n. eqb n 1) (bit_at_or x y p) ∙ digits max ◌||◌ refl refl refl refl (bit_at x p) (bit_at y p) (bit_at-lt x p) (bit_at-lt y p)

pub has_none : (p : ℕ) → has 0 p ≡ false
unfolding has
has_none p = ap (λ n. eqb n 1) (bit_at-zero p)

pub not_empty : (x p : ℕ) → has x p ≡ true → 0 < x
not_empty x p h = elim (cases_lt 0 x) [
  | inl l ↦ l
  | inr l ↦ let z : x ≡ 0 = omega arith in absurd (both_ways (has x p) (ap (λ y. has y p) z ∙ has_none p) h)
]

-- the word 2 ^ q has place q alone
pub has_one : (q p : ℕ) → has (2 ^ q) p ≡ eqb p q
unfolding has
has_one q p = elim (cases_eq p q) [
  | inl e ↦ rw e (ap (λ n. eqb n 1) (bit_at-pow_same q) ∙ sym (eq-eqb q q refl))
  | inr ne ↦ ap (λ n. eqb n 1) (bit_at-pow_other q p ne) ∙ sym (ne_eqb p q ne)
]

-- a place is in a set where the word, moved down by so many places, is odd
pub has_digit : (x p : ℕ) → eqb (bit_and (x / 2 ^ p) 1) 1 ≡ has x p
unfolding has
has_digit x p = ap (λ n. eqb n 1) (and_mask (x / 2 ^ p) 1)

-- a word has no place past its end
pub has_past : (x p : ℕ) → x < 2 ^ 64 → 64 ≤ p → has x p ≡ false
unfolding has
has_past x p h l = ap (λ n. eqb n 1) (bit_at_above x 64 p h l)

-- the lowest place, and the places above it
pub digit : (x : ℕ) → has x 0 ≡ eqb (x % 2) 1
unfolding has
digit x = ap (λ n. eqb n 1) (bit_at_lowest x)

pub has_half : (x p : ℕ) → has x (suc p) ≡ has (x / 2) p
unfolding has
has_half x p = ap (λ n. eqb n 1) (bit_at-suc x p)

parity : (x : ℕ) → (x % 2 ≡ 0) ⊎ (x % 2 ≡ 1)
parity x = elim (cases_lt (x % 2) 1) [
  | inl l ↦ inl (omega arith)
  | inr l ↦ inr (omega (arith, mod_below x 2 (omega arith)))
]

even_digit : (x : ℕ) → x % 2 ≡ 0 → has x 0 ≡ false
even_digit x e = digit x ∙ ap (λ n. eqb n 1) e

odd_digit : (x : ℕ) → x % 2 ≡ 1 → has x 0 ≡ true
odd_digit x e = digit x ∙ ap (λ n. eqb n 1) e

-- the greatest word of k digits less another has the places that the other has not
pub has_not : (k x p : ℕ) → x < 2 ^ k → p < k → has (2 ^ k - 1 - x) p ≡ not (has x p)
has_not (suc k) x zero h l =
    let h' : x < 2 ^ k * 2 = rw (← pow-suc 2 k) h in
    elim (parity x) [
      | inl e ↦ odd_digit _ (rw pow-suc (omega (arith, h'))) ∙ ap not (sym (even_digit x e))
      | inr e ↦ even_digit _ (rw pow-suc (omega (arith, h'))) ∙ ap not (sym (odd_digit x e))
    ]
has_not (suc k) x (suc p) h l =
    let h' : x < 2 ^ k * 2 = rw (← pow-suc 2 k) h in
    let half : (2 ^ suc k - 1 - x) / 2 ≡ 2 ^ k - 1 - x / 2 = rw pow-suc (omega arith) in
    has_half (2 ^ suc k - 1 - x) p ∙ ap (λ n. has n p) half ∙ has_not k (x / 2) p (omega (arith, h')) (omega arith) ∙ ap not (sym (has_half x p))
has_not zero x p h l = absurd (omega arith)

pub has_minus : (x y p : ℕ) → x < 2 ^ 64 → y < 2 ^ 64 → has (bit_and x (2 ^ 64 - 1 - y)) p ≡ (has x p && not (has y p))
has_minus x y p hx hy = has_and x (2 ^ 64 - 1 - y) p ∙ elim (cases_lt p 64) [
  | inl l ↦ ap (λ b. has x p && b) (has_not 64 y p hy l)
  | inr l ↦ ap (λ b. b && has (2 ^ 64 - 1 - y) p) (has_past x p hx l) ∙ sym (ap (λ b. b && not (has y p)) (has_past x p hx l))
]

pub has_less : (x q p : ℕ) → x < 2 ^ 64 → q < 64 → has (bit_and x (2 ^ 64 - 1 - (1 * 2 ^ q) % 2 ^ 64)) p ≡ (has x p && not (eqb p q))
has_less x q p h l = rw (one_shl q 64 l) (has_minus x (2 ^ q) p h (pow_below q 64 l) ∙ ap (λ b. has x p && not b) (has_one q p))

-- what `count_ones` counts
pub ones_many : (k x : ℕ) → x < 2 ^ k → ones x ≡ many (has x) k
unfolding many ones has
ones_many zero x h = ap ones (lt-one h)
ones_many (suc k) x h =
    let h' : x < 2 ^ k * 2 = rw (← pow-suc 2 k) h in
    ones_step x ∙ ap₂ ◌+◌ (sym (bit_at_lowest x) ∙ one (bit_at x 0) (bit_at-lt x 0))
    (ones_many k (x / 2) (omega (arith, h')) ∙ ap (λ f. many f k) (fun_ext (λ p. ap (λ n. eqb n 1) (sym (bit_at-suc x p)))))
  where
    one : (n : ℕ) → n < 2 → n ≡ cond (eqb n 1) 1 0
    one zero l = refl
    one (suc zero) l = refl
    one (suc (suc n)) l = absurd (omega arith)

-- what `trailing_zeros` finds: the lowest place of a set that has one
pub trailing_lowest : (k x : ℕ) → x < 2 ^ k → 0 < x → Lowest x k (count_trailing_zeros k x)
unfolding count_trailing_zeros
trailing_lowest zero x h l = absurd (omega arith)
trailing_lowest (suc k) x h l = go (parity x) (rw (← pow-suc 2 k) h) (trailing_lowest k (x / 2))
  where
    up : (t : ℕ) → x % 2 ≡ 0 → Lowest (x / 2) k t → Lowest x (suc k) (suc t)
    up t e low = record {
      within = omega (arith, low.within);
      there = has_half x t ∙ low.there;
      none_below = elim [ zero ↦ λ _. even_digit x e | suc p ↦ λ l. has_half x p ∙ low.none_below p (omega arith) ];
    }

    go : (x % 2 ≡ 0) ⊎ (x % 2 ≡ 1) → x < 2 ^ k * 2 → (x / 2 < 2 ^ k → 0 < x / 2 → Lowest (x / 2) k (count_trailing_zeros k (x / 2)))
        → Lowest x (suc k) (under (x % 2) (count_trailing_zeros k (x / 2)))
    go (inl e) h' rest = rw e (up (count_trailing_zeros k (x / 2)) e (rest (omega (arith, h')) (omega arith)))
    go (inr e) h' rest = rw e (record { within = omega arith; there = odd_digit x e; none_below = λ p l. absurd (omega arith) })

-- places within a word, and past it
pub place_within : (q p : ℕ) → q < 64 → (ltb p 64 && eqb p q) ≡ eqb p q
place_within q p h = grind (arith, nat_tests)

pub without_past : (x q p : ℕ) → x < 2 ^ 64 → 64 ≤ q → has x p ≡ (has x p && not (eqb p q))
without_past x q p h l = elim (cases_eq p q) [
  | inl e ↦ has_past x p h (omega arith) ∙ sym (ap (λ b. b && not (eqb p q)) (has_past x p h (omega arith)))
  | inr ne ↦ sym (ap (λ b. has x p && not b) (ne_eqb p q ne) ∙ and-true (has x p))
]

-- a set that is empty, or its lowest place
pub none_or_some : (x : ℕ) → x < 2 ^ 64 → MatchBool (eqb x 0) (x ≡ 0) ((p : ℕ) × (has x p ≡ true))
none_or_some x h = told (eqb x 0) refl
  where
    told : (b : Bool) → eqb x 0 ≡ b → MatchBool b (x ≡ 0) ((p : ℕ) × (has x p ≡ true))
    told true e = eqb-true x 0 e
    told false e = (count_trailing_zeros 64 x, (trailing_lowest 64 x h (omega (arith, eqb-false x 0 e))).there)

-- the lowest place of the common part, or no common place
pub common : (x y : ℕ) → x < 2 ^ 64 → y < 2 ^ 64
    → MatchBool (not (eqb (bit_and x y) 0)) ((p : ℕ) × (p < 64) × (has x p ≡ true) × (has y p ≡ true)) ((p : ℕ) → has x p ≡ true → has y p ≡ false)
common x y hx hy = told (eqb (bit_and x y) 0) refl
  where
    told : (b : Bool) → eqb (bit_and x y) 0 ≡ b → MatchBool (not b) ((p : ℕ) × (p < 64) × (has x p ≡ true) × (has y p ≡ true)) ((p : ℕ) → has x p ≡ true → has y p ≡ false)
    told true e = λ p h. ap (λ b. b && has y p) (sym h) ∙ sym (has_and x y p) ∙ ap (λ z. has z p) (eqb-true (bit_and x y) 0 e) ∙ has_none p
    told false e =
        let low : Lowest (bit_and x y) 64 (count_trailing_zeros 64 (bit_and x y)) = trailing_lowest 64 (bit_and x y) (and_lt 64 x y hx hy) (omega (arith, eqb-false (bit_and x y) 0 e)) in
        let t = count_trailing_zeros 64 (bit_and x y) in
        let both = and_parts (has x t) (has y t) (sym (has_and x y t) ∙ low.there) in
        (t, low.within, both.0, both.1)
