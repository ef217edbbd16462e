-- Bits: those of a join are those of its parts, and those of a label tell where its arc goes.
use Rattle.std.proofs.Common.{◌≡◌, ℕ, zero, suc, ◌+◌, ◌/◌, ◌%◌, ◌<◌, ◌≤◌, Bool, true, false, cond, not, ◌||◌, eqb, leb, Decides, sym, refl, ap, ◌∙◌, ap₂, inl, inr, arith, lit<}
use lib.Arith.{bin_ind}
use lib.Bits.{bit_and, bit_or, and_zero_r, or_add_and, and_le_r, and_shr, or_shr, and_mod, or_mod}
use Rattle.std.proofs.lemmas.Nat.{mod_below}
use Rattle.std.proofs.lemmas.Bool.{leb-true, le-leb, ne_eqb}
use Rattle.std.proofs.lemmas.Bool.Decides.{eqb_tells, Decides-and, Decides-at}
use Rattle.plans.specs.declared.Direction.{Direction}
use Rattle.plans.specs.declared.Direction.TheVariants.{Left, Right}
use Rattle.grammar.specs.Arcs.{Ahead, ahead, bar, label, precedence}

-- bits have one of the bits of a mark
abbrev pub marked : ℕ → ℕ → Bool
marked mark bits = not (eqb (bit_and bits mark) 0)

digit_meet_join : (x y m : ℕ) → x < 2 → y < 2 → m < 2 → bit_and (bit_or x y) m ≡ bit_or (bit_and x m) (bit_and y m)
digit_meet_join zero y m hx hy hm = refl
digit_meet_join (suc zero) zero zero hx hy hm = refl
digit_meet_join (suc zero) zero (suc zero) hx hy hm = refl
digit_meet_join (suc zero) (suc zero) zero hx hy hm = refl
digit_meet_join (suc zero) (suc zero) (suc zero) hx hy hm = refl
digit_meet_join (suc zero) zero (suc (suc m)) hx hy hm = absurd (omega arith)
digit_meet_join (suc zero) (suc zero) (suc (suc m)) hx hy hm = absurd (omega arith)
digit_meet_join (suc zero) (suc (suc y)) m hx hy hm = absurd (omega arith)
digit_meet_join (suc (suc x)) y m hx hy hm = absurd (omega arith)

by_digits : (m n : ℕ) → m / 2 ≡ n / 2 → m % 2 ≡ n % 2 → m ≡ n
by_digits m n high low = omega arith

pub meet_join : (m x y : ℕ) → bit_and (bit_or x y) m ≡ bit_or (bit_and x m) (bit_and y m)
meet_join = bin_ind (λ (m : ℕ). (x y : ℕ) → bit_and (bit_or x y) m ≡ bit_or (bit_and x m) (bit_and y m))
    (λ x y. and_zero_r (bit_or x y) ∙ sym (ap₂ bit_or (and_zero_r x) (and_zero_r y)))
    (λ m half x y. by_digits _ _
    (and_shr (bit_or x y) m 1 ∙ ap (λ n. bit_and n (m / 2)) (or_shr x y 1) ∙ half (x / 2) (y / 2)
    ∙ sym (or_shr (bit_and x m) (bit_and y m) 1 ∙ ap₂ bit_or (and_shr x m 1) (and_shr y m 1)))
    (and_mod (bit_or x y) m 1 ∙ ap (λ n. bit_and n (m % 2)) (or_mod x y 1) ∙ digit_meet_join (x % 2) (y % 2) (m % 2) (mod_below x 2 two) (mod_below y 2 two) (mod_below m 2 two)
    ∙ sym (or_mod (bit_and x m) (bit_and y m) 1 ∙ ap₂ bit_or (and_mod x m 1) (and_mod y m 1))))
  where
    two : 0 < 2
    two = lit< tt

pub marked_join : (m x y : ℕ) → marked m (bit_or x y) ≡ (marked m x || marked m y)
marked_join m x y = ap (λ n. not (eqb n 0)) (meet_join m x y) ∙ not_blank (bit_and x m) (bit_and y m)
  where
    not_blank : (p q : ℕ) → not (eqb (bit_or p q) 0) ≡ (not (eqb p 0) || not (eqb q 0))
    not_blank p q = elim (eqb_tells p 0) [
      | inl e ↦ rw e.0 (ap (λ n. not (eqb (bit_or n q) 0)) e.1)
      | inr e ↦ rw e.0 (ap not (ne_eqb _ 0 (λ z. e.1 (omega (arith, z, or_add_and p q, and_le_r p q)))))
    ]

-- the bits of a label, told by where its arc goes
pub label_precedes : (j k : ℕ) → marked precedence (label j k) ≡ true
label_precedes j k = bits (ahead Left j k) (ahead Right j k)
  where
    bits : (left right : Bool) → marked 1 (1 + cond left 2 0 + cond right 4 0) ≡ true
    bits true true = refl
    bits true false = refl
    bits false true = refl
    bits false false = refl

label_bars : (d : Direction) (j k : ℕ) → marked (bar d) (label j k) ≡ ahead d j k
label_bars Left j k = bits (ahead Left j k) (ahead Right j k)
  where
    bits : (left right : Bool) → marked 2 (1 + cond left 2 0 + cond right 4 0) ≡ left
    bits true true = refl
    bits true false = refl
    bits false true = refl
    bits false false = refl
label_bars Right j k = bits (ahead Left j k) (ahead Right j k)
  where
    bits : (left right : Bool) → marked 4 (1 + cond left 2 0 + cond right 4 0) ≡ right
    bits true true = refl
    bits true false = refl
    bits false true = refl
    bits false false = refl

decides_leb : (m n : ℕ) → Decides (leb m n) (m ≤ n)
decides_leb m n = (leb-true m n, le-leb m n)

pub ahead_decides : (d : Direction) (j k : ℕ) → Decides (ahead d j k) (Ahead d j k)
ahead_decides Left j k = Decides-and _ _ (decides_leb 1 k) (decides_leb k j)
ahead_decides Right j k = Decides-and _ _ (decides_leb 1 j) (decides_leb j k)

pub label_decides : (d : Direction) (j k : ℕ) → Decides (marked (bar d) (label j k)) (Ahead d j k)
label_decides d j k = Decides-at _ _ (label_bars d j k) (ahead_decides d j k)
