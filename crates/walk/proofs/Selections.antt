-- Members of lists by place, kept by a test, and counted.
use Rattle.std.proofs.Common.{◌≡◌, ℕ, zero, suc, ◌+◌, ◌<◌, ◌≤◌, Bool, true, cond, List, [], ◌∷◌, length, get_or, filter, sym, ap, ◌∙◌, subst, inl, inr, arith}
use Rattle.std.specs.List.{range_with_len}
use Rattle.std.proofs.lemmas.Bool.{cases_Bool, cases_eq}
use Rattle.grammar.specs.Members.{◌∈◌}
use Rattle.grammar.specs.Members.{Apart}

module _ {X : Type 0} where
  pub member_place : (xs : List X) (x d : X) → x ∈ xs → (i : ℕ) × (i < length xs) × (get_or xs i d ≡ x)
  member_place [] x d m = absurd m
  member_place (y ∷ ys) x d (inl e) = (0, omega arith, sym e)
  member_place (y ∷ ys) x d (inr m) = let h = member_place ys x d m in (suc h.0, omega (arith, h.1), h.2)

  pub kept_member : (test : X → Bool) (xs : List X) (x : X) → x ∈ filter test xs → (x ∈ xs) × (test x ≡ true)
  kept_member test [] x m = absurd m
  kept_member test (y ∷ ys) x m = elim (cases_Bool (test y)) [
    | inl h ↦ elim (subst (λ b. x ∈ cond b (y ∷ filter test ys) (filter test ys)) h m) as (λ _. (x ∈ (y ∷ ys)) × (test x ≡ true)) [
      | inl e ↦ (inl e, ap test e ∙ h)
      | inr k ↦ let r = kept_member test ys x k in (inr r.0, r.1)
    ]
    | inr h ↦ let r = kept_member test ys x (subst (λ b. x ∈ cond b (y ∷ filter test ys) (filter test ys)) h m) in (inr r.0, r.1)
  ]

  pub member_kept : (test : X → Bool) (xs : List X) (x : X) → x ∈ xs → test x ≡ true → x ∈ filter test xs
  member_kept test [] x m h = absurd m
  member_kept test (y ∷ ys) x (inl e) h = rw (ap test (sym e) ∙ h) (inl e)
  member_kept test (y ∷ ys) x (inr m) h = elim (cases_Bool (test y)) [
    | inl k ↦ rw k (inr (member_kept test ys x m h))
    | inr k ↦ rw k (member_kept test ys x m h)
  ]

pub counted_member : (first count a : ℕ) → a ∈ range_with_len first count → (first ≤ a) × (a < first + count)
counted_member first zero a m = absurd m
counted_member first (suc count) a (inl e) = (omega arith, omega arith)
counted_member first (suc count) a (inr m) = let h = counted_member (first + 1) count a m in (omega (arith, h.0), omega (arith, h.1))

pub member_counted : (first count a : ℕ) → first ≤ a → a < first + count → a ∈ range_with_len first count
member_counted first zero a low high = absurd (omega arith)
member_counted first (suc count) a low high = elim (cases_eq a first) [ inl e ↦ inl e | inr n ↦ inr (member_counted (first + 1) count a (omega arith) (omega arith)) ]

pub apart_counted : (first count : ℕ) → Apart (range_with_len first count)
apart_counted first zero = tt
apart_counted first (suc count) = (λ m. let h = counted_member (first + 1) count first m in omega (arith, h.0), apart_counted (first + 1) count)

pub apart_kept : (test : ℕ → Bool) (xs : List ℕ) → Apart xs → Apart (filter test xs)
apart_kept test [] a = tt
apart_kept test (x ∷ xs) a = elim (cases_Bool (test x)) [
  | inl h ↦ rw h (λ m. a.0 (kept_member test xs x m).0, apart_kept test xs a.1)
  | inr h ↦ rw h (apart_kept test xs a.1)
]
