-- Counts and parts of lists that are made by `++`, `joined` and `flat_map`.
use Rattle.std.proofs.Common.{◌≡◌, ℕ, ◌+◌, ◌≤◌, eqb, List, [], ◌∷◌, ◌++◌, map, length, sum_by, count_by, sym, refl, ap, ◌∙◌, subst, inl, inr, append_assoc, append-nil, arith}
use Rattle.std.specs.List.{flat_map}
use Rattle.std.proofs.lemmas.List.Sums.{sum_by-cons}
use Rattle.std.proofs.lemmas.Bool.{cases_lt, cases_eq, eq-eqb, ne_eqb, cond-true, cond-false}
use Rattle.std.proofs.lemmas.Grind.{common_steps}
use Rattle.plans.specs.declared.Direction.{Direction}
use Rattle.plans.specs.declared.Direction.TheVariants.{Left, Right}
use Rattle.grammar.specs.Members.{◌∈◌}
use Rattle.grammar.specs.Members.{Apart}
use Rattle.walk.specs.Walks.{joined, Inside, OnceEach}

module _ {A : Type 0} where
  pub length-joined : (d : Direction) (xs ys : List A) → length (joined d xs ys) ≡ length xs + length ys
  length-joined d xs ys = grind (arith, common_steps)

  pub inside_self : (part : List A) → Inside part part
  inside_self part = record { before = []; behind = []; split = sym (append-nil part) }

  pub inside_left : (part xs ys : List A) → Inside part xs → Inside part (xs ++ ys)
  inside_left part xs ys h = record { before = h.before; behind = h.behind ++ ys; split = rw h.split (simp append_assoc) }

  pub inside_right : (part xs ys : List A) → Inside part ys → Inside part (xs ++ ys)
  inside_right part xs ys h = record { before = xs ++ h.before; behind = h.behind; split = rw h.split (simp append_assoc) }

  pub inside_first : (d : Direction) (part xs ys : List A) → Inside part xs → Inside part (joined d xs ys)
  inside_first Left part xs ys h = inside_left part xs ys h
  inside_first Right part xs ys h = inside_right part ys xs h

  pub inside_second : (d : Direction) (part xs ys : List A) → Inside part ys → Inside part (joined d xs ys)
  inside_second Left part xs ys h = inside_right part xs ys h
  inside_second Right part xs ys h = inside_left part ys xs h

module _ {A B : Type 0} (f : A → List B) where
  pub flat_joined : (d : Direction) (xs ys : List A) → flat_map f (joined d xs ys) ≡ joined d (flat_map f xs) (flat_map f ys)
  flat_joined d xs ys = grind (arith, common_steps)

pub map-joined : {A B : Type 0} (f : A → B) (d : Direction) (xs ys : List A) → map f (joined d xs ys) ≡ joined d (map f xs) (map f ys)
map-joined f d xs ys = grind (arith, common_steps)

pub sum_by-joined : {A : Type 0} (f : A → ℕ) (d : Direction) (xs ys : List A) → sum_by f (joined d xs ys) ≡ sum_by f xs + sum_by f ys
sum_by-joined f d xs ys = grind (arith, common_steps)

-- one number before a list: it counts where it is the number that is counted
counts_first : (n : ℕ) (xs : List ℕ) → count_by (eqb n) (n ∷ xs) ≡ 1 + count_by (eqb n) xs
counts_first n xs = sum_by-cons _ n xs ∙ ap (λ k. k + count_by (eqb n) xs) (cond-true (eqb n n) 1 0 (eq-eqb n n refl))

counts_other : (n x : ℕ) (xs : List ℕ) → (n ≡ x → ⊥) → count_by (eqb n) (x ∷ xs) ≡ count_by (eqb n) xs
counts_other n x xs h = sum_by-cons _ x xs ∙ ap (λ k. k + count_by (eqb n) xs) (cond-false (eqb n x) 1 0 (ne_eqb n x h)) ∙ omega arith

counts_member : (n : ℕ) (xs : List ℕ) → n ∈ xs → 1 ≤ count_by (eqb n) xs
counts_member n [] m = absurd m
counts_member n (x ∷ xs) (inl e) = rw (← e) (omega (arith, counts_first n xs))
counts_member n (x ∷ xs) (inr m) = elim (cases_eq n x) [
  | inl e ↦ rw (← e) (omega (arith, counts_first n xs))
  | inr h ↦ omega (arith, counts_other n x xs h, counts_member n xs m)
]

member_counted : (n : ℕ) (xs : List ℕ) → 1 ≤ count_by (eqb n) xs → n ∈ xs
member_counted n [] h = absurd (omega arith)
member_counted n (x ∷ xs) h = elim (cases_eq n x) [ inl e ↦ inl e | inr o ↦ inr (member_counted n xs (omega (arith, counts_other n x xs o))) ]

counts_no_member : (n : ℕ) (xs : List ℕ) → (n ∈ xs → ⊥) → count_by (eqb n) xs ≡ 0
counts_no_member n xs h = elim (cases_lt 0 (count_by (eqb n) xs)) [ inl l ↦ absurd (h (member_counted n xs (omega arith))) | inr l ↦ omega arith ]

counts_apart : (n : ℕ) (xs : List ℕ) → Apart xs → n ∈ xs → count_by (eqb n) xs ≡ 1
counts_apart n [] a m = absurd m
counts_apart n (x ∷ xs) a (inl e) = rw (← e) (omega (arith, counts_first n xs, counts_no_member n xs (λ m. a.0 (subst (λ y. y ∈ xs) e m))))
counts_apart n (x ∷ xs) a (inr m) = omega (arith, counts_other n x xs (λ e. a.0 (subst (λ y. y ∈ xs) e m)), counts_apart n xs a.1 m)

-- a list that has each number as often as a list without repetition
pub once_each_by_counts : (xs these : List ℕ) → Apart these → ((n : ℕ) → count_by (eqb n) xs ≡ count_by (eqb n) these) → OnceEach xs these
once_each_by_counts xs these a same = record {
  once = λ n m. same n ∙ counts_apart n these a m;
  only = λ n m. member_counted n these (omega (arith, same n, counts_member n xs m));
}
