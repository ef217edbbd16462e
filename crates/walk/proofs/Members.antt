-- The members of lists: by place, and of joined, mapped and flattened lists.
use Rattle.std.proofs.Common.{◌≡◌, ℕ, zero, suc, ◌<◌, ◌⊎◌, List, [], ◌∷◌, ◌++◌, map, length, get_or, sym, refl, ap, subst, inl, inr, arith}
use Rattle.std.specs.List.{flat_map}
use Rattle.plans.specs.declared.Direction.{Direction}
use Rattle.plans.specs.declared.Direction.TheVariants.{Left, Right}
use Rattle.grammar.specs.Members.{◌∈◌}
use Rattle.trees.proofs.Lists.{in_left, in_right, in_either}
use Rattle.walk.specs.Walks.{joined}

module _ {A : Type 0} where
  pub joined_first : (d : Direction) (xs ys : List A) (x : A) → x ∈ xs → x ∈ joined d xs ys
  joined_first Left xs ys x m = in_left xs ys x m
  joined_first Right xs ys x m = in_right ys xs x m

  pub joined_second : (d : Direction) (xs ys : List A) (x : A) → x ∈ ys → x ∈ joined d xs ys
  joined_second Left xs ys x m = in_right xs ys x m
  joined_second Right xs ys x m = in_left ys xs x m

  pub joined_either : (d : Direction) (xs ys : List A) (x : A) → x ∈ joined d xs ys → (x ∈ xs) ⊎ (x ∈ ys)
  joined_either Left xs ys x m = in_either xs ys x m
  joined_either Right xs ys x m = elim (in_either ys xs x m) [ inl h ↦ inr h | inr h ↦ inl h ]

  pub get_or_in : (xs : List A) (i : ℕ) (d : A) → i < length xs → get_or xs i d ∈ xs
  get_or_in [] i d l = absurd (omega arith)
  get_or_in (x ∷ xs) zero d l = inl refl
  get_or_in (x ∷ xs) (suc i) d l = inr (get_or_in xs i d (omega arith))

  pub member_splits : (xs : List A) (x : A) → x ∈ xs → (before : List A) × (behind : List A) × (xs ≡ before ++ x ∷ behind)
  member_splits [] x m = absurd m
  member_splits (y ∷ ys) x (inl e) = ([], ys, ap (λ z. z ∷ ys) (sym e))
  member_splits (y ∷ ys) x (inr m) = let h = member_splits ys x m in (y ∷ h.0, h.1, ap (λ l. y ∷ l) h.2)

module _ {A B : Type 0} (f : A → B) where
  pub in_map : (xs : List A) (x : A) → x ∈ xs → f x ∈ map f xs
  in_map [] x m = absurd m
  in_map (z ∷ xs) x (inl e) = inl (ap f e)
  in_map (z ∷ xs) x (inr m) = inr (in_map xs x m)

  pub from_map : (xs : List A) (y : B) → y ∈ map f xs → (x : A) × (x ∈ xs) × (y ≡ f x)
  from_map [] y m = absurd m
  from_map (z ∷ xs) y (inl e) = (z, inl refl, e)
  from_map (z ∷ xs) y (inr m) = let r = from_map xs y m in (r.0, inr r.1, r.2)

module _ {A B : Type 0} (f : A → List B) where
  pub in_flat : (xs : List A) (x : A) (y : B) → x ∈ xs → y ∈ f x → y ∈ flat_map f xs
  in_flat [] x y m n = absurd m
  in_flat (z ∷ xs) x y (inl e) n = in_left (f z) (flat_map f xs) y (subst (λ w. y ∈ f w) e n)
  in_flat (z ∷ xs) x y (inr m) n = in_right (f z) (flat_map f xs) y (in_flat xs x y m n)

  pub from_flat : (xs : List A) (y : B) → y ∈ flat_map f xs → (x : A) × (x ∈ xs) × (y ∈ f x)
  from_flat [] y m = absurd m
  from_flat (z ∷ xs) y m = elim (in_either (f z) (flat_map f xs) y m) [
    | inl h ↦ (z, inl refl, h)
    | inr h ↦ let r = from_flat xs y h in (r.0, inr r.1, r.2)
  ]
