-- Members of joined lists, and lists without repetition.
use Rattle.std.proofs.Common.{◌⊎◌, List, [], ◌∷◌, ◌++◌, refl, subst, inl, inr}
use Rattle.grammar.specs.Members.{◌∈◌}
use Rattle.grammar.specs.Members.{Apart}

module _ {A : Type 0} where
  pub in_left : (xs ys : List A) (x : A) → x ∈ xs → x ∈ (xs ++ ys)
  in_left [] ys x m = absurd m
  in_left (z ∷ xs) ys x (inl e) = inl e
  in_left (z ∷ xs) ys x (inr m) = inr (in_left xs ys x m)

  pub in_right : (xs ys : List A) (x : A) → x ∈ ys → x ∈ (xs ++ ys)
  in_right [] ys x m = m
  in_right (z ∷ xs) ys x m = inr (in_right xs ys x m)

  pub in_either : (xs ys : List A) (x : A) → x ∈ (xs ++ ys) → (x ∈ xs) ⊎ (x ∈ ys)
  in_either [] ys x m = inr m
  in_either (z ∷ xs) ys x (inl e) = inl (inl e)
  in_either (z ∷ xs) ys x (inr m) = elim (in_either xs ys x m) [ inl h ↦ inl (inr h) | inr h ↦ inr h ]

  pub apart_left : (xs ys : List A) → Apart (xs ++ ys) → Apart xs
  apart_left [] ys a = tt
  apart_left (x ∷ xs) ys a = (λ m. a.0 (in_left xs ys x m), apart_left xs ys a.1)

  pub apart_right : (xs ys : List A) → Apart (xs ++ ys) → Apart ys
  apart_right [] ys a = a
  apart_right (x ∷ xs) ys a = apart_right xs ys a.1

  pub never_both : (xs ys : List A) (x : A) → Apart (xs ++ ys) → x ∈ xs → x ∈ ys → ⊥
  never_both [] ys x a l r = l
  never_both (z ∷ xs) ys x a (inl e) r = a.0 (in_right xs ys z (subst (λ y. y ∈ ys) e r))
  never_both (z ∷ xs) ys x a (inr l) r = never_both xs ys x a.1 l r

  pub apart_append : (xs ys : List A) → Apart xs → Apart ys → ((x : A) → x ∈ xs → x ∈ ys → ⊥) → Apart (xs ++ ys)
  apart_append [] ys a b h = b
  apart_append (x ∷ xs) ys a b h = (
    λ m. elim (in_either xs ys x m) [ inl l ↦ a.0 l | inr r ↦ h x (inl refl) r ],
    apart_append xs ys a.1 b (λ y l r. h y (inr l) r),
  )
