-- One member of a list before another, and lists without repetition.
use Rattle.std.proofs.Common.{◌≡◌, ◌⊎◌, List, [], ◌∷◌, ◌++◌, sym, refl, ap, ◌∙◌, subst, inl, inr}
use Rattle.grammar.specs.Members.{◌∈◌}
use Rattle.plans.specs.declared.Direction.{Direction}
use Rattle.plans.specs.declared.Direction.TheVariants.{Left, Right}
use Rattle.grammar.specs.Members.{Apart}
use Rattle.trees.proofs.Lists.{in_left, in_right, apart_append}
use Rattle.walk.specs.Walks.{Step, joined}
use Rattle.walk.specs.Turns.{Earlier}
use Rattle.walk.proofs.Members.{member_splits}

module _ {A : Type 0} where
  -- x stands before y
  abbrev pub ComesBefore : List A → A → A → Type 0
  ComesBefore [] x y = ⊥
  ComesBefore (z ∷ zs) x y = ((x ≡ z) × (y ∈ zs)) ⊎ ComesBefore zs x y

  pub before_left : (x y : A) (xs ys : List A) → ComesBefore xs x y → ComesBefore (xs ++ ys) x y
  before_left x y [] ys h = absurd h
  before_left x y (z ∷ xs) ys (inl h) = inl (h.0, in_left xs ys y h.1)
  before_left x y (z ∷ xs) ys (inr h) = inr (before_left x y xs ys h)

  pub before_right : (x y : A) (xs ys : List A) → ComesBefore ys x y → ComesBefore (xs ++ ys) x y
  before_right x y [] ys h = h
  before_right x y (z ∷ xs) ys h = inr (before_right x y xs ys h)

  pub before_across : (x y : A) (xs ys : List A) → x ∈ xs → y ∈ ys → ComesBefore (xs ++ ys) x y
  before_across x y [] ys m n = absurd m
  before_across x y (z ∷ xs) ys (inl e) n = inl (e, in_right xs ys y n)
  before_across x y (z ∷ xs) ys (inr m) n = inr (before_across x y xs ys m n)

  pub before_first : (d : Direction) (x y : A) (xs ys : List A) → ComesBefore xs x y → ComesBefore (joined d xs ys) x y
  before_first Left x y xs ys h = before_left x y xs ys h
  before_first Right x y xs ys h = before_right x y ys xs h

  pub before_second : (d : Direction) (x y : A) (xs ys : List A) → ComesBefore ys x y → ComesBefore (joined d xs ys) x y
  before_second Left x y xs ys h = before_right x y xs ys h
  before_second Right x y xs ys h = before_left x y ys xs h

  before_members : (x y : A) (xs : List A) → ComesBefore xs x y → (x ∈ xs) × (y ∈ xs)
  before_members x y [] h = absurd h
  before_members x y (z ∷ zs) (inl h) = (inl h.0, inr h.1)
  before_members x y (z ∷ zs) (inr h) = let m = before_members x y zs h in (inr m.0, inr m.1)

  pub apart_joined : (d : Direction) (xs ys : List A) → Apart xs → Apart ys → ((x : A) → x ∈ xs → x ∈ ys → ⊥) → Apart (joined d xs ys)
  apart_joined Left xs ys p q h = apart_append xs ys p q h
  apart_joined Right xs ys p q h = apart_append ys xs q p (λ x m n. h x n m)

  -- in a list without repetition no two members stand each before the other
  pub one_way : (x y : A) (xs : List A) → Apart xs → ComesBefore xs x y → ComesBefore xs y x → ⊥
  one_way x y [] o h k = h
  one_way x y (z ∷ zs) o (inl h) (inl k) = o.0 (subst (λ w. w ∈ zs) h.0 k.1)
  one_way x y (z ∷ zs) o (inl h) (inr k) = o.0 (subst (λ w. w ∈ zs) h.0 (before_members y x zs k).1)
  one_way x y (z ∷ zs) o (inr h) (inl k) = o.0 (subst (λ w. w ∈ zs) k.0 (before_members x y zs h).1)
  one_way x y (z ∷ zs) o (inr h) (inr k) = one_way x y zs o.1 h k

pub earlier : (steps : List Step) (x y : Step) → ComesBefore steps x y → Earlier steps x y
earlier [] x y h = absurd h
earlier (z ∷ zs) x y (inl h) =
    let s = member_splits zs y h.1 in
    record { before = []; between = s.0; behind = s.1; split = ap (λ w. w ∷ zs) (sym h.0) ∙ ap (λ l. x ∷ l) s.2 }
earlier (z ∷ zs) x y (inr h) =
    let e = earlier zs x y h in
    record { before = z ∷ e.before; between = e.between; behind = e.behind; split = ap (λ l. z ∷ l) e.split }

pub comes_before : (steps : List Step) (x y : Step) → Earlier steps x y → ComesBefore steps x y
comes_before steps x y e =
    subst (λ l. ComesBefore l x y) (sym e.split)
    (before_right x y e.before (x ∷ (e.between ++ y ∷ e.behind)) (inl (refl, in_right e.between (y ∷ e.behind) y (inl refl))))
