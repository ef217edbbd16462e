-- Which things of a row are reached: the records of a table, or nodes.
use Rattle.std.proofs.Common.{◌≡◌, ℕ, zero, suc, ◌<◌, Bool, true, false, List, [], ◌∷◌, ◌++◌, length, get_or, set, replicate, sym, refl, ap, ◌∙◌, inl, inr, arith, length-set}
use Rattle.std.specs.List.{AllByRecursion}
use Rattle.std.proofs.lemmas.List.{get_or-set_same, get_or-set_other}
use Rattle.std.proofs.lemmas.Bool.{both_ways}
use Rattle.std.proofs.lemmas.Grind.{common_steps}
use Rattle.grammar.specs.Members.{◌∈◌, Apart}

-- the marks after some are reached in order
abbrev pub reach : List ℕ → List Bool → List Bool
reach [] s = s
reach (n ∷ ns) s = reach ns (set s n true)

-- some that are reached in order, none of them twice
abbrev pub Fresh : List ℕ → List Bool → Type 0
Fresh [] s = Unit {0}
Fresh (n ∷ ns) s = (n < 4096) × (get_or s n false ≡ false) × Fresh ns (set s n true)

pub reach_append : (xs ys : List ℕ) (s : List Bool) → reach (xs ++ ys) s ≡ reach ys (reach xs s)
reach_append [] ys s = refl
reach_append (x ∷ xs) ys s = reach_append xs ys (set s x true)

pub length-reach : (xs : List ℕ) (s : List Bool) → length (reach xs s) ≡ length s
length-reach [] s = refl
length-reach (x ∷ xs) s = length-reach xs (set s x true) ∙ length-set s x true

pub fresh_append : (xs ys : List ℕ) (s : List Bool) → Fresh xs s → Fresh ys (reach xs s) → Fresh (xs ++ ys) s
fresh_append [] ys s f h = h
fresh_append (x ∷ xs) ys s f h = (f.0, f.1, fresh_append xs ys (set s x true) f.2 h)

pub fresh_left : (xs ys : List ℕ) (s : List Bool) → Fresh (xs ++ ys) s → Fresh xs s
fresh_left [] ys s f = tt
fresh_left (x ∷ xs) ys s f = (f.0, f.1, fresh_left xs ys (set s x true) f.2)

pub fresh_right : (xs ys : List ℕ) (s : List Bool) → Fresh (xs ++ ys) s → Fresh ys (reach xs s)
fresh_right [] ys s f = f
fresh_right (x ∷ xs) ys s f = fresh_right xs ys (set s x true) f.2

-- what is marked stays so
pub still_marked : (s : List Bool) (n m : ℕ) → n < length s → get_or s m false ≡ true → get_or (set s n true) m false ≡ true
still_marked s n m l h = grind (arith, common_steps)

-- what is marked is not reached again
marked : (xs : List ℕ) (s : List Bool) (x : ℕ) → length s ≡ 4096 → get_or s x false ≡ true → Fresh xs s → x ∈ xs → ⊥
marked [] s x n m f h = h
marked (y ∷ ys) s x n m f (inl e) = both_ways (get_or s y false) f.1 (ap (λ z. get_or s z false) (sym e) ∙ m)
marked (y ∷ ys) s x n m f (inr h) = marked ys (set s y true) x (simp length-set n) (still_marked s y x (omega arith) m) f.2 h

pub apart_from_fresh : (xs : List ℕ) (s : List Bool) → length s ≡ 4096 → Fresh xs s → Apart xs
apart_from_fresh [] s n f = tt
apart_from_fresh (x ∷ xs) s n f = (
  marked xs (set s x true) x (simp length-set n) (get_or-set_same s x true false (omega arith)) f.2,
  apart_from_fresh xs (set s x true) (simp length-set n) f.2,
)

pub fresh_from_apart : (xs : List ℕ) (s : List Bool) → AllByRecursion (λ x. x < 4096) xs → Apart xs → ((x : ℕ) → x ∈ xs → get_or s x false ≡ false) → Fresh xs s
fresh_from_apart [] s l a h = tt
fresh_from_apart (x ∷ xs) s l a h =
    (l.0, h x (inl refl), fresh_from_apart xs (set s x true) l.1 a.1 (λ y m. get_or-set_other s x y true false (λ e. a.0 (rw (← e) m)) ∙ h y (inr m)))

pub unmarked : (n x : ℕ) → get_or (replicate n false) x false ≡ false
unmarked zero x = refl
unmarked (suc n) zero = refl
unmarked (suc n) (suc x) = unmarked n x
