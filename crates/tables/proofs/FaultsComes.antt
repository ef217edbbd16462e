-- What a reading comes to: a value with a fact, or a refusal with a fault.
use Rattle.std.proofs.Common.{◌≡◌, Bool, true, false, cond, List, Some, None, Ok, Err, Option, Result, refl}
use Rattle.refusal.specs.declared.Refusal.{Refusal}
use Rattle.tables.specs.Chains.{Reading, and_then}
use Rattle.tables.specs.Reading.{require}

abbrev pub Comes : {A : Type 0} → (Refusal → Type 0) → (A → List Bool → Type 0) → Result (A × List Bool) Refusal → Type 0
Comes Q G (Ok p) = G p.0 p.1
Comes Q G (Err e) = Q e

pub comes_then : {A B : Type 0} (Q : Refusal → Type 0) (G : A → List Bool → Type 0) (H : B → List Bool → Type 0) (r : Result (A × List Bool) Refusal) (k : A → Reading B)
    → Comes Q G r → ((a : A) (s : List Bool) → G a s → Comes Q H (k a s)) → Comes Q H (and_then r k)
comes_then Q G H (Ok p) k c f = f p.0 p.1 c
comes_then Q G H (Err e) k c f = c

pub comes_cond : {A : Type 0} (Q : Refusal → Type 0) (G : A → List Bool → Type 0) (b : Bool) (x y : Result (A × List Bool) Refusal)
    → (b ≡ true → Comes Q G x) → (b ≡ false → Comes Q G y) → Comes Q G (cond b x y)
comes_cond Q G true x y t f = t refl
comes_cond Q G false x y t f = f refl

pub comes_require : {A : Type 0} (Q : Refusal → Type 0) (G : A → List Bool → Type 0) (o : Option A) (e : Refusal) (s : List Bool)
    → ((a : A) → o ≡ Some a → G a s) → (o ≡ None → Q e) → Comes Q G (require o e s)
comes_require Q G (Some a) e s t f = t a refl
comes_require Q G None e s t f = f refl
