-- What follows from a reading's outcome that is no refusal.
use Rattle.std.proofs.Common.{◌≡◌, Bool, true, false, cond, List, Some, None, Ok, Err, Option, Result, refl, ap}
use Rattle.refusal.specs.declared.Refusal.{Refusal}
use Rattle.tables.specs.Chains.{Reading, and_then}
use Rattle.tables.specs.Reading.{require, value}

pub not_refused : {A : Type 0} {d : Refusal} {a : A} → ◌≡◌ {A = Result A Refusal} (Err d) (Ok a) → ⊥
not_refused e = cc

pub same_value : {A : Type 0} {a a' : A} → ◌≡◌ {A = Result A Refusal} (Ok a) (Ok a') → a ≡ a'
same_value e = cc

-- a test that refuses where it fails, and one that refuses where it holds
pub test_held : {A : Type 0} (t : Bool) (r : Result A Refusal) (d : Refusal) {a : A} → cond t r (Err d) ≡ Ok a → (t ≡ true) × (r ≡ Ok a)
test_held true r d e = (refl, e)
test_held false r d e = absurd (not_refused e)

pub test_failed : {A : Type 0} (t : Bool) (r : Result A Refusal) (d : Refusal) {a : A} → cond t (Err d) r ≡ Ok a → (t ≡ false) × (r ≡ Ok a)
test_failed true r d e = absurd (not_refused e)
test_failed false r d e = (refl, e)

pub both_read : {A B : Type 0} (r : Result (A × List Bool) Refusal) (k : A → Reading B) {y : B × List Bool} → and_then r k ≡ Ok y
    → (a : A) × (s : List Bool) × (r ≡ Ok (a, s)) × (k a s ≡ Ok y)
both_read (Ok p) k e = (p.0, p.1, refl, e)
both_read (Err d) k e = absurd (not_refused e)

pub was_there : {A : Type 0} (o : Option A) (d : Refusal) (s : List Bool) {a : A} {s' : List Bool} → require o d s ≡ Ok (a, s') → (o ≡ Some a) × (s ≡ s')
was_there None d s e = absurd (not_refused e)
was_there (Some a) d s e = (ap (λ y. Some y.0) (same_value e), ap (λ y. y.1) (same_value e))

pub had_value : {A : Type 0} (r : Result (A × List Bool) Refusal) {a : A} → value r ≡ Ok a → (s : List Bool) × (r ≡ Ok (a, s))
had_value (Ok p) e = (p.1, ap (λ a. Ok (a, p.1)) (same_value e))
had_value (Err d) e = absurd (not_refused e)
