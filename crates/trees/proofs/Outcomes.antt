-- What follows from the outcome of a check.
use Rattle.std.proofs.Common.{◌≡◌, Bool, true, false, cond, List, Ok, Err, Result, arith}
use Rattle.std.proofs.lemmas.Bool.Decides.{nat_tests}
use Rattle.refusal.specs.declared.Refusal.{Refusal}
use Rattle.trees.specs.Checking.{Check, and_then}

-- a test that refuses where it fails, and one that refuses where it holds
pub test_held : {A : Type 0} (t : Bool) (r : Result A Refusal) (d : Refusal) {a : A} → cond t r (Err d) ≡ Ok a → (t ≡ true) × (r ≡ Ok a)
test_held t r d e = grind (arith, nat_tests)

pub test_failed : {A : Type 0} (t : Bool) (r : Result A Refusal) (d : Refusal) {a : A} → cond t (Err d) r ≡ Ok a → (t ≡ false) × (r ≡ Ok a)
test_failed t r d e = grind (arith, nat_tests)

pub both_held : (r : Result (List Bool) Refusal) (k : Check) {s' : List Bool} → and_then r k ≡ Ok s' → (s : List Bool) × (r ≡ Ok s) × (k s ≡ Ok s')
both_held r k e = grind (arith, nat_tests)
