-- What a check comes to: marks with a property, or a refusal with one.
use Rattle.std.proofs.Common.{Bool, List, Ok, Err, Result}
use Rattle.refusal.specs.declared.Refusal.{Refusal}
use Rattle.trees.specs.Checking.{Check, and_then}

abbrev pub Comes : (Refusal → Type 0) → (List Bool → Type 0) → Result (List Bool) Refusal → Type 0
Comes Q P (Ok s) = P s
Comes Q P (Err e) = Q e

pub comes_then : (Q : Refusal → Type 0) (P P' : List Bool → Type 0) (r : Result (List Bool) Refusal) (k : Check)
    → Comes Q P r → ((s : List Bool) → P s → Comes Q P' (k s)) → Comes Q P' (and_then r k)
comes_then Q P P' (Ok s) k c h = h s c
comes_then Q P P' (Err e) k c h = c
