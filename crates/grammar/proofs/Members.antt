-- What holds of all members of a list holds of each.
use Rattle.std.proofs.Common.{List, [], ◌∷◌, sym, subst, inl, inr}
use Rattle.std.specs.List.{AllByRecursion}
use Rattle.grammar.specs.Members.{◌∈◌}

pub all_member : {X : Type 0} (P : X → Type 0) (xs : List X) (x : X) → AllByRecursion P xs → x ∈ xs → P x
all_member P [] x all m = absurd m
all_member P (y ∷ ys) x all (inl e) = subst P (sym e) all.0
all_member P (y ∷ ys) x all (inr m) = all_member P ys x all.1 m
