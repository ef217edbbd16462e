-- How a refusal and a place are printed.
use Rattle.std.specs.Prelude.{ℕ, List, ◌++◌, codes, decimal}
use Rattle.refusal.specs.Numbers.{number, place}
use Rattle.refusal.specs.declared.Place.{Place}
use Rattle.refusal.specs.declared.Place.TheVariants.{At, Instance}
use Rattle.refusal.specs.declared.Refusal.{Refusal}

-- numbers are in base ten
abbrev pub place_text : Place → List ℕ
place_text (At n) = decimal n
place_text (Instance site) =
    codes "attribute " ++ (decimal site.attribute ++ (codes " of node " ++ decimal site.node))

abbrev pub refusal_text : Refusal → List ℕ
refusal_text r = codes "refused " ++ (decimal (number r) ++ (codes " at " ++ place_text (place r)))
