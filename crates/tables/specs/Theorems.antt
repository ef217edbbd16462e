-- What is proved of reading a table, for every list of bytes and whatever operations are admitted.
use Rattle.std.specs.Prelude.{◌≡◌, ℕ, Bool, List, Ok}
use Rattle.grammar.specs.Grammar.{Grammar}
use Rattle.grammar.specs.Lawful.{Lawful}
use Rattle.tables.specs.Chains.{Sized}
use Rattle.tables.specs.Reading.{reading}
use Rattle.tables.specs.Tables.{Outline, Stands, Admitted}

-- A grammar that is read is lawful and admitted, and the table stands for it.
abbrev pub AcceptedIsLawful : Type 0
AcceptedIsLawful = (bytes : List ℕ) (admitted : ℕ → ℕ → ℕ → Bool) (g : Grammar) → reading bytes admitted ≡ Ok g
    → Sized bytes × Lawful g × Admitted admitted g × ((o : Outline) × Stands bytes o g)

-- A table that stands for a lawful grammar whose operations are admitted is accepted, as that grammar.
abbrev pub LawfulIsAccepted : Type 0
LawfulIsAccepted = (bytes : List ℕ) (admitted : ℕ → ℕ → ℕ → Bool) (g : Grammar) (o : Outline)
    → Sized bytes → Stands bytes o g → Lawful g → Admitted admitted g → reading bytes admitted ≡ Ok g
