-- What loading a table answers.
use Rattle.std.specs.Prelude.{◌≡◌, ℕ, Bool, ◌⊎◌, List, Ok, Err, Result}
use Rattle.refusal.specs.declared.Refusal.{Refusal}
use Rattle.refusal.specs.declared.Refusal.TheVariants.{OutOfMemory}
use Rattle.grammar.specs.declared.book.Book.{Book}
use Rattle.grammar.specs.OfBook.{grammar_of}
use Rattle.grammar.specs.Grammar.{Grammar}
use Rattle.grammar.specs.Lawful.{Lawful}
use Rattle.tables.specs.Chains.{Sized}
use Rattle.tables.specs.Tables.{Outline, Stands, Admitted}
use Rattle.tables.specs.Faults.{Fault}

-- what is returned is what reading gives: the grammar, or the first fault, unless memory failed
abbrev pub Loads : Result Book Refusal → Result Grammar Refusal → Type 0
Loads (Ok b) given = given ≡ Ok (grammar_of b)
Loads (Err e) given = (e ≡ OutOfMemory) ⊎ (given ≡ Err e)

-- the table stands for a lawful grammar whose operations are admitted
pub record Acceptable (bytes : List ℕ) (admitted : ℕ → ℕ → ℕ → Bool) (g : Grammar) : Type 0 where
  pub sized : Sized bytes
  pub outline : Outline
  pub stands : Stands bytes outline g
  pub lawful : Lawful g
  pub admits : Admitted admitted g

-- A table is accepted exactly when it is acceptable, as the grammar that it stands for; a refusal names a fault that is there.
-- Only want of memory can turn an acceptable table away.
abbrev pub Judges : List ℕ → (ℕ → ℕ → ℕ → Bool) → Result Book Refusal → Type 0
Judges bytes admitted (Ok b) = Acceptable bytes admitted (grammar_of b)
Judges bytes admitted (Err e) = (e ≡ OutOfMemory) ⊎ (Fault bytes admitted e × ((g : Grammar) → Acceptable bytes admitted g → ⊥))
