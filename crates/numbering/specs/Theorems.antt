-- What is proved of numberings, for every grammar and every list of directions.
use Rattle.std.specs.Prelude.{◌≡◌, ℕ, ◌<◌, true, cond, ◌⊎◌, List, length}
use Rattle.plans.specs.declared.Direction.{Direction}
use Rattle.grammar.specs.Grammar.{Grammar}
use Rattle.grammar.specs.Lawful.{Lawful}
use Rattle.grammar.specs.Numberings.{wants, Least}
use Rattle.numbering.specs.Graph.{Graph, LeastOn}
use Rattle.numbering.specs.Deletion.{member, numbering}
use Rattle.numbering.specs.GrammarGraph.{grammar_numbering}

-- Two least numberings of a grammar give each attribute that wants a number the same one, or both none.
abbrev pub LeastIsUnique : Type 0
LeastIsUnique = (g : Grammar) (ds : List Direction) (v w : ℕ → ℕ) → Least g ds v → Least g ds w
    → (b : ℕ) → wants g b ≡ true → (v b ≡ w b) ⊎ ((length ds < v b) × (length ds < w b))

-- Deletion gives the least numbering of every graph, if the list has just the attributes that want a number.
abbrev pub DeletionIsLeast : Type 0
DeletionIsLeast = (g : Graph) (ds : List Direction) (attributes : List ℕ) → ((a : ℕ) → member a attributes ≡ g.wants a) → LeastOn g ds (numbering g ds attributes)

-- Deletion gives the least numbering of every lawful grammar, where given attributes have 0.
abbrev pub DeletionNumbersGrammars : Type 0
DeletionNumbersGrammars = (g : Grammar) → Lawful g → (ds : List Direction) → Least g ds (λ a. cond (wants g a) (grammar_numbering g ds a) 0)
