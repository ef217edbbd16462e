-- A score of the worked tables: a line of two bars, whose notes are 10 and 20 long, and the values that passes give it.
use Rattle.std.specs.Prelude.{◌≡◌, ℕ, zero, suc, cond, List, [], ◌∷◌, length, replicate, ℤ, pos, Some, slice_set}
use Rattle.std.specs.List.{slice_get}
use Rattle.kinds.specs.Lengths.{length_admitted, length_starts, length_steps}
use Rattle.plans.specs.declared.Direction.{Direction}
use Rattle.plans.specs.declared.Direction.TheVariants.{Left, Right}
use Rattle.grammar.specs.Grammar.{Grammar}
use Rattle.grammar.specs.Lawful.{Lawful}
use Rattle.grammar.specs.Numberings.{wants, direction, Valid}
use Rattle.numbering.specs.GrammarGraph.{grammar_numbering}
use Rattle.trees.specs.declared.node.Node.{Node}
use Rattle.trees.specs.Trees.{none, brother, Tree, Stands}
use Rattle.trees.specs.Laws.{cell}
use Rattle.walk.specs.Values.{Meaning}
use Rattle.walk.specs.Programs.{Assignment, execution}
use Rattle.walk.specs.Walks.{enter, leave, walk}
use Rattle.walk.specs.Paths.{root_path, Performs}
use Rattle.walk.specs.Passes.{program}
use Rattle.walk.specs.Evaluation.{Evaluated}
use Rattle.examples.specs.Books.{total, start, width}

-- the attribute of a note: its length
abbrev pub note : ℕ
note = 4

abbrev pub lengths : Meaning ℤ
lengths = record { admitted = length_admitted; starts = length_starts; steps = length_steps }

abbrev pub row_node : ℕ → ℕ → ℕ → ℕ → Node
row_node symbol production child next = record { symbol = symbol; production = production; first_child = child; next_brother = next }

-- node 0 is the line; nodes 1 and 3 are its bars, and 2 and 4 their notes
abbrev pub score : List Node
score = row_node 1 1 1 0 ∷ row_node 2 2 2 3 ∷ row_node 3 0 0 0 ∷ row_node 2 2 4 0 ∷ row_node 3 0 0 0 ∷ []

-- the derivation tree that the row holds
abbrev pub two_bars : Tree
two_bars = record {
  symbol = 1;
  production = 1;
  children = brother 1 2 2 (brother 2 3 0 none none) (brother 3 2 2 (brother 4 3 0 none none) none);
}

-- the cells of the score with the notes in them
abbrev pub notes : Grammar → List ℤ
notes g = slice_set (slice_set (replicate 80 (pos 0)) (cell g score 2 note) (pos 10)) (cell g score 4 note) (pos 20)

-- the least numbers of the attributes under the directions; given attributes have 0
abbrev pub numbers_under : Grammar → List Direction → ℕ → ℕ
numbers_under g ds a = cond (wants g a) (grammar_numbering g ds a) 0

-- the assignments of a pass over the score
abbrev pub score_pass : Grammar → List Direction → ℕ → List (Assignment ℤ)
score_pass g ds pass = program lengths g score (numbers_under g ds) pass (walk (direction ds pass) two_bars)

-- the cells after so many passes
abbrev pub after_passes : Grammar → List Direction → ℕ → List ℤ
after_passes g ds zero = notes g
after_passes g ds (suc pass) = (execution (score_pass g ds (suc pass)) (after_passes g ds pass)).0

-- after all passes, attribute a of node n has the value
abbrev pub ComesTo : Grammar → List Direction → ℕ → ℕ → ℕ → Type 0
ComesTo g ds n a value = slice_get (after_passes g ds (length ds)) (cell g score n a) ≡ Some (pos value)

-- The score is a derivation tree of the grammar, and with the least numbers its passes give every attribute its value.
pub record Evaluates (g : Grammar) (ds : List Direction) : Type 0 where
  pub lawful : Lawful g
  pub valid : Valid g ds (numbers_under g ds)
  pub stands : Stands g score two_bars
  pub evaluated : Evaluated lengths
      (record {
        grammar = g;
        lawful = lawful;
        directions = ds;
        number = numbers_under g ds;
        valid = valid;
        nodes = score;
        tree = two_bars;
        stands = stands;
      })
      (length ds) (slice_get (after_passes g ds (length ds)))

-- One left pass gives both bars their starts and widths and the line its total, in five moves.
pub record PValues (g : Grammar) : Type 0 where
  pub evaluates : Evaluates g (Left ∷ [])
  pub steps : walk Left two_bars ≡ enter 0 1 1 ∷ leave 1 ∷ enter 0 2 3 ∷ leave 3 ∷ leave 0 ∷ []
  pub five_moves : Performs g score Left root_path (walk Left two_bars) [] × (length (walk Left two_bars) ≡ 5)
  pub first_width : ComesTo g (Left ∷ []) 1 width 15
  pub second_width : ComesTo g (Left ∷ []) 3 width 25
  pub first_start : ComesTo g (Left ∷ []) 1 start 0
  pub second_start : ComesTo g (Left ∷ []) 3 start 15
  pub whole : ComesTo g (Left ∷ []) 0 total 40

-- A left pass gives the widths and the total, and a right pass each bar its start, which is the width of the other.
pub record QValues (g : Grammar) : Type 0 where
  pub evaluates : Evaluates g (Left ∷ Right ∷ [])
  pub steps : walk Right two_bars ≡ enter 0 2 3 ∷ leave 3 ∷ enter 0 1 1 ∷ leave 1 ∷ leave 0 ∷ []
  pub five_moves : Performs g score Right root_path (walk Right two_bars) [] × (length (walk Right two_bars) ≡ 5)
  pub first_start : ComesTo g (Left ∷ Right ∷ []) 1 start 25
  pub second_start : ComesTo g (Left ∷ Right ∷ []) 3 start 15
  pub whole : ComesTo g (Left ∷ Right ∷ []) 0 total 40
