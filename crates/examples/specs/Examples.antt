-- What the worked examples come to: the numbers that the total, the start and the width get under some lists of directions, and the values of a score.
use Rattle.std.specs.Prelude.{◌≡◌, ℕ, ◌<◌, ◌≤◌, List, [], ◌∷◌, length, Ok}
use Rattle.bitset.specs.Sets.{has, many}
use Rattle.kinds.specs.Lengths.{length_admitted}
use Rattle.plans.specs.declared.Direction.{Direction}
use Rattle.plans.specs.declared.Direction.TheVariants.{Left, Right}
use Rattle.grammar.specs.Grammar.{Grammar}
use Rattle.grammar.specs.Numberings.{Valid, Numbered}
use Rattle.tables.specs.Reading.{reading}
use Rattle.numbering.specs.GrammarGraph.{grammar_numbering}
use Rattle.examples.specs.Books.{table_bytes, total, start, width, P, Q, S, T}
use Rattle.examples.specs.Scores.{PValues, QValues}

-- the attribute has the number, which is that of a pass
abbrev pub HasNumber : Grammar → List Direction → ℕ → ℕ → Type 0
HasNumber g ds a n = (grammar_numbering g ds a ≡ n) × (1 ≤ n) × (n ≤ length ds)

-- the attribute has no number
abbrev pub HasNone : Grammar → List Direction → ℕ → Type 0
HasNone g ds a = length ds < grammar_numbering g ds a

-- total, start and width all have the number
abbrev pub AllHave : Grammar → List Direction → ℕ → Type 0
AllHave g ds n = HasNumber g ds total n × HasNumber g ds start n × HasNumber g ds width n

-- total, start and width have no number
abbrev pub NoneHave : Grammar → List Direction → Type 0
NoneHave g ds = HasNone g ds total × HasNone g ds start × HasNone g ds width

-- The table is accepted, with lengths as values, and the grammar that it is read to has the property.
pub record ReadTo (table : List (List ℕ)) (Property : Grammar → Type 0) : Type 0 where
  pub grammar : Grammar
  pub read : reading (table_bytes table) length_admitted ≡ Ok grammar
  pub holds : Property grammar

-- The second start waits for the first width, at which a right pass has not been yet.
pub record PNumbers (g : Grammar) : Type 0 where
  -- one left pass computes everything
  pub left : AllHave g (Left ∷ []) 1
  -- one right pass cannot have the start
  pub right_start : HasNone g (Right ∷ []) start
  -- it has the total
  pub right_total : HasNumber g (Right ∷ []) total 1
  -- and the width
  pub right_width : HasNumber g (Right ∷ []) width 1
  -- of two right passes, the second computes the start
  pub right_right_start : HasNumber g (Right ∷ Right ∷ []) start 2

-- Each start waits for the width of the other bar, so in either direction the starts come a pass after the widths.
pub record QNumbers (g : Grammar) : Type 0 where
  -- the second left pass computes the start
  pub left_left_start : HasNumber g (Left ∷ Left ∷ []) start 2
  -- and so does a right pass after a left one
  pub left_right_start : HasNumber g (Left ∷ Right ∷ []) start 2

-- Start and width take each other, and no direction has the widths before both starts: attributes 1 to 3 have no number, under every list of directions.
pub record SNumbers (g : Grammar) : Type 0 where
  -- no valid numbering gives one of them a number
  pub none_valid : (ds : List Direction) (v : ℕ → ℕ) → Valid g ds v → (a : ℕ) → 1 ≤ a → a ≤ 3 → length ds < v a
  -- nor does the numbering by deletion
  pub none_by_deletion : (ds : List Direction) → NoneHave g ds
  -- whatever numbers stand in a book, its set of the unnumbered is 7, and their count 3
  pub set_of_three : (ds : List Direction) (numbers : List ℕ) (passes unnumbered : ℕ) → Numbered g ds numbers passes unnumbered
      → (unnumbered ≡ 7) × (many (has unnumbered) 64 ≡ 3)

-- Start and width take each other, and the second start the first width: a left pass computes them together.
pub record TNumbers (g : Grammar) : Type 0 where
  -- one left pass computes everything
  pub left : AllHave g (Left ∷ []) 1
  -- one right pass computes nothing
  pub right : NoneHave g (Right ∷ [])
  -- after it, a left pass computes everything
  pub right_left : AllHave g (Right ∷ Left ∷ []) 2

-- The four tables are accepted, their attributes get these numbers, and a score gets its values.
pub record WorkedExamples : Type 0 where
  -- the first start is 0, and the second is taken from the first width
  pub book_P : ReadTo P PNumbers
  -- a score with notes 10 and 20, under one left pass
  pub score_P : ReadTo P PValues
  -- P with the first start taken from the second width
  pub book_Q : ReadTo Q QNumbers
  -- the same score, under a left pass and a right one
  pub score_Q : ReadTo Q QValues
  -- Q with the width taking the start too
  pub book_S : ReadTo S SNumbers
  -- P with the width taking the start too
  pub book_T : ReadTo T TNumbers
