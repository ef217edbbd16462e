-- The numbering by deletion. In each pass every attribute that waits for a number is a candidate; candidates that
-- cannot be had are deleted until none is left to delete; what remains gets the pass's number.
use Rattle.std.specs.Prelude.{ℕ, zero, suc, Bool, true, false, cond, not, ◌&&◌, ◌||◌, List, [], ◌∷◌, length, ◌==◌}
use Rattle.plans.specs.declared.Direction.{Direction}
use Rattle.numbering.specs.Graph.{Graph}
use Rattle.grammar.specs.Numberings.{direction}

-- whether an attribute is in a list
unfoldable pub member : ℕ → List ℕ → Bool
member a [] = false
member a (x ∷ xs) = a == x || member a xs

-- the attributes of a list that pass a test
unfoldable pub keep : (ℕ → Bool) → List ℕ → List ℕ
keep test [] = []
keep test (x ∷ xs) = cond (test x) (x ∷ keep test xs) (keep test xs)

-- no attribute of a list passes a test
unfoldable pub none : (ℕ → Bool) → List ℕ → Bool
none test [] = true
none test (x ∷ xs) = not (test x) && none test xs

-- An attribute a that waits is in the way of the candidate b: it precedes b, and is no candidate itself or stands behind a bar.
abbrev pub blocks : Graph → Direction → List ℕ → ℕ → ℕ → Bool
blocks g d left b a = g.precedes a b && (not (member a left) || g.barred d a b)

-- rounds of deletion: each keeps the candidates that nothing is in the way of
unfoldable pub delete : Graph → Direction → List ℕ → ℕ → List ℕ → List ℕ
delete g d waiting zero left = left
delete g d waiting (suc rounds) left = delete g d waiting rounds (keep (λ b. none (blocks g d left b) waiting) left)

-- What is left when no more candidates are deleted: each round that changes anything deletes one, so there are rounds enough.
unfoldable pub remaining : Graph → Direction → List ℕ → List ℕ
remaining g d waiting = delete g d waiting (length waiting) waiting

-- the numbers given so far, and the attributes that wait for one
pub record State : Type 0 where
  pub numbers : ℕ → ℕ
  pub waiting : List ℕ

-- the chosen attributes get the number of a pass and wait no longer
unfoldable pub number : ℕ → List ℕ → State → State
number pass chosen s = record {
  numbers = λ a. cond (member a chosen) pass (s.numbers a);
  waiting = keep (λ a. not (member a chosen)) s.waiting;
}

-- the state after some passes; before the first no attribute has a number
unfoldable pub after : Graph → List Direction → List ℕ → ℕ → State
after g ds attributes zero = record { numbers = λ _. suc (length ds); waiting = attributes }
after g ds attributes (suc m) = let s = after g ds attributes m in number (suc m) (remaining g (direction ds (suc m)) s.waiting) s

-- the numbering of a list of attributes
unfoldable pub numbering : Graph → List Direction → List ℕ → ℕ → ℕ
numbering g ds attributes = (after g ds attributes (length ds)).numbers
