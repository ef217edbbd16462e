-- Valid and least numberings of a graph of attributes, by tests in the place of relations.
use Rattle.std.specs.Prelude.{◌≡◌, ℕ, ◌≤◌, Bool, true, false, List, length}
use Rattle.plans.specs.declared.Direction.{Direction}
use Rattle.grammar.specs.Numberings.{direction}

-- What the numbering of a grammar's attributes depends on.
pub record Graph : Type 0 where
  -- whether a is an attribute that wants a number: one that is not given
  pub wants : ℕ → Bool
  -- whether some rule for b takes a
  pub precedes : ℕ → ℕ → Bool
  -- whether a bar stands between a and b in passes of one direction
  pub barred : Direction → ℕ → ℕ → Bool

-- a precedes b, and both want a number
pub record Arc (g : Graph) (a b : ℕ) : Type 0 where
  pub source : g.wants a ≡ true
  pub target : g.wants b ≡ true
  pub arc : g.precedes a b ≡ true

-- A numbering maps an attribute to its pass. A number past the plan's last pass says that it has none.
-- Along an arc to an attribute that has a number the numbers do not fall, and where they are equal no bar stands between the two.
pub record ValidOn (g : Graph) (ds : List Direction) (v : ℕ → ℕ) : Type 0 where
  pub starts : (a : ℕ) → g.wants a ≡ true → 1 ≤ v a
  pub rises : (a b : ℕ) → Arc g a b → v b ≤ length ds → v a ≤ v b
  pub clear : (a b : ℕ) → Arc g a b → v b ≤ length ds → v a ≡ v b → g.barred (direction ds (v b)) a b ≡ false

-- Valid, and below every valid numbering wherever that one gives a number.
pub record LeastOn (g : Graph) (ds : List Direction) (v : ℕ → ℕ) : Type 0 where
  pub valid : ValidOn g ds v
  pub least : (w : ℕ → ℕ) → ValidOn g ds w → (b : ℕ) → g.wants b ≡ true → w b ≤ length ds → v b ≤ w b
