-- What the arc board says of a grammar's attributes, and what arcs say of passes.
use Rattle.std.specs.Prelude.{◌≡◌, ℕ, ◌≤◌, true, Decides}
use Rattle.plans.specs.declared.Direction.{Direction}
use Rattle.plans.specs.declared.Direction.TheVariants.{Left, Right}
use Rattle.grammar.specs.Grammar.{Grammar, attribute, given}
use Rattle.grammar.specs.Lawful.{Lawful}
use Rattle.grammar.specs.Arcs.{Arc, Precedes, Barred, precedence, bar, labelled, board_of}

-- The board of a lawful grammar has the bit of precedence, or of a bar, at two attributes exactly when they are in that relation.
abbrev pub LabelsStandForRelations : Type 0
LabelsStandForRelations = (g : Grammar) → Lawful g → (a b : ℕ) → 1 ≤ a → a ≤ 64 → 1 ≤ b → b ≤ 64
    → Decides (labelled (board_of g) precedence a b) (Precedes g a b) × ((d : Direction) → Decides (labelled (board_of g) (bar d) a b) (Barred g d a b))

-- An argument at the right-side position of the target bars the two attributes for passes in both directions.
abbrev pub SamePositionIsBarredBothWays : Type 0
SamePositionIsBarredBothWays = (g : Grammar) (a b k : ℕ) → 1 ≤ k → Arc g a b k k → Barred g Left a b × Barred g Right a b

-- An attribute that is given precedes none, as it has its value before any pass.
abbrev pub GivenPrecedesNothing : Type 0
GivenPrecedesNothing = (g : Grammar) (a b : ℕ) → given (attribute g.vocabulary a).kind ≡ true → Precedes g a b → ⊥
