-- Which step of a walk comes before which.
use Rattle.std.specs.Prelude.{◌≡◌, ℕ, ◌⊎◌, List, ◌∷◌, ◌++◌}
use Rattle.plans.specs.declared.Direction.{Direction}
use Rattle.grammar.specs.Members.{◌∈◌}
use Rattle.grammar.specs.Grammar.{Grammar}
use Rattle.trees.specs.declared.node.Node.{Node}
use Rattle.trees.specs.Trees.{Tree, Stands}
use Rattle.trees.specs.Laws.{Child}
use Rattle.walk.specs.Walks.{Step, enter, leave, inners, inner_nodes, walk, Sooner}

-- one step stands before another
pub record Earlier (steps : List Step) (first second : Step) : Type 0 where
  pub before : List Step
  pub between : List Step
  pub behind : List Step
  pub split : steps ≡ before ++ first ∷ (between ++ second ∷ behind)

-- The steps of a walk are the enters of the inner children at their positions and the leaves of the inner nodes.
pub record HasItsSteps (t : Tree) (steps : List Step) : Type 0 where
  pub enters : (x j n : ℕ) → Child t x j n → n ∈ inners t.children → enter x j n ∈ steps
  pub leaves : (n : ℕ) → n ∈ inner_nodes t → leave n ∈ steps
  pub only : (s : Step) → s ∈ steps
      → ((x : ℕ) × (j : ℕ) × (n : ℕ) × Child t x j n × (n ∈ inners t.children) × (s ≡ enter x j n)) ⊎ ((n : ℕ) × (n ∈ inner_nodes t) × (s ≡ leave n))

abbrev pub WalkHasItsSteps : Type 0
WalkHasItsSteps = (g : Grammar) (nodes : List Node) (t : Tree) → Stands g nodes t → (d : Direction) → HasItsSteps t (walk d t)

-- In a walk a node is entered before its inner children are and left after they are; a brother is left before the next one in the direction is entered; and no step comes twice.
pub record InTurn (d : Direction) (t : Tree) (steps : List Step) : Type 0 where
  pub enters_first : (x j n : ℕ) → Child t x j n → n ∈ inners t.children → Earlier steps (enter x j n) (leave n)
  pub down : (y i x j n : ℕ) → Child t y i x → Child t x j n → n ∈ inners t.children → Earlier steps (enter y i x) (enter x j n)
  pub up : (x j n : ℕ) → Child t x j n → n ∈ inners t.children → Earlier steps (leave n) (leave x)
  pub across : (x j n k o : ℕ) → Child t x j n → Child t x k o → n ∈ inners t.children → o ∈ inners t.children → Sooner d j k
      → Earlier steps (leave n) (enter x k o)
  pub once : (first second : Step) → Earlier steps first second → Earlier steps second first → ⊥

abbrev pub WalkGoesInTurn : Type 0
WalkGoesInTurn = (g : Grammar) (nodes : List Node) (t : Tree) → Stands g nodes t → (d : Direction) → InTurn d t (walk d t)
