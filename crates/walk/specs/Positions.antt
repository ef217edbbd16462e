-- The nodes at the positions of a node's production: the node itself at 0, its children from 1 on.
use Rattle.std.specs.Prelude.{◌≡◌, ℕ, zero, suc, ◌<◌, ◌≤◌, List, length}
use Rattle.grammar.specs.Grammar.{Grammar}
use Rattle.trees.specs.declared.node.Node.{Node}
use Rattle.trees.specs.Checking.{node, children_symbols}
use Rattle.trees.specs.Trees.{Tree, Stands}
use Rattle.trees.specs.Laws.{Child}

-- so many brothers on from a node
abbrev pub brothers_on : List Node → ℕ → ℕ → ℕ
brothers_on nodes zero n = n
brothers_on nodes (suc k) n = brothers_on nodes k (node nodes n).next_brother

-- the node at a position of node n
abbrev pub at_position : List Node → ℕ → ℕ → ℕ
at_position nodes n zero = n
at_position nodes n (suc k) = brothers_on nodes k (node nodes n).first_child

-- The j-th child of a node stands at position j.
abbrev pub ChildrenStandAtTheirPositions : Type 0
ChildrenStandAtTheirPositions = (g : Grammar) (nodes : List Node) (t : Tree) → Stands g nodes t
    → (x j n : ℕ) → Child t x j n → at_position nodes x j ≡ n

-- At each position of the right side stands a child.
abbrev pub PositionsHaveChildren : Type 0
PositionsHaveChildren = (g : Grammar) (nodes : List Node) (t : Tree) → Stands g nodes t
    → (x j : ℕ) → x < length nodes → 1 ≤ j → j ≤ length (children_symbols g (node nodes x).production) → Child t x j (at_position nodes x j)
