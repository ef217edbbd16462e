-- What is proved of checking rows of nodes, for every grammar and every row.
use Rattle.std.specs.Prelude.{◌≡◌, ◌≤◌, List, length, Ok}
use Rattle.grammar.specs.Grammar.{Grammar}
use Rattle.trees.specs.declared.node.Node.{Node}
use Rattle.trees.specs.Checking.{checking}
use Rattle.trees.specs.Trees.{Tree, tree_depth, Stands}

-- A row that is accepted has 1 to 4096 nodes and holds a derivation tree of at most 64 levels.
abbrev pub AcceptedHoldsATree : Type 0
AcceptedHoldsATree = (g : Grammar) (nodes : List Node) → checking g nodes ≡ Ok tt
    → (1 ≤ length nodes) × (length nodes ≤ 4096) × ((t : Tree) × Stands g nodes t × (tree_depth t ≤ 64))

-- A row of 1 to 4096 nodes that holds a derivation tree of at most 64 levels is accepted.
abbrev pub TreesAreAccepted : Type 0
TreesAreAccepted = (g : Grammar) (nodes : List Node) (t : Tree) → 1 ≤ length nodes → length nodes ≤ 4096
    → Stands g nodes t → tree_depth t ≤ 64 → checking g nodes ≡ Ok tt

-- A row holds one derivation tree at most.
abbrev pub TreeIsUnique : Type 0
TreeIsUnique = (g : Grammar) (nodes : List Node) (t u : Tree) → Stands g nodes t → Stands g nodes u → t ≡ u
