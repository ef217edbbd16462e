-- What an evaluator may take from an accepted row: the symbols of the children, the parents, and a cell to each instance.
use Rattle.std.specs.Prelude.{◌≡◌, ℕ, suc, ◌+◌, ◌-◌, ◌*◌, ◌<◌, ◌≤◌, true, ◌⊎◌, List, [], ◌∷◌, length, ◌≢◌, slice_index}
use Rattle.grammar.specs.Members.{◌∈◌}
use Rattle.grammar.specs.Grammar.{Vocabulary, Grammar, symbol}
use Rattle.grammar.specs.Lawful.{Lawful}
use Rattle.trees.specs.declared.node.Node.{Node}
use Rattle.trees.specs.Checking.{node, fits, children_symbols}
use Rattle.grammar.specs.Members.{Apart}
use Rattle.trees.specs.Trees.{Forest, none, brother, Tree, tree_numbers, Derived, Stands}

-- the symbols of the brothers, in order
abbrev pub symbols_of : Forest → List ℕ
symbols_of none = []
symbols_of (brother n s p below rest) = s ∷ symbols_of rest

-- a node stands in the forest, by its number, symbol, production and children
abbrev pub Within : Forest → ℕ → ℕ → ℕ → Forest → Type 0
Within none n s p cs = ⊥
Within (brother m x q below rest) n s p cs =
    ((n ≡ m) × (s ≡ x) × (p ≡ q) × (cs ≡ below)) ⊎ (Within below n s p cs ⊎ Within rest n s p cs)

-- a node stands in the tree: its root, or a node below it
abbrev pub InTree : Tree → ℕ → ℕ → ℕ → Forest → Type 0
InTree t n s p cs =
    ((n ≡ 0) × (s ≡ t.symbol) × (p ≡ t.production) × (cs ≡ t.children)) ⊎ Within t.children n s p cs

-- n is the j-th child of p, in a chain of brothers whose parent and first position are given
abbrev pub ChildAmong : ℕ → ℕ → Forest → ℕ → ℕ → ℕ → Type 0
ChildAmong parent position none p j n = ⊥
ChildAmong parent position (brother m s q below rest) p j n =
    ((p ≡ parent) × (j ≡ position) × (n ≡ m)) ⊎ (ChildAmong m 1 below p j n ⊎ ChildAmong parent (suc position) rest p j n)

-- n is the j-th child of p in the tree, counted from 1
abbrev pub Child : Tree → ℕ → ℕ → ℕ → Type 0
Child t p j n = ChildAmong 0 1 t.children p j n

-- the attribute is one of the symbol's
abbrev pub HasAttribute : Vocabulary → ℕ → ℕ → Type 0
HasAttribute v s a = ((symbol v s).first ≤ a) × (a < (symbol v s).first + (symbol v s).count)

-- an instance: a node of the row, with an attribute of its symbol
abbrev pub Instance : Grammar → List Node → ℕ → ℕ → Type 0
Instance g nodes n a = (n < length nodes) × HasAttribute g.vocabulary (node nodes n).symbol a

-- the cell of an instance: 16 for each node, in the order of the symbol's attributes
abbrev pub cell : Grammar → List Node → ℕ → ℕ → ℕ
cell g nodes n a = 16 * n + (a - (symbol g.vocabulary (node nodes n).symbol).first)

-- Derived brothers have the symbols that they are derived from, and below each node its children have those of its right side.
abbrev pub ChildrenHaveTheSymbols : Type 0
ChildrenHaveTheSymbols = (g : Grammar) (ss : List ℕ) (f : Forest) → Derived g ss f
    → (symbols_of f ≡ ss) × ((n s p : ℕ) (cs : Forest) → Within f n s p cs → symbols_of cs ≡ children_symbols g p)

-- Each node of a tree that a row holds has its symbol and production in the row, they fit, and its children have the symbols of the right side.
abbrev pub NodesHaveTheirChildren : Type 0
NodesHaveTheirChildren = (g : Grammar) (nodes : List Node) (t : Tree) → Stands g nodes t
    → (n s p : ℕ) (cs : Forest) → InTree t n s p cs
    → ((node nodes n).symbol ≡ s) × ((node nodes n).production ≡ p) × (fits g s p ≡ true) × (symbols_of cs ≡ children_symbols g p)

-- The j-th child of a node has the j-th symbol of that node's right side.
abbrev pub ChildHasItsSymbol : Type 0
ChildHasItsSymbol = (g : Grammar) (nodes : List Node) (t : Tree) → Stands g nodes t → (p j n : ℕ) → Child t p j n
    → (1 ≤ j) × (j ≤ length (children_symbols g (node nodes p).production))
    × ((node nodes n).symbol ≡ slice_index (children_symbols g (node nodes p).production) (j - 1))

-- No node is the child of two nodes, nor at two positions.
abbrev pub ParentIsUnique : Type 0
ParentIsUnique = (t : Tree) → Apart (tree_numbers t) → (p p' j j' n : ℕ) → Child t p j n → Child t p' j' n → (p ≡ p') × (j ≡ j')

-- Every node of the tree but the root is a child of a node of the tree.
abbrev pub EveryNodeHasAParent : Type 0
EveryNodeHasAParent = (t : Tree) (n : ℕ) → n ∈ tree_numbers t → (n ≢ 0) → (p : ℕ) × (j : ℕ) × (p ∈ tree_numbers t) × Child t p j n

-- Two instances of a tree of a lawful grammar that have one cell are one instance.
abbrev pub CellsDiffer : Type 0
CellsDiffer = (g : Grammar) (nodes : List Node) (t : Tree) → Lawful g → Stands g nodes t
    → (n n' a a' : ℕ) → Instance g nodes n a → Instance g nodes n' a' → cell g nodes n a ≡ cell g nodes n' a' → (n ≡ n') × (a ≡ a')
