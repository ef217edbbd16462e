-- Derivation trees of a grammar, and the rows of nodes that hold one.
use Rattle.std.specs.Prelude.{◌≡◌, ℕ, suc, ◌<◌, ◌≤◌, max, true, List, [], ◌∷◌, ◌++◌, length}
use Rattle.grammar.specs.Members.{◌∈◌, Apart}
use Rattle.grammar.specs.Grammar.{Grammar}
use Rattle.trees.specs.declared.node.Node.{Node}
use Rattle.trees.specs.Checking.{node, fits, children_symbols}

-- Brothers, each with what is below it: a node by its number, symbol and production (0 at a terminal), its children, and the next brothers.
pub data Forest : Type 0 where
  none : Forest
  brother : ℕ → ℕ → ℕ → Forest → Forest → Forest

-- A derivation tree: the symbol and the production of its root, which is node 0, and the root's children.
pub record Tree : Type 0 where
  pub symbol : ℕ
  pub production : ℕ
  pub children : Forest

-- the nodes of a forest, each before what is below it
abbrev pub numbers : Forest → List ℕ
numbers none = []
numbers (brother n s p below rest) = n ∷ (numbers below ++ numbers rest)

abbrev pub tree_numbers : Tree → List ℕ
tree_numbers t = 0 ∷ numbers t.children

-- how many levels there are
abbrev pub depth : Forest → ℕ
depth none = 0
depth (brother n s p below rest) = max (suc (depth below)) (depth rest)

abbrev pub tree_depth : Tree → ℕ
tree_depth t = suc (depth t.children)

-- Brothers are derived from a list of symbols: each has its symbol, a production of that symbol or 0 at a terminal, and children derived from the right side.
abbrev pub Derived : Grammar → List ℕ → Forest → Type 0
Derived g [] none = Unit {0}
Derived g [] (brother n s p below rest) = ⊥
Derived g (x ∷ xs) none = ⊥
Derived g (x ∷ xs) (brother n s p below rest) = (s ≡ x) × (fits g x p ≡ true) × Derived g (children_symbols g p) below × Derived g xs rest

-- the row of nodes holds the forest, along the chain that begins at an index
abbrev pub Holds : List Node → ℕ → Forest → Type 0
Holds nodes index none = index ≡ 0
Holds nodes index (brother n s p below rest) =
    (index ≡ n) × (1 ≤ n) × (n < length nodes) × ((node nodes n).symbol ≡ s) × ((node nodes n).production ≡ p)
    × Holds nodes (node nodes n).first_child below × Holds nodes (node nodes n).next_brother rest

-- The row of nodes holds a derivation tree of the grammar from its start symbol: every node of the row once, and nothing else.
pub record Stands (g : Grammar) (nodes : List Node) (t : Tree) : Type 0 where
  pub start : t.symbol ≡ g.vocabulary.start
  pub root_fits : fits g t.symbol t.production ≡ true
  pub derived : Derived g (children_symbols g t.production) t.children
  pub root_symbol : (node nodes 0).symbol ≡ t.symbol
  pub root_production : (node nodes 0).production ≡ t.production
  pub held : Holds nodes (node nodes 0).first_child t.children
  pub once : Apart (tree_numbers t)
  pub all : (n : ℕ) → n < length nodes → n ∈ tree_numbers t
