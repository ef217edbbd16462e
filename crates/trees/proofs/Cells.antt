-- Every instance of a tree has a cell of its own.
use Rattle.std.proofs.Common.{◌≡◌, ℕ, ◌+◌, ◌-◌, ◌*◌, ◌<◌, ◌≤◌, true, List, [], ◌∷◌, ap, ◌∙◌, inl, inr, arith}
use Rattle.std.proofs.lemmas.Bool.Decides.{nat_tests}
use Rattle.grammar.specs.Members.{◌∈◌}
use Rattle.grammar.specs.Grammar.{Grammar, symbol, is_symbol}
use Rattle.trees.specs.declared.node.Node.{Node}
use Rattle.trees.specs.Checking.{node, fits, children_symbols}
use Rattle.trees.specs.Trees.{Forest, none, brother, Tree, numbers, tree_numbers, Derived, Holds, Stands}
use Rattle.trees.specs.Laws.{CellsDiffer}
use Rattle.trees.proofs.Lists.{in_either}

fitting_symbol : (g : Grammar) (s p : ℕ) → fits g s p ≡ true → is_symbol g.vocabulary s ≡ true
fitting_symbol g s p h = grind (arith, nat_tests)

forest_symbols : (g : Grammar) (nodes : List Node) (f : Forest) (ss : List ℕ) (index : ℕ) → Derived g ss f → Holds nodes index f
    → (n : ℕ) → n ∈ numbers f → is_symbol g.vocabulary (node nodes n).symbol ≡ true
forest_symbols g nodes none ss index d h n m = absurd m
forest_symbols g nodes (brother k s p below rest) [] index d h n m = absurd d
forest_symbols g nodes (brother k s p below rest) (x ∷ xs) index d h n (inl e) =
    ap (λ i. is_symbol g.vocabulary (node nodes i).symbol) e ∙ ap (is_symbol g.vocabulary) (h.3 ∙ d.0) ∙ fitting_symbol g x p d.1
forest_symbols g nodes (brother k s p below rest) (x ∷ xs) index d h n (inr m) = elim (in_either (numbers below) (numbers rest) n m) [
  | inl l ↦ forest_symbols g nodes below (children_symbols g p) (node nodes k).first_child d.2 h.5 n l
  | inr r ↦ forest_symbols g nodes rest xs (node nodes k).next_brother d.3 h.6 n r
]

tree_symbols : (g : Grammar) (nodes : List Node) (t : Tree) → Stands g nodes t → (n : ℕ) → n ∈ tree_numbers t → is_symbol g.vocabulary (node nodes n).symbol ≡ true
tree_symbols g nodes t st n (inl e) =
    ap (λ i. is_symbol g.vocabulary (node nodes i).symbol) e ∙ ap (is_symbol g.vocabulary) st.root_symbol ∙ fitting_symbol g t.symbol t.production st.root_fits
tree_symbols g nodes t st n (inr m) = forest_symbols g nodes t.children (children_symbols g t.production) (node nodes 0).first_child st.derived st.held n m

-- a place below 16 and its node are told by the cell
told : (n n' a a' f f' c c' : ℕ) → f ≤ a → a < f + c → c ≤ 16 → f' ≤ a' → a' < f' + c' → c' ≤ 16 → 16 * n + (a - f) ≡ 16 * n' + (a' - f') → (n ≡ n') × (a - f ≡ a' - f')
told n n' a a' f f' c c' l h w l' h' w' e = let k : n ≡ n' = omega arith in (k, omega arith)

pub cells_differ : CellsDiffer
cells_differ g nodes t law st n n' a a' i i' e =
    let v = g.vocabulary in
    let s = (node nodes n).symbol in
    let s' = (node nodes n').symbol in
    let few = law.vocabulary.few_of_one_symbol s (tree_symbols g nodes t st n (st.all n i.0)) in
    let few' = law.vocabulary.few_of_one_symbol s' (tree_symbols g nodes t st n' (st.all n' i'.0)) in
    let k = told n n' a a' (symbol v s).first (symbol v s').first (symbol v s).count (symbol v s').count i.1.0 i.1.1 few i'.1.0 i'.1.1 few' e in
    let f : (symbol v s).first ≡ (symbol v s').first = ap (λ m. (symbol v (node nodes m).symbol).first) k.0 in
    (k.0, omega (arith, f, k.1, i.1.0, i'.1.0))
