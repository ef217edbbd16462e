-- The symbols of the nodes of a tree and of their children.
use Rattle.std.proofs.Common.{◌≡◌, ℕ, suc, ◌+◌, ◌-◌, ◌<◌, ◌≤◌, true, List, [], ◌∷◌, length, get_or, sym, refl, ap, ◌∙◌, inl, inr, arith}
use Rattle.grammar.specs.Grammar.{Grammar}
use Rattle.trees.specs.declared.node.Node.{Node}
use Rattle.trees.specs.Checking.{node, fits, children_symbols}
use Rattle.trees.specs.Trees.{Forest, none, brother, Derived, Holds}
use Rattle.trees.specs.Laws.{symbols_of, Within, ChildAmong, ChildrenHaveTheSymbols, NodesHaveTheirChildren, ChildHasItsSymbol}

brothers_have : (g : Grammar) (ss : List ℕ) (f : Forest) → Derived g ss f → symbols_of f ≡ ss
brothers_have g [] none d = refl
brothers_have g [] (brother n s p below rest) d = absurd d
brothers_have g (x ∷ xs) none d = absurd d
brothers_have g (x ∷ xs) (brother n s p below rest) d = rw (d.0, brothers_have g xs rest d.3)

within_derived : (g : Grammar) (ss : List ℕ) (f : Forest) → Derived g ss f → (n s p : ℕ) (cs : Forest) → Within f n s p cs → (fits g s p ≡ true) × (symbols_of cs ≡ children_symbols g p)
within_derived g ss none d n s p cs w = absurd w
within_derived g [] (brother m y q below rest) d n s p cs w = absurd d
within_derived g (x ∷ xs) (brother m y q below rest) d n s p cs (inl e) =
    (ap (λ z. fits g z p) (e.1 ∙ d.0) ∙ ap (fits g x) e.2 ∙ d.1, ap symbols_of e.3 ∙ brothers_have g (children_symbols g q) below d.2 ∙ ap (children_symbols g) (sym e.2))
within_derived g (x ∷ xs) (brother m y q below rest) d n s p cs (inr (inl w)) = within_derived g (children_symbols g q) below d.2 n s p cs w
within_derived g (x ∷ xs) (brother m y q below rest) d n s p cs (inr (inr w)) = within_derived g xs rest d.3 n s p cs w

within_held : (nodes : List Node) (f : Forest) (index : ℕ) → Holds nodes index f → (n s p : ℕ) (cs : Forest) → Within f n s p cs → ((node nodes n).symbol ≡ s) × ((node nodes n).production ≡ p)
within_held nodes none index h n s p cs w = absurd w
within_held nodes (brother m y q below rest) index h n s p cs (inl e) =
    (ap (λ k. (node nodes k).symbol) e.0 ∙ h.3 ∙ sym e.1, ap (λ k. (node nodes k).production) e.0 ∙ h.4 ∙ sym e.2)
within_held nodes (brother m y q below rest) index h n s p cs (inr (inl w)) = within_held nodes below (node nodes m).first_child h.5 n s p cs w
within_held nodes (brother m y q below rest) index h n s p cs (inr (inr w)) = within_held nodes rest (node nodes m).next_brother h.6 n s p cs w

pub children_have_the_symbols : ChildrenHaveTheSymbols
children_have_the_symbols g ss f d = (brothers_have g ss f d, λ n s p cs w. (within_derived g ss f d n s p cs w).1)

pub nodes_have_their_children : NodesHaveTheirChildren
nodes_have_their_children g nodes t st n s p cs (inl e) = (
  ap (λ k. (node nodes k).symbol) e.0 ∙ st.root_symbol ∙ sym e.1,
  ap (λ k. (node nodes k).production) e.0 ∙ st.root_production ∙ sym e.2,
  ap (λ z. fits g z p) e.1 ∙ ap (fits g t.symbol) e.2 ∙ st.root_fits,
  ap symbols_of e.3 ∙ brothers_have g (children_symbols g t.production) t.children st.derived ∙ ap (children_symbols g) (sym e.2),
)
nodes_have_their_children g nodes t st n s p cs (inr w) =
    let h = within_held nodes t.children (node nodes 0).first_child st.held n s p cs w in
    let d = within_derived g (children_symbols g t.production) t.children st.derived n s p cs w in
    (h.0, h.1, d.0, d.1)

-- the symbol of the j-th child, where the chain of brothers begins at a position
abbrev Positioned : Grammar → List Node → ℕ → ℕ → ℕ → Type 0
Positioned g nodes p j n =
    (1 ≤ j) × (j ≤ length (children_symbols g (node nodes p).production)) × ((node nodes n).symbol ≡ get_or (children_symbols g (node nodes p).production) (j - 1) 0)

child_fits : (g : Grammar) (nodes : List Node) (f : Forest) (ss : List ℕ) (index parent k : ℕ) → Derived g ss f → Holds nodes index f
    → ((i : ℕ) → i < length ss → (k + i < length (children_symbols g (node nodes parent).production)) × (get_or ss i 0 ≡ get_or (children_symbols g (node nodes parent).production) (k + i) 0))
    → (p j n : ℕ) → ChildAmong parent (suc k) f p j n → Positioned g nodes p j n
child_fits g nodes none ss index parent k d h at p j n c = absurd c
child_fits g nodes (brother m y q below rest) [] index parent k d h at p j n c = absurd d
child_fits g nodes (brother m y q below rest) (x ∷ xs) index parent k d h at p j n (inl c) =
    let a = at 0 (omega arith) in
    let z : k + 0 ≡ k = omega arith in
    let u : j - 1 ≡ k + 0 = omega (arith, c.1) in
    let right = children_symbols g (node nodes parent).production in
    let e : (node nodes n).symbol ≡ get_or right (j - 1) 0 = ap (λ i. (node nodes i).symbol) c.2 ∙ h.3 ∙ d.0 ∙ a.1 ∙ ap (λ i. get_or right i 0) (sym u) in
    let w : (1 ≤ j) × (j ≤ length right) × ((node nodes n).symbol ≡ get_or right (j - 1) 0) = (omega (arith, c.1), omega (arith, c.1, a.0), e) in
    rw c.0 w
child_fits g nodes (brother m y q below rest) (x ∷ xs) index parent k d h at p j n (inr (inl c)) =
    let right = children_symbols g (node nodes m).production in
    let e : children_symbols g q ≡ right = ap (children_symbols g) (sym h.4) in
    child_fits g nodes below (children_symbols g q) (node nodes m).first_child m 0 d.2 h.5
    (λ i l. let z : 0 + i ≡ i = omega arith in (omega (arith, l, ap length e), ap (λ r. get_or r i 0) e ∙ ap (λ r. get_or right r 0) (sym z))) p j n c
child_fits g nodes (brother m y q below rest) (x ∷ xs) index parent k d h at p j n (inr (inr c)) =
    let right = children_symbols g (node nodes parent).production in
    child_fits g nodes rest xs (node nodes m).next_brother parent (suc k) d.3 h.6
    (λ i l.
    let a = at (suc i) (omega arith) in
    let z : k + suc i ≡ suc k + i = omega arith in
    (omega (arith, a.0), a.1 ∙ ap (λ r. get_or right r 0) z)) p j n c

pub child_has_its_symbol : ChildHasItsSymbol
child_has_its_symbol g nodes t st p j n c =
    let right = children_symbols g (node nodes 0).production in
    let e : children_symbols g t.production ≡ right = ap (children_symbols g) (sym st.root_production) in
    child_fits g nodes t.children (children_symbols g t.production) (node nodes 0).first_child 0 0 st.derived st.held
    (λ i l. let z : 0 + i ≡ i = omega arith in (omega (arith, l, ap length e), ap (λ r. get_or r i 0) e ∙ ap (λ r. get_or right r 0) (sym z))) p j n c
