-- The children of a node, by the positions at which they stand.
use Rattle.std.proofs.Common.{◌≡◌, ℕ, zero, suc, ◌+◌, ◌<◌, true, List, [], ◌∷◌, length, sym, refl, ap, ◌∙◌, subst, inl, inr, arith}
use Rattle.std.proofs.lemmas.Bool.{cases_lt, and_parts}
use Rattle.std.proofs.lemmas.List.{get_or_past}
use Rattle.grammar.specs.Members.{◌∈◌}
use Rattle.grammar.specs.Grammar.{Grammar}
use Rattle.grammar.specs.Lawful.{Lawful}
use Rattle.trees.specs.declared.node.Node.{Node}
use Rattle.trees.specs.Checking.{no_node, node, fits, children_symbols}
use Rattle.trees.specs.Trees.{Forest, none, brother, Tree, numbers, tree_numbers, Derived, Holds, Stands}
use Rattle.trees.specs.Laws.{symbols_of, Within, InTree, ChildAmong, Child}
use Rattle.trees.proofs.Symbols.{nodes_have_their_children}
use Rattle.trees.proofs.Lists.{in_left, in_right, in_either}
use Rattle.walk.specs.Walks.{inners, inner_nodes}
use Rattle.walk.specs.Positions.{brothers_on, at_position, ChildrenStandAtTheirPositions, PositionsHaveChildren}
use Rattle.walk.proofs.Children.{nothing_derived}
use Rattle.walk.proofs.Tours.{inners_are_numbers}
use Rattle.walk.proofs.Owners.{named}

one_further : (nodes : List Node) (k n : ℕ) → brothers_on nodes (suc k) n ≡ (node nodes (brothers_on nodes k n)).next_brother
one_further nodes zero n = refl
one_further nodes (suc k) n = one_further nodes k (node nodes n).next_brother

-- brothers of a chain whose parent is given, and so many brothers on from whose first child it begins
stands_among : (nodes : List Node) (f : Forest) (index parent k : ℕ) → Holds nodes index f → brothers_on nodes k (node nodes parent).first_child ≡ index
    → (x j n : ℕ) → ChildAmong parent (suc k) f x j n → at_position nodes x j ≡ n
stands_among nodes none index parent k h on x j n c = absurd c
stands_among nodes (brother m s q below rest) index parent k h on x j n (inl c) =
    ap (λ y. at_position nodes y j) c.0 ∙ ap (at_position nodes parent) c.1 ∙ on ∙ h.0 ∙ sym c.2
stands_among nodes (brother m s q below rest) index parent k h on x j n (inr (inl c)) =
    stands_among nodes below (node nodes m).first_child m 0 h.5 refl x j n c
stands_among nodes (brother m s q below rest) index parent k h on x j n (inr (inr c)) =
    stands_among nodes rest (node nodes m).next_brother parent (suc k) h.6
    (one_further nodes k (node nodes parent).first_child ∙ ap (λ y. (node nodes y).next_brother) (on ∙ h.0)) x j n c

pub children_stand_at_their_positions : ChildrenStandAtTheirPositions
children_stand_at_their_positions g nodes t st x j n c = stands_among nodes t.children (node nodes 0).first_child 0 0 st.held refl x j n c

-- a node of a forest has its symbol, its production and its children there
number_within : (f : Forest) (n : ℕ) → n ∈ numbers f → (s : ℕ) × (p : ℕ) × (cs : Forest) × Within f n s p cs
number_within none n m = absurd m
number_within (brother k s p below rest) n (inl e) = (s, p, below, inl (e, refl, refl, refl))
number_within (brother k s p below rest) n (inr m) = elim (in_either (numbers below) (numbers rest) n m) [
  | inl l ↦ let h = number_within below n l in (h.0, h.1, h.2, inr (inl h.3))
  | inr r ↦ let h = number_within rest n r in (h.0, h.1, h.2, inr (inr h.3))
]

number_in_tree : (t : Tree) (n : ℕ) → n ∈ tree_numbers t → (s : ℕ) × (p : ℕ) × (cs : Forest) × InTree t n s p cs
number_in_tree t n (inl e) = (t.symbol, t.production, t.children, inl (e, refl, refl, refl))
number_in_tree t n (inr m) = let h = number_within t.children n m in (h.0, h.1, h.2, inr h.3)

-- so many brothers on there is one
brother_on : (f : Forest) (parent position i : ℕ) → i < length (symbols_of f) → (n : ℕ) × ChildAmong parent position f parent (position + i) n
brother_on none parent position i l = absurd (omega arith)
brother_on (brother m s q below rest) parent position zero l = (m, inl (refl, omega arith, refl))
brother_on (brother m s q below rest) parent position (suc i) l =
    let h = brother_on rest parent (suc position) i (omega arith) in
    let e : suc position + i ≡ position + suc i = omega arith in
    (h.0, inr (inr (subst (λ j. ChildAmong parent (suc position) rest parent j h.0) e h.1)))

child_of : (f : Forest) (parent position x s p : ℕ) (cs : Forest) → Within f x s p cs → (i : ℕ) → i < length (symbols_of cs) → (n : ℕ) × ChildAmong parent position f x (suc i) n
child_of none parent position x s p cs w i l = absurd w
child_of (brother m y q below rest) parent position x s p cs (inl e) i l =
    let h = brother_on below m 1 i (subst (λ f. i < length (symbols_of f)) e.3 l) in
    let one : 1 + i ≡ suc i = omega arith in
    (h.0, inr (inl (subst (λ z. ChildAmong m 1 below z (suc i) h.0) (sym e.0) (subst (λ j. ChildAmong m 1 below m j h.0) one h.1))))
child_of (brother m y q below rest) parent position x s p cs (inr (inl w)) i l =
    let h = child_of below m 1 x s p cs w i l in (h.0, inr (inl h.1))
child_of (brother m y q below rest) parent position x s p cs (inr (inr w)) i l =
    let h = child_of rest parent (suc position) x s p cs w i l in (h.0, inr (inr h.1))

child_at : (t : Tree) (x s p : ℕ) (cs : Forest) → InTree t x s p cs → (i : ℕ) → i < length (symbols_of cs) → (n : ℕ) × ChildAmong 0 1 t.children x (suc i) n
child_at t x s p cs (inl e) i l =
    let h = brother_on t.children 0 1 i (subst (λ f. i < length (symbols_of f)) e.3 l) in
    let one : 1 + i ≡ suc i = omega arith in
    (h.0, subst (λ z. ChildAmong 0 1 t.children z (suc i) h.0) (sym e.0) (subst (λ j. ChildAmong 0 1 t.children 0 j h.0) one h.1))
child_at t x s p cs (inr w) i l = child_of t.children 0 1 x s p cs w i l

pub positions_have_children : PositionsHaveChildren
positions_have_children g nodes t st x zero within low high = absurd (omega arith)
positions_have_children g nodes t st x (suc i) within low high =
    let in_tree = number_in_tree t x (st.all x within) in
    let its = nodes_have_their_children g nodes t st x in_tree.0 in_tree.1 in_tree.2 in_tree.3 in
    let e : symbols_of in_tree.2 ≡ children_symbols g (node nodes x).production = its.3 ∙ ap (children_symbols g) (sym its.1) in
    let c = child_at t x in_tree.0 in_tree.1 in_tree.2 in_tree.3 i (omega (arith, ap length e)) in
    subst (ChildAmong 0 1 t.children x (suc i)) (sym (children_stand_at_their_positions g nodes t st x (suc i) c.0 c.1)) c.1

pub child_is_below : (f : Forest) (parent position x j n : ℕ) → ChildAmong parent position f x j n → n ∈ numbers f
child_is_below none parent position x j n c = absurd c
child_is_below (brother m s q below rest) parent position x j n (inl c) = inl c.2
child_is_below (brother m s q below rest) parent position x j n (inr (inl c)) = inr (in_left (numbers below) (numbers rest) n (child_is_below below m 1 x j n c))
child_is_below (brother m s q below rest) parent position x j n (inr (inr c)) =
    inr (in_right (numbers below) (numbers rest) n (child_is_below rest parent (suc position) x j n c))

-- a node of a derived forest that a row holds stands in the row, and is inner where it has a production
held_number : (g : Grammar) (nodes : List Node) (ss : List ℕ) (f : Forest) (index : ℕ) → Derived g ss f → Holds nodes index f → (n : ℕ) → n ∈ numbers f
    → (n < length nodes) × (((node nodes n).production ≡ 0 → ⊥) → n ∈ inners f)
held_number g nodes ss none index d h n m = absurd m
held_number g nodes [] (brother k s p below rest) index d h n m = absurd d
held_number g nodes (x ∷ xs) (brother k s zero below rest) index d h n (inl e) =
    (subst (λ i. i < length nodes) (sym e) h.2, λ some. absurd (some (ap (λ i. (node nodes i).production) e ∙ h.4)))
held_number g nodes (x ∷ xs) (brother k s (suc p) below rest) index d h n (inl e) = (subst (λ i. i < length nodes) (sym e) h.2, λ some. inl e)
held_number g nodes (x ∷ xs) (brother k s zero below rest) index d h n (inr m) = elim (in_either (numbers below) (numbers rest) n m) [
  | inl l ↦ absurd (subst (λ f. n ∈ numbers f) (nothing_derived g below d.2) l)
  | inr r ↦ held_number g nodes xs rest (node nodes k).next_brother d.3 h.6 n r
]
held_number g nodes (x ∷ xs) (brother k s (suc p) below rest) index d h n (inr m) = elim (in_either (numbers below) (numbers rest) n m) [
  | inl l ↦
      let b = held_number g nodes (children_symbols g (suc p)) below (node nodes k).first_child d.2 h.5 n l in
      (b.0, λ some. inr (in_left (inners below) (inners rest) n (b.1 some)))
  | inr r ↦
      let b = held_number g nodes xs rest (node nodes k).next_brother d.3 h.6 n r in
      (b.0, λ some. inr (in_right (inners below) (inners rest) n (b.1 some)))
]

module _ (g : Grammar) (nodes : List Node) (t : Tree) (st : Stands g nodes t) where
  below_root : (n : ℕ) → n ∈ numbers t.children → (n < length nodes) × (((node nodes n).production ≡ 0 → ⊥) → n ∈ inners t.children)
  below_root = held_number g nodes (children_symbols g t.production) t.children (node nodes 0).first_child st.derived st.held

  -- where there is a node at all, the root stands in the row, and so does every node of the tree
  pub in_row : (n : ℕ) → 0 < length nodes → n ∈ tree_numbers t → n < length nodes
  in_row n some (inl e) = subst (λ i. i < length nodes) (sym e) some
  in_row n some (inr m) = (below_root n m).0

  pub child_in_row : (x j n : ℕ) → Child t x j n → n < length nodes
  child_in_row x j n c = (below_root n (child_is_below t.children 0 1 x j n c)).0

  pub child_is_inner : (x j n : ℕ) → Child t x j n → ((node nodes n).production ≡ 0 → ⊥) → n ∈ inners t.children
  child_is_inner x j n c = (below_root n (child_is_below t.children 0 1 x j n c)).1

  pub node_is_inner : (n : ℕ) → n < length nodes → ((node nodes n).production ≡ 0 → ⊥) → n ∈ inner_nodes t
  node_is_inner n within some = elim (st.all n within) [ inl e ↦ inl e | inr m ↦ inr ((below_root n m).1 some) ]

  pub node_fits : (n : ℕ) → n < length nodes → fits g (node nodes n).symbol (node nodes n).production ≡ true
  node_fits n within =
      let in_tree = number_in_tree t n (st.all n within) in
      let its = nodes_have_their_children g nodes t st n in_tree.0 in_tree.1 in_tree.2 in_tree.3 in
      ap (λ s. fits g s (node nodes n).production) its.0 ∙ ap (fits g in_tree.0) its.1 ∙ its.2

  -- a row that holds a tree is not empty, since the start symbol of a lawful grammar is not 0
  root_in_row : Lawful g → 0 < length nodes
  root_in_row law = elim (cases_lt 0 (length nodes)) [
    | inl some ↦ some
    | inr empty ↦
        let start : g.vocabulary.start ≡ 0 = sym st.start ∙ sym st.root_symbol ∙ ap (λ n. n.symbol) (get_or_past nodes 0 no_node empty) in
        let bounds = named (length g.vocabulary.symbols) g.vocabulary.start (and_parts _ _ law.vocabulary.start).0 in
        absurd (omega (arith, bounds.0))
  ]

  pub inner_in_row : Lawful g → (n : ℕ) → n ∈ inner_nodes t → n < length nodes
  inner_in_row law n (inl e) = in_row n (root_in_row law) (inl e)
  inner_in_row law n (inr m) = in_row n (root_in_row law) (inr (inners_are_numbers t.children n m))
