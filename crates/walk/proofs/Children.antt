-- The inner children of a node: their positions, and where they stand in the tree.
use Rattle.std.proofs.Common.{◌≡◌, ℕ, zero, suc, ◌<◌, ◌≤◌, true, false, List, [], ◌∷◌, ◌++◌, map, sym, refl, ap, ◌∙◌, subst, inl, inr, arith}
use Rattle.std.proofs.lemmas.Bool.{cond-true, cond-false}
use Rattle.std.proofs.lemmas.Bool.Decides.{nat_tests}
use Rattle.plans.specs.declared.Direction.{Direction}
use Rattle.plans.specs.declared.Direction.TheVariants.{Left, Right}
use Rattle.grammar.specs.Members.{◌∈◌}
use Rattle.grammar.specs.Grammar.{Grammar, is_inner}
use Rattle.trees.specs.declared.node.Node.{Node}
use Rattle.trees.specs.Checking.{fits, children_symbols}
use Rattle.trees.specs.Trees.{Forest, none, brother, Tree, depth, Derived, Stands}
use Rattle.trees.specs.Laws.{Within, InTree, ChildAmong, Child}
use Rattle.trees.proofs.Lists.{in_either}
use Rattle.walk.specs.Walks.{joined, InnerChild, inner_children, InDirection}
use Rattle.walk.specs.Paths.{inner_positions}
use Rattle.walk.proofs.Members.{joined_either}
use Rattle.walk.proofs.Lists.{map-joined}

pub nothing_derived : (g : Grammar) (f : Forest) → Derived g [] f → f ≡ none
nothing_derived g none h = refl
nothing_derived g (brother n s p below rest) h = absurd h

abbrev pub positions : List InnerChild → List ℕ
positions cs = map (λ c. c.position) cs

pub position_from : (d : Direction) (position : ℕ) (f : Forest) (k : ℕ) → k ∈ positions (inner_children d position f) → position ≤ k
position_from d position none k m = absurd m
position_from d position (brother n s zero below rest) k m = omega (arith, position_from d (suc position) rest k m)
position_from d position (brother n s (suc p) below rest) k m =
    elim (joined_either d (position ∷ []) (positions (inner_children d (suc position) rest)) k (subst (λ l. k ∈ l) (map-joined _ d _ (inner_children d (suc position) rest)) m)) [
      | inl h ↦ elim h [ inl e ↦ omega arith | inr i ↦ absurd i ]
      | inr h ↦ omega (arith, position_from d (suc position) rest k h)
    ]

in_direction_last : (js : List ℕ) (j : ℕ) → InDirection Right js → ((k : ℕ) → k ∈ js → j < k) → InDirection Right (js ++ j ∷ [])
in_direction_last [] j o h = (λ k m. absurd m, tt)
in_direction_last (i ∷ js) j o h = (
  λ k m. elim (in_either js (j ∷ []) k m) [ inl l ↦ o.0 k l | inr r ↦ elim r [ inl e ↦ omega (arith, h i (inl refl), e) | inr i ↦ absurd i ] ],
  in_direction_last js j o.1 (λ k m. h k (inr m)),
)

in_direction_joined : (d : Direction) (j : ℕ) (js : List ℕ) → InDirection d js → ((k : ℕ) → k ∈ js → j < k) → InDirection d (joined d (j ∷ []) js)
in_direction_joined Left j js o h = (h, o)
in_direction_joined Right j js o h = in_direction_last js j o h

pub positions_in_direction : (d : Direction) (position : ℕ) (f : Forest) → InDirection d (positions (inner_children d position f))
positions_in_direction d position none = tt
positions_in_direction d position (brother n s zero below rest) = positions_in_direction d (suc position) rest
positions_in_direction d position (brother n s (suc p) below rest) =
    rw map-joined
    (in_direction_joined d position (positions (inner_children d (suc position) rest)) (positions_in_direction d (suc position) rest)
    (λ k m. position_from d (suc position) rest k m))

pub inner_child_stands : (d : Direction) (parent position : ℕ) (f : Forest) (c : InnerChild) → c ∈ inner_children d position f
    → ChildAmong parent position f parent c.position c.node
inner_child_stands d parent position none c m = absurd m
inner_child_stands d parent position (brother n s zero below rest) c m = inr (inr (inner_child_stands d parent (suc position) rest c m))
inner_child_stands d parent position (brother n s (suc p) below rest) c m = elim (joined_either d (_ ∷ []) (inner_children d (suc position) rest) c m) [
  | inl h ↦ elim h [ inl e ↦ inl (refl, ap (λ x. x.position) e, ap (λ x. x.node) e) | inr i ↦ absurd i ]
  | inr h ↦ inr (inr (inner_child_stands d parent (suc position) rest c h))
]

pub inner_child_within : (d : Direction) (position : ℕ) (f : Forest) (c : InnerChild) → c ∈ inner_children d position f
    → (s : ℕ) × (p : ℕ) × Within f c.node s p c.below
inner_child_within d position none c m = absurd m
inner_child_within d position (brother n s zero below rest) c m =
    let h = inner_child_within d (suc position) rest c m in (h.0, h.1, inr (inr h.2))
inner_child_within d position (brother n s (suc p) below rest) c m = elim (joined_either d (_ ∷ []) (inner_children d (suc position) rest) c m) [
  | inl h ↦ elim h [ inl e ↦ (s, suc p, inl (ap (λ x. x.node) e, refl, refl, ap (λ x. x.below) e)) | inr i ↦ absurd i ]
  | inr h ↦ let i = inner_child_within d (suc position) rest c h in (i.0, i.1, inr (inr i.2))
]

-- what is below a node is less deep than where the node stands
pub depth_within : (f : Forest) (n s p : ℕ) (cs : Forest) → Within f n s p cs → suc (depth cs) ≤ depth f
depth_within none n s p cs w = absurd w
depth_within (brother m x q below rest) n s p cs (inl e) = omega (arith, ap depth e.3)
depth_within (brother m x q below rest) n s p cs (inr (inl w)) = omega (arith, depth_within below n s p cs w)
depth_within (brother m x q below rest) n s p cs (inr (inr w)) = omega (arith, depth_within rest n s p cs w)

within_within : (f : Forest) (n s p : ℕ) (cs : Forest) → Within f n s p cs → (n' s' p' : ℕ) (cs' : Forest) → Within cs n' s' p' cs' → Within f n' s' p' cs'
within_within none n s p cs w n' s' p' cs' v = absurd w
within_within (brother m x q below rest) n s p cs (inl e) n' s' p' cs' v = inr (inl (subst (λ y. Within y n' s' p' cs') e.3 v))
within_within (brother m x q below rest) n s p cs (inr (inl w)) n' s' p' cs' v = inr (inl (within_within below n s p cs w n' s' p' cs' v))
within_within (brother m x q below rest) n s p cs (inr (inr w)) n' s' p' cs' v = inr (inr (within_within rest n s p cs w n' s' p' cs' v))

child_within : (f : Forest) (parent position n s p : ℕ) (cs : Forest) → Within f n s p cs → (x j c : ℕ) → ChildAmong n 1 cs x j c → ChildAmong parent position f x j c
child_within none parent position n s p cs w x j c h = absurd w
child_within (brother m y q below rest) parent position n s p cs (inl e) x j c h = inr (inl (subst (λ k. ChildAmong k 1 below x j c) e.0 (subst (λ z. ChildAmong n 1 z x j c) e.3 h)))
child_within (brother m y q below rest) parent position n s p cs (inr (inl w)) x j c h = inr (inl (child_within below m 1 n s p cs w x j c h))
child_within (brother m y q below rest) parent position n s p cs (inr (inr w)) x j c h = inr (inr (child_within rest parent (suc position) n s p cs w x j c h))

derived_within : (g : Grammar) (ss : List ℕ) (f : Forest) → Derived g ss f → (n s p : ℕ) (cs : Forest) → Within f n s p cs → Derived g (children_symbols g p) cs
derived_within g ss none der n s p cs w = absurd w
derived_within g [] (brother m y q below rest) der n s p cs w = absurd der
derived_within g (x ∷ xs) (brother m y q below rest) der n s p cs (inl e) =
    subst (λ k. Derived g (children_symbols g k) cs) (sym e.2) (subst (Derived g (children_symbols g q)) (sym e.3) der.2)
derived_within g (x ∷ xs) (brother m y q below rest) der n s p cs (inr (inl w)) = derived_within g (children_symbols g q) below der.2 n s p cs w
derived_within g (x ∷ xs) (brother m y q below rest) der n s p cs (inr (inr w)) = derived_within g xs rest der.3 n s p cs w

pub below_in_tree : (t : Tree) (n s p : ℕ) (cs : Forest) → InTree t n s p cs → (n' s' p' : ℕ) (cs' : Forest) → Within cs n' s' p' cs' → InTree t n' s' p' cs'
below_in_tree t n s p cs (inl e) n' s' p' cs' v = inr (subst (λ y. Within y n' s' p' cs') e.3 v)
below_in_tree t n s p cs (inr w) n' s' p' cs' v = inr (within_within t.children n s p cs w n' s' p' cs' v)

pub child_in_tree : (t : Tree) (n s p : ℕ) (cs : Forest) → InTree t n s p cs → (x j c : ℕ) → ChildAmong n 1 cs x j c → Child t x j c
child_in_tree t n s p cs (inl e) x j c h = subst (λ k. ChildAmong k 1 t.children x j c) e.0 (subst (λ y. ChildAmong n 1 y x j c) e.3 h)
child_in_tree t n s p cs (inr w) x j c h = child_within t.children 0 1 n s p cs w x j c h

pub derived_in_tree : (g : Grammar) (nodes : List Node) (t : Tree) → Stands g nodes t → (n s p : ℕ) (cs : Forest) → InTree t n s p cs → Derived g (children_symbols g p) cs
derived_in_tree g nodes t st n s p cs (inl e) =
    subst (λ k. Derived g (children_symbols g k) cs) (sym e.2) (subst (Derived g (children_symbols g t.production)) (sym e.3) st.derived)
derived_in_tree g nodes t st n s p cs (inr w) = derived_within g (children_symbols g t.production) t.children st.derived n s p cs w

-- a node that has a production has an inner symbol, and no other node has
pub fits_inner : (g : Grammar) (s p : ℕ) → fits g s (suc p) ≡ true → is_inner g.vocabulary s ≡ true
fits_inner g s p fit = grind (arith, nat_tests)

fits_terminal : (g : Grammar) (s : ℕ) → fits g s 0 ≡ true → is_inner g.vocabulary s ≡ false
fits_terminal g s fit = grind (arith, nat_tests)

pub positions_by_symbols : (g : Grammar) (d : Direction) (position : ℕ) (ss : List ℕ) (f : Forest) → Derived g ss f
    → inner_positions g.vocabulary d position ss ≡ positions (inner_children d position f)
positions_by_symbols g d position [] none der = refl
positions_by_symbols g d position [] (brother n s p below rest) der = absurd der
positions_by_symbols g d position (x ∷ xs) none der = absurd der
positions_by_symbols g d position (x ∷ xs) (brother n s zero below rest) der =
    cond-false (is_inner g.vocabulary x) _ _ (fits_terminal g x der.1) ∙ positions_by_symbols g d (suc position) xs rest der.3
positions_by_symbols g d position (x ∷ xs) (brother n s (suc p) below rest) der =
    cond-true (is_inner g.vocabulary x) _ _ (fits_inner g x p der.1)
    ∙ ap (joined d (position ∷ [])) (positions_by_symbols g d (suc position) xs rest der.3)
    ∙ sym (map-joined _ d (_ ∷ []) (inner_children d (suc position) rest))
