-- Every node but the root has one parent and one position.
use Rattle.std.proofs.Common.{◌≡◌, ℕ, suc, ◌⊎◌, List, ◌++◌, sym, refl, ◌∙◌, subst, inl, inr}
use Rattle.grammar.specs.Members.{◌∈◌}
use Rattle.grammar.specs.Members.{Apart}
use Rattle.trees.specs.Trees.{Forest, none, brother, numbers}
use Rattle.trees.specs.Laws.{ChildAmong, ParentIsUnique, EveryNodeHasAParent}
use Rattle.trees.proofs.Lists.{in_left, in_right, in_either, apart_left, apart_right, never_both}

child_number : (f : Forest) (parent position p j n : ℕ) → ChildAmong parent position f p j n → n ∈ numbers f
child_number none parent position p j n c = absurd c
child_number (brother m s q below rest) parent position p j n (inl c) = inl c.2
child_number (brother m s q below rest) parent position p j n (inr (inl c)) = inr (in_left (numbers below) (numbers rest) n (child_number below m 1 p j n c))
child_number (brother m s q below rest) parent position p j n (inr (inr c)) = inr (in_right (numbers below) (numbers rest) n (child_number rest parent (suc position) p j n c))

-- the first of the brothers is no child among the other nodes
not_again : (m n parent position p j : ℕ) (f : Forest) (ns : List ℕ) → (m ∈ ns → ⊥) → ((x : ℕ) → x ∈ numbers f → x ∈ ns) → n ≡ m → ChildAmong parent position f p j n → ⊥
not_again m n parent position p j f ns a all e c = a (all m (subst (λ x. x ∈ numbers f) e (child_number f parent position p j n c)))

unique_among : (f : Forest) (parent position p p' j j' n : ℕ) → Apart (numbers f) → ChildAmong parent position f p j n → ChildAmong parent position f p' j' n → (p ≡ p') × (j ≡ j')
unique_among none parent position p p' j j' n a c d = absurd c
unique_among (brother m s q below rest) parent position p p' j j' n a (inl c) (inl d) = (c.0 ∙ sym d.0, c.1 ∙ sym d.1)
unique_among (brother m s q below rest) parent position p p' j j' n a (inl c) (inr (inl d)) =
    absurd (not_again m n m 1 p' j' below (numbers below ++ numbers rest) a.0 (in_left (numbers below) (numbers rest)) c.2 d)
unique_among (brother m s q below rest) parent position p p' j j' n a (inl c) (inr (inr d)) =
    absurd (not_again m n parent (suc position) p' j' rest (numbers below ++ numbers rest) a.0 (in_right (numbers below) (numbers rest)) c.2 d)
unique_among (brother m s q below rest) parent position p p' j j' n a (inr (inl c)) (inl d) =
    absurd (not_again m n m 1 p j below (numbers below ++ numbers rest) a.0 (in_left (numbers below) (numbers rest)) d.2 c)
unique_among (brother m s q below rest) parent position p p' j j' n a (inr (inl c)) (inr (inl d)) =
    unique_among below m 1 p p' j j' n (apart_left (numbers below) (numbers rest) a.1) c d
unique_among (brother m s q below rest) parent position p p' j j' n a (inr (inl c)) (inr (inr d)) =
    absurd (never_both (numbers below) (numbers rest) n a.1 (child_number below m 1 p j n c) (child_number rest parent (suc position) p' j' n d))
unique_among (brother m s q below rest) parent position p p' j j' n a (inr (inr c)) (inl d) =
    absurd (not_again m n parent (suc position) p j rest (numbers below ++ numbers rest) a.0 (in_right (numbers below) (numbers rest)) d.2 c)
unique_among (brother m s q below rest) parent position p p' j j' n a (inr (inr c)) (inr (inl d)) =
    absurd (never_both (numbers below) (numbers rest) n a.1 (child_number below m 1 p' j' n d) (child_number rest parent (suc position) p j n c))
unique_among (brother m s q below rest) parent position p p' j j' n a (inr (inr c)) (inr (inr d)) =
    unique_among rest parent (suc position) p p' j j' n (apart_right (numbers below) (numbers rest) a.1) c d

pub parent_is_unique : ParentIsUnique
parent_is_unique t a p p' j j' n c d = unique_among t.children 0 1 p p' j j' n a.1 c d

-- the parent is among the nodes, or is that of the brothers
parent_among : (f : Forest) (parent position n : ℕ) → n ∈ numbers f → (p : ℕ) × (j : ℕ) × ((p ≡ parent) ⊎ (p ∈ numbers f)) × ChildAmong parent position f p j n
parent_among none parent position n m = absurd m
parent_among (brother k s q below rest) parent position n (inl e) = (parent, position, inl refl, inl (refl, refl, e))
parent_among (brother k s q below rest) parent position n (inr m) = elim (in_either (numbers below) (numbers rest) n m) [
  | inl l ↦ let h = parent_among below k 1 n l in
      (h.0, h.1, inr (elim h.2 [ inl e ↦ inl e | inr i ↦ inr (in_left (numbers below) (numbers rest) h.0 i) ]), inr (inl h.3))
  | inr r ↦ let h = parent_among rest parent (suc position) n r in
      (h.0, h.1, elim h.2 [ inl e ↦ inl e | inr i ↦ inr (inr (in_right (numbers below) (numbers rest) h.0 i)) ], inr (inr h.3))
]

pub every_node_has_a_parent : EveryNodeHasAParent
every_node_has_a_parent t n (inl e) z = absurd (z e)
every_node_has_a_parent t n (inr m) z = parent_among t.children 0 1 n m
