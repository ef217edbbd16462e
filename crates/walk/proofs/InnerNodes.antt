-- The inner nodes of a tree are the nodes with inner symbols.
use Rattle.std.proofs.Common.{◌≡◌, ℕ, zero, suc, true, List, refl, ap, ◌∙◌, inl, inr}
use Rattle.grammar.specs.Members.{◌∈◌}
use Rattle.grammar.specs.Grammar.{Grammar, is_inner}
use Rattle.grammar.specs.Lawful.{Lawful}
use Rattle.trees.specs.declared.node.Node.{Node}
use Rattle.trees.specs.Checking.{node}
use Rattle.trees.specs.Trees.{Forest, none, brother, Tree, Stands}
use Rattle.trees.specs.Laws.{Within}
use Rattle.trees.proofs.Symbols.{nodes_have_their_children}
use Rattle.trees.proofs.Lists.{in_either}
use Rattle.walk.specs.Walks.{inners, inner_nodes, InnerNodesHaveInnerSymbols}
use Rattle.walk.proofs.Children.{fits_inner}
use Rattle.walk.proofs.Tours.{inners_are_numbers, inners_apart}
use Rattle.walk.proofs.Places.{inner_in_row, node_is_inner}
use Rattle.walk.proofs.Occurrences.{with_inner}

inner_within : (f : Forest) (n : ℕ) → n ∈ inners f → (s : ℕ) × (p : ℕ) × (cs : Forest) × Within f n s (suc p) cs
inner_within none n m = absurd m
inner_within (brother k s zero below rest) n m = let h = inner_within rest n m in (h.0, h.1, h.2, inr (inr h.3))
inner_within (brother k s (suc p) below rest) n (inl e) = (s, p, below, inl (e, refl, refl, refl))
inner_within (brother k s (suc p) below rest) n (inr m) = elim (in_either (inners below) (inners rest) n m) [
  | inl l ↦ let h = inner_within below n l in (h.0, h.1, h.2, inr (inl h.3))
  | inr r ↦ let h = inner_within rest n r in (h.0, h.1, h.2, inr (inr h.3))
]

module _ (g : Grammar) (nodes : List Node) (t : Tree) (law : Lawful g) (st : Stands g nodes t) where
  has_inner_symbol : (n : ℕ) → n ∈ inner_nodes t → is_inner g.vocabulary (node nodes n).symbol ≡ true
  has_inner_symbol n (inl e) =
      ap (λ k. is_inner g.vocabulary (node nodes k).symbol) e ∙ ap (is_inner g.vocabulary) (st.root_symbol ∙ st.start) ∙ law.vocabulary.start
  has_inner_symbol n (inr m) =
      let w = inner_within t.children n m in
      let its = nodes_have_their_children g nodes t st n w.0 (suc w.1) w.2 (inr w.3) in
      ap (is_inner g.vocabulary) its.0 ∙ fits_inner g w.0 w.1 its.2

pub inner_nodes_have_inner_symbols : InnerNodesHaveInnerSymbols
inner_nodes_have_inner_symbols g nodes t law st = record {
  inner = λ n m. (inner_in_row g nodes t st law n m, has_inner_symbol g nodes t law st n m);
  all = λ n within inner. node_is_inner g nodes t st n within (with_inner g nodes t law st n within inner).some;
  once = (λ m. st.once.0 (inners_are_numbers t.children 0 m), inners_apart t.children st.once.1);
}
