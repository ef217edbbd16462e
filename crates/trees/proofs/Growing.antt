-- A chain of children that is checked without refusal, as the forest that the row holds.
use Rattle.std.proofs.Common.{◌≡◌, ℕ, zero, suc, ◌<◌, ◌≤◌, Bool, true, false, ◌&&◌, ◌||◌, eqb, leb, List, [], ◌∷◌, length, get_or, set, Ok, sym, refl, ap, ◌∙◌, arith}
use Rattle.std.proofs.lemmas.Bool.{eqb-true, eqb-false, leb-false, eq-eqb, ne_eqb, lt-leb, cond-true, cond-false, and_parts, and_from, or_parts, or_from}
use Rattle.grammar.specs.Grammar.{Grammar}
use Rattle.trees.specs.declared.node.Node.{Node}
use Rattle.trees.specs.Checking.{node, fits, children_symbols, and_then, children, subtree}
use Rattle.trees.specs.Trees.{Forest, none, brother, numbers, depth, Derived, Holds}
use Rattle.trees.proofs.Outcomes.{test_held, test_failed, both_held}
use Rattle.grammar.proofs.Marks.{reach, Fresh, reach_append, fresh_append, fresh_left, fresh_right}

-- brothers that are checked, from the marks before to the marks after
pub record Grown (g : Grammar) (nodes : List Node) (room index : ℕ) (ss : List ℕ) (s s' : List Bool) : Type 0 where
  pub forest : Forest
  pub holds : Holds nodes index forest
  pub derived : Derived g ss forest
  pub shallow : depth forest ≤ room
  pub fresh : Fresh (numbers forest) s
  pub marks : s' ≡ reach (numbers forest) s

-- one node with what is below it
pub record Subtree (g : Grammar) (nodes : List Node) (room n x : ℕ) (s s' : List Bool) : Type 0 where
  pub symbol : (node nodes n).symbol ≡ x
  pub fit : fits g x (node nodes n).production ≡ true
  pub below : Forest
  pub holds : Holds nodes (node nodes n).first_child below
  pub derived : Derived g (children_symbols g (node nodes n).production) below
  pub shallow : suc (depth below) ≤ room
  pub fresh : Fresh (numbers below) s
  pub marks : s' ≡ reach (numbers below) s

module _ (g : Grammar) (nodes : List Node) (few : length nodes ≤ 4096) where
  joined : (room index x : ℕ) (xs : List ℕ) (s s₁ s' : List Bool) → 1 ≤ index → index < length nodes → get_or s index false ≡ false
      → Subtree g nodes room index x (set s index true) s₁ → Grown g nodes room (node nodes index).next_brother xs s₁ s' → Grown g nodes room index (x ∷ xs) s s'
  joined room index x xs s s₁ s' low within unmarked t w =
      let s₀ = set s index true in
      let ns = numbers t.below in
      let ms = numbers w.forest in
      record {
        forest = brother index x (node nodes index).production t.below w.forest;
        holds = (refl, low, within, t.symbol, refl, t.holds, w.holds);
        derived = (refl, t.fit, t.derived, w.derived);
        shallow = omega (arith, t.shallow, w.shallow);
        fresh = (omega arith, unmarked, fresh_append ns ms s₀ t.fresh (rw (← t.marks) w.fresh));
        marks = w.marks ∙ ap (reach ms) t.marks ∙ sym (reach_append ns ms s₀);
      }

  children_grown : (room : ℕ) → ((n x : ℕ) (s s' : List Bool) → subtree g nodes room n x s ≡ Ok s' → Subtree g nodes room n x s s')
      → (ss : List ℕ) (parent holder index : ℕ) (s s' : List Bool)
      → children g nodes (subtree g nodes room) parent holder index ss s ≡ Ok s' → Grown g nodes room index ss s s'
  unfolding children
  children_grown room below [] parent holder index s s' e =
      let t = test_held (eqb index 0) _ _ e in
      record { forest = none; holds = eqb-true index 0 t.0; derived = tt; shallow = omega arith; fresh = tt; marks = cc (t.1) }
  children_grown room below (x ∷ xs) parent holder index s s' e =
      let t = test_failed (eqb index 0) _ _ e in
      let u = test_failed (leb (length nodes) index || get_or s index false) _ _ t.1 in
      let o = or_parts (leb (length nodes) index) (get_or s index false) u.0 in
      let b = both_held (subtree g nodes room index x (set s index true)) (children g nodes (subtree g nodes room) parent index (node nodes index).next_brother xs) u.1 in
      let z : index ≡ 0 → ⊥ = eqb-false index 0 t.0 in
      joined room index x xs s b.0 s' (omega arith) (leb-false (length nodes) index o.0) o.1 (below index x (set s index true) b.0 b.1)
      (children_grown room below xs parent index (node nodes index).next_brother b.0 s' b.2)

  pub subtree_grown : (room n x : ℕ) (s s' : List Bool) → subtree g nodes room n x s ≡ Ok s' → Subtree g nodes room n x s s'
  unfolding subtree
  subtree_grown zero n x s s' e = absurd cc
  subtree_grown (suc room) n x s s' e =
      let p = (node nodes n).production in
      let t = test_held (eqb (node nodes n).symbol x && fits g x p) _ _ e in
      let a = and_parts (eqb (node nodes n).symbol x) (fits g x p) t.0 in
      let w = children_grown room (subtree_grown room) (children_symbols g p) n n (node nodes n).first_child s s' t.1 in
      record {
        symbol = eqb-true (node nodes n).symbol x a.0;
        fit = a.1;
        below = w.forest;
        holds = w.holds;
        derived = w.derived;
        shallow = omega (arith, w.shallow);
        fresh = w.fresh;
        marks = w.marks;
      }

  -- a forest that the row holds, with nodes not yet reached, is checked without refusal
  pub children_go : (f : Forest) (room : ℕ) (ss : List ℕ) (parent holder index : ℕ) (s : List Bool)
      → Holds nodes index f → Derived g ss f → depth f ≤ room → Fresh (numbers f) s
      → children g nodes (subtree g nodes room) parent holder index ss s ≡ Ok (reach (numbers f) s)
  unfolding children subtree
  children_go none room [] parent holder index s h d l f = cond-true (eqb index 0) _ _ (eq-eqb index 0 h)
  children_go none room (x ∷ xs) parent holder index s h d l f = absurd d
  children_go (brother n y p below rest) room [] parent holder index s h d l f = absurd d
  children_go (brother n y p below rest) zero (x ∷ xs) parent holder index s h d l f = absurd (omega arith)
  children_go (brother n y p below rest) (suc room) (x ∷ xs) parent holder index s h d l f =
      let q = (node nodes n).production in
      let s₁ = set s n true in
      let ns = numbers below in
      let more = children g nodes (subtree g nodes (suc room)) parent n (node nodes n).next_brother xs in
      ap (λ i. children g nodes (subtree g nodes (suc room)) parent holder i (x ∷ xs) s) h.0
      ∙ cond-false (eqb n 0) _ _ (ne_eqb n 0 (λ z. omega (arith, h.1)))
      ∙ cond-false (leb (length nodes) n || get_or s n false) _ _ (or_from _ _ (lt-leb (length nodes) n h.2) f.1)
      ∙ ap (λ r. and_then r more) (
      cond-true (eqb (node nodes n).symbol x && fits g x q) _ _ (and_from _ _ (eq-eqb (node nodes n).symbol x (h.3 ∙ d.0)) (ap (fits g x) h.4 ∙ d.1))
      ∙ ap (λ r. children g nodes (subtree g nodes room) n n (node nodes n).first_child (children_symbols g r) s₁) h.4
      ∙ children_go below room (children_symbols g p) n n (node nodes n).first_child s₁ h.5 d.2 (omega arith) (fresh_left ns (numbers rest) s₁ f.2)
      )
      ∙ children_go rest (suc room) xs parent n (node nodes n).next_brother (reach ns s₁) h.6 d.3 (omega arith) (fresh_right ns (numbers rest) s₁ f.2)
      ∙ ap (λ r. Ok r) (sym (reach_append ns (numbers rest) s₁))
