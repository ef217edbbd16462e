-- A loop over the children of a node: what is left of them gives what they all give.
use Rattle.std.proofs.Common.{◌≡◌, ℕ, zero, suc, ◌+◌, ◌-◌, ◌<◌, ◌≤◌, Bool, true, false, cond, ◌&&◌, ◌||◌, eqb, leb, List, [], ◌∷◌, length, get_or, drop, Ok, Err, Result, sym, refl, ap, ◌∙◌, arith}
use Rattle.std.proofs.lemmas.List.{at_drop_more, at_drop_all}
use Rattle.std.proofs.lemmas.Bool.{cond-true, cond-false, eq-eqb, ne_eqb, and_from}
use Rattle.refusal.specs.declared.Refusal.{Refusal}
use Rattle.refusal.specs.declared.Refusal.TheVariants.{TooDeep, BadNode}
use Rattle.grammar.specs.Grammar.{Grammar}
use Rattle.trees.specs.declared.node.Node.{Node}
use Rattle.trees.specs.Checking.{Check, and_then, node, fits, children_symbols, children, subtree}
use Rattle.trees.specs.Outcomes.{reaching}

module _ (g : Grammar) (nodes : List Node) where
  pub too_deep : (room n symbol : ℕ) (s : List Bool) → room ≡ 0 → Err (TooDeep n) ≡ subtree g nodes room n symbol s
  unfolding subtree
  too_deep room n symbol s z = rw z refl

  -- one level of a subtree
  level : (room n symbol : ℕ) (s : List Bool) → (room ≡ 0 → ⊥) → subtree g nodes room n symbol s ≡
      cond (eqb (node nodes n).symbol symbol && fits g symbol (node nodes n).production)
      (children g nodes (subtree g nodes (room - 1)) n n (node nodes n).first_child (children_symbols g (node nodes n).production) s)
      (Err (BadNode n))
  unfolding subtree
  level zero n symbol s h = absurd (h refl)
  level (suc room) n symbol s h = let z : suc room - 1 ≡ room = omega arith in rw z refl

  -- a node that fits its symbol: its children give what its subtree gives
  pub by_children : (room n symbol : ℕ) (right : List ℕ) (s : List Bool) → (room ≡ 0 → ⊥) → (node nodes n).symbol ≡ symbol
      → true ≡ fits g symbol (node nodes n).production → right ≡ children_symbols g (node nodes n).production
      → children g nodes (subtree g nodes (room - 1)) n n (node nodes n).first_child right s ≡ subtree g nodes room n symbol s
  by_children room n symbol right s some same fit rest =
      sym (level room n symbol s some ∙ cond-true _ _ _ (and_from _ _ (eq-eqb _ _ same) (sym fit))
      ∙ ap (λ r. children g nodes (subtree g nodes (room - 1)) n n (node nodes n).first_child r s) (sym rest))

  pub unfit : (room n symbol : ℕ) (s : List Bool) → (room ≡ 0 → ⊥) → (eqb (node nodes n).symbol symbol && fits g symbol (node nodes n).production) ≡ false
      → Err (BadNode n) ≡ subtree g nodes room n symbol s
  unfit room n symbol s some h = sym (level room n symbol s some ∙ cond-false _ _ _ h)

linked : (b : Bool) (e : Refusal) (s : List Bool) (k : Check) → cond b (Err e) (k s) ≡ and_then (cond b (Err e) (Ok s)) k
linked true e s k = refl
linked false e s k = refl

-- with the children from position i on, along the chain from an index
module _ (g : Grammar) (nodes : List Node) (sub : ℕ → ℕ → Check) (parent holder index : ℕ) (right : List ℕ) (i : ℕ) (s : List Bool)
    (whole : Result (List Bool) Refusal) (left : children g nodes sub parent holder index (drop i right) s ≡ whole) where
  step : i < length right → children g nodes sub parent holder index (get_or right i 0 ∷ drop (i + 1) right) s ≡ whole
  step l = sym (at_drop_more (λ ys. children g nodes sub parent holder index ys s) right i 0 l) ∙ left

  last : length right ≤ i → children g nodes sub parent holder index [] s ≡ whole
  last l = sym (at_drop_all (λ ys. children g nodes sub parent holder index ys s) right i l) ∙ left

  pub missing : i < length right → index ≡ 0 → Err (BadNode parent) ≡ whole
  unfolding children
  missing l z = sym (cond-true _ _ _ (eq-eqb index 0 z)) ∙ step l

  -- what the link to a child gives, then its subtree, then the children after it
  child : i < length right → (index ≡ 0 → ⊥) → (r : Result (List Bool) Refusal) → r ≡ reaching nodes holder index s
      → and_then r (λ s1. and_then (sub index (get_or right i 0) s1) (children g nodes sub parent index (node nodes index).next_brother (drop (i + 1) right))) ≡ whole
  unfolding children
  child l z r h = ap (λ x. and_then x (λ s1. and_then (sub index (get_or right i 0) s1) (children g nodes sub parent index (node nodes index).next_brother (drop (i + 1) right)))) h
      ∙ sym (cond-false _ _ _ (ne_eqb index 0 z) ∙ linked (leb (length nodes) index || get_or s index false) _ _ _) ∙ step l

  pub lost : i < length right → (index ≡ 0 → ⊥) → (e : Refusal) → Err e ≡ reaching nodes holder index s → Err e ≡ whole
  lost l z e h = child l z (Err e) h

  pub refused : i < length right → (index ≡ 0 → ⊥) → (s1 : List Bool) → Ok s1 ≡ reaching nodes holder index s
      → (e : Refusal) → Err e ≡ sub index (get_or right i 0) s1 → Err e ≡ whole
  refused l z s1 r e h =
      ap (λ x. and_then x (children g nodes sub parent index (node nodes index).next_brother (drop (i + 1) right))) h ∙ child l z (Ok s1) r

  pub more : i < length right → (index ≡ 0 → ⊥) → (s1 : List Bool) → Ok s1 ≡ reaching nodes holder index s
      → (s2 : List Bool) → Ok s2 ≡ sub index (get_or right i 0) s1
      → children g nodes sub parent index (node nodes index).next_brother (drop (i + 1) right) s2 ≡ whole
  more l z s1 r s2 h =
      ap (λ x. and_then x (children g nodes sub parent index (node nodes index).next_brother (drop (i + 1) right))) h ∙ child l z (Ok s1) r

  pub ended : length right ≤ i → index ≡ 0 → Ok s ≡ whole
  unfolding children
  ended l z = sym (cond-true _ _ _ (eq-eqb index 0 z)) ∙ last l

  pub over : length right ≤ i → (index ≡ 0 → ⊥) → Err (BadNode parent) ≡ whole
  unfolding children
  over l z = sym (cond-false _ _ _ (ne_eqb index 0 z)) ∙ last l
