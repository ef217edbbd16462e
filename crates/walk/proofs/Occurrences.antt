-- The production of a node, and the instances that its occurrences stand for.
use Rattle.std.proofs.Common.{◌≡◌, ℕ, zero, suc, ◌-◌, ◌<◌, ◌≤◌, true, false, eqb, ◌⊎◌, List, length, get_or, sym, ap, ◌∙◌, subst, inl, inr, arith}
use Rattle.std.proofs.lemmas.Bool.{both_ways, and_parts, cond-false, eqb-true, ne_eqb, leb-true}
use Rattle.std.proofs.lemmas.Bool.Decides.{nat_tests}
use Rattle.std.proofs.ByRecursion.{All-get_or}
use Rattle.grammar.specs.declared.production.Occurrence.{Occurrence}
use Rattle.grammar.specs.Members.{◌∈◌}
use Rattle.grammar.specs.Grammar.{Grammar, Production, is_symbol, is_inner, symbol_at, occurs}
use Rattle.grammar.specs.Lawful.{Lawful, LawfulProduction}
use Rattle.trees.specs.declared.node.Node.{Node}
use Rattle.trees.specs.Checking.{node, production, no_production, is_production, fits, children_symbols}
use Rattle.trees.specs.Trees.{Tree, Stands}
use Rattle.trees.specs.Laws.{Child}
use Rattle.trees.proofs.Symbols.{child_has_its_symbol}
use Rattle.walk.specs.Positions.{at_position}
use Rattle.walk.specs.Instances.{rules_at, instance_at, IsInstance}
use Rattle.walk.proofs.Members.{get_or_in}
use Rattle.walk.proofs.Owners.{named, owned_by}
use Rattle.walk.proofs.Places.{positions_have_children, child_in_row, node_fits}

-- what fits is a production of an inner symbol, or 0 at a terminal
fitting : (g : Grammar) (s p : ℕ) → fits g s p ≡ true → (is_production g s p ≡ true) ⊎ ((is_inner g.vocabulary s ≡ false) × (is_symbol g.vocabulary s ≡ true) × (p ≡ 0))
fitting g s p h = grind (arith, nat_tests)

-- a node with a production, and what that says
pub record HasProduction (g : Grammar) (nodes : List Node) (x : ℕ) : Type 0 where
  pub some : (node nodes x).production ≡ 0 → ⊥
  pub in_grammar : production g (node nodes x).production ∈ g.productions
  pub lawful : LawfulProduction g.vocabulary (production g (node nodes x).production)
  pub left : (production g (node nodes x).production).left ≡ (node nodes x).symbol
  pub right : children_symbols g (node nodes x).production ≡ (production g (node nodes x).production).right
  pub rules : rules_at g nodes x ≡ (production g (node nodes x).production).rules

has_production : (g : Grammar) (nodes : List Node) (x : ℕ) → Lawful g → is_production g (node nodes x).symbol (node nodes x).production ≡ true → HasProduction g nodes x
has_production g nodes x law h =
    let p = (node nodes x).production in
    let parts = and_parts _ _ h in
    let bounds = named (length g.productions) p parts.0 in
    let within : p - 1 < length g.productions = omega (arith, bounds.0, bounds.1) in
    let some : eqb p 0 ≡ false = ne_eqb p 0 (λ z. omega (arith, bounds.0)) in
    record {
      some = λ z. omega (arith, bounds.0);
      in_grammar = get_or_in g.productions (p - 1) no_production within;
      lawful = All-get_or (LawfulProduction g.vocabulary) g.productions (p - 1) no_production within law.productions;
      left = eqb-true _ _ parts.1;
      right = cond-false _ _ _ some;
      rules = cond-false _ _ _ some;
    }

module _ (g : Grammar) (nodes : List Node) (t : Tree) (law : Lawful g) (st : Stands g nodes t) where
  pub with_number : (x : ℕ) → x < length nodes → ((node nodes x).production ≡ 0 → ⊥) → HasProduction g nodes x
  with_number x within some = elim (fitting g (node nodes x).symbol (node nodes x).production (node_fits g nodes t st x within)) [
    | inl is ↦ has_production g nodes x law is
    | inr terminal ↦ absurd (some terminal.2)
  ]

  pub with_inner : (x : ℕ) → x < length nodes → is_inner g.vocabulary (node nodes x).symbol ≡ true → HasProduction g nodes x
  with_inner x within is = elim (fitting g (node nodes x).symbol (node nodes x).production (node_fits g nodes t st x within)) [
    | inl h ↦ has_production g nodes x law h
    | inr terminal ↦ absurd (both_ways _ terminal.0 is)
  ]

  pub node_symbol : (x : ℕ) → x < length nodes → is_symbol g.vocabulary (node nodes x).symbol ≡ true
  node_symbol x within = elim (fitting g (node nodes x).symbol (node nodes x).production (node_fits g nodes t st x within)) [
    | inl h ↦ let p = has_production g nodes x law h in subst (λ s. is_symbol g.vocabulary s ≡ true) p.left (and_parts _ _ p.lawful.left).0
    | inr terminal ↦ terminal.1
  ]

  module _ (x : ℕ) (within : x < length nodes) (p : HasProduction g nodes x) where
    abbrev its : Production
    its = production g (node nodes x).production

    -- the node at a position has the symbol there
    symbol_there : (k : ℕ) → k ≤ length its.right → (at_position nodes x k < length nodes) × ((node nodes (at_position nodes x k)).symbol ≡ symbol_at its.left its.right k)
    symbol_there zero h = (within, sym p.left)
    symbol_there (suc k) h =
        let c = positions_have_children g nodes t st x (suc k) within (omega arith) (omega (arith, h, ap length p.right)) in
        let less : suc k - 1 ≡ k = omega arith in (
          child_in_row g nodes t st x (suc k) (at_position nodes x (suc k)) c,
          (child_has_its_symbol g nodes t st x (suc k) (at_position nodes x (suc k)) c).2
              ∙ ap (λ i. get_or (children_symbols g (node nodes x).production) i 0) less ∙ ap (λ ss. get_or ss k 0) p.right,
        )

    -- an occurrence in the production of a node stands for an instance
    pub occurrence_is_instance : (o : Occurrence) → occurs g.vocabulary its.left its.right o ≡ true → IsInstance g nodes (instance_at nodes x o)
    occurrence_is_instance o h =
        let parts = and_parts _ _ h in
        let owner = and_parts _ _ parts.1 in
        let there = symbol_there o.position (leb-true _ _ parts.0) in
        (there.0, owned_by g.vocabulary law.vocabulary _ o.attribute owner.0 (eqb-true _ _ owner.1 ∙ sym there.1))

    pub occurrence_is_child : (o : Occurrence) → occurs g.vocabulary its.left its.right o ≡ true → 1 ≤ o.position → Child t x o.position (at_position nodes x o.position)
    occurrence_is_child o h low =
        let high : o.position ≤ length its.right = leb-true _ _ (and_parts _ _ h).0 in
        positions_have_children g nodes t st x o.position within low (omega (arith, high, ap length p.right))
