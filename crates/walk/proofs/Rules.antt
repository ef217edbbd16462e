-- The one rule of an instance.
use Rattle.std.proofs.Common.{◌≡◌, ℕ, suc, ◌-◌, ◌<◌, ◌≤◌, Bool, true, false, eqb, ◌⊎◌, List, [], ◌∷◌, length, get_or, sym, refl, ap, ◌∙◌, subst, inl, inr, arith}
use Rattle.std.proofs.lemmas.Bool.{and_from, eq-eqb, cond-true, le-leb, lt-ltb}
use Rattle.std.proofs.lemmas.Bool.Decides.{nat_tests}
use Rattle.std.proofs.lemmas.List.{get_or-map}
use Rattle.refusal.specs.declared.Site.{Site}
use Rattle.grammar.specs.declared.vocabulary.SymbolKind.{SymbolKind}
use Rattle.grammar.specs.declared.vocabulary.AttributeKind.{AttributeKind}
use Rattle.grammar.specs.declared.vocabulary.AttributeKind.TheVariants.{Inherited, Synthesized}
use Rattle.grammar.specs.declared.production.Occurrence.{Occurrence}
use Rattle.grammar.specs.Members.{◌∈◌}
use Rattle.grammar.specs.Grammar.{Grammar, Rule, Production, symbol, attribute, given, inner, is_attribute, symbol_at, defined_at}
use Rattle.grammar.specs.Lawful.{Lawful, LawfulRule, Defined, OneRule, Used, target, may_stand}
use Rattle.grammar.proofs.Members.{all_member}
use Rattle.trees.specs.declared.node.Node.{Node}
use Rattle.trees.specs.Checking.{node, production, children_symbols}
use Rattle.trees.specs.Trees.{Tree, Stands}
use Rattle.trees.specs.Laws.{Child}
use Rattle.trees.proofs.Symbols.{child_has_its_symbol}
use Rattle.trees.proofs.Parents.{every_node_has_a_parent, parent_is_unique}
use Rattle.walk.specs.Positions.{at_position}
use Rattle.walk.specs.Instances.{rules_at, instance_at, Sets, HasOneRule, IsInstance, kind_of, EachInstanceHasOneRule, RulesSetInstances, SynthesizedAreSetAtTheNode, InheritedAreSetAtTheParent, ArgumentsAreInstances}
use Rattle.walk.proofs.Members.{get_or_in, from_map}
use Rattle.walk.proofs.Selections.{member_place}
use Rattle.walk.proofs.Owners.{owns}
use Rattle.walk.proofs.Places.{children_stand_at_their_positions, in_row}
use Rattle.walk.proofs.Occurrences.{HasProduction, with_number, with_inner, node_symbol, occurrence_is_instance, occurrence_is_child}

-- what is defined is synthesized at the left side or inherited at the right side
defined_ways : (kind : AttributeKind) (position : ℕ) → defined_at kind position ≡ true → ((kind ≡ Synthesized) × (position ≡ 0)) ⊎ ((kind ≡ Inherited) × (1 ≤ position))
defined_ways kind position h = grind (arith, nat_tests)

given_ways : (kind : AttributeKind) → given kind ≡ false → (kind ≡ Synthesized) ⊎ (kind ≡ Inherited)
given_ways kind h = grind (arith, nat_tests)

-- a rule among those of a node: the node has a production, the rule is one of it, and lawful there
pub record RuleThere (g : Grammar) (nodes : List Node) (x : ℕ) (r : Rule) : Type 0 where
  pub there : HasProduction g nodes x
  pub in_rules : r ∈ (production g (node nodes x).production).rules
  pub lawful : LawfulRule g.vocabulary (production g (node nodes x).production) r

module _ (g : Grammar) (nodes : List Node) (t : Tree) (law : Lawful g) (st : Stands g nodes t) where
  module _ (x : ℕ) (r : Rule) (i : Site) (s : Sets g nodes x r i) where
    abbrev its : Production
    its = production g (node nodes x).production

    pub rule_there : RuleThere g nodes x r
    rule_there =
        let p = with_number g nodes t law st x s.in_row (λ z. subst (λ rules. r ∈ rules) (cond-true _ _ _ (eq-eqb _ _ z)) s.in_production) in
        let in_rules = subst (λ rules. r ∈ rules) p.rules s.in_production in
        record { there = p; in_rules = in_rules; lawful = all_member (LawfulRule g.vocabulary its) its.rules r p.lawful.rules in_rules }

    -- the target is synthesized at the node itself, or inherited at a child
    pub target_ways : ((kind_of g nodes i ≡ Synthesized) × (r.target.position ≡ 0)) ⊎ ((kind_of g nodes i ≡ Inherited) × (1 ≤ r.target.position))
    target_ways = subst (λ k. ((k ≡ Synthesized) × (r.target.position ≡ 0)) ⊎ ((k ≡ Inherited) × (1 ≤ r.target.position)))
        (ap (λ j. (attribute g.vocabulary j.attribute).kind) s.target) (defined_ways _ r.target.position rule_there.lawful.defines.1)

pub rules_set_instances : RulesSetInstances
rules_set_instances g nodes t law st x r i s =
    let h = rule_there g nodes t law st x r i s in (
      subst (IsInstance g nodes) s.target (occurrence_is_instance g nodes t law st x s.in_row h.there r.target h.lawful.defines.0),
      elim (target_ways g nodes t law st x r i s) [ inl w ↦ ap given w.0 | inr w ↦ ap given w.0 ],
    )

pub synthesized_are_set_at_the_node : SynthesizedAreSetAtTheNode
synthesized_are_set_at_the_node g nodes t law st x r i s synthesized = elim (target_ways g nodes t law st x r i s) [
  | inl w ↦ (ap (at_position nodes x) (sym w.1) ∙ ap (λ j. j.node) s.target, w.1)
  | inr w ↦ absurd (cc (synthesized, w.0))
]

pub inherited_are_set_at_the_parent : InheritedAreSetAtTheParent
inherited_are_set_at_the_parent g nodes t law st x r i s inherited = elim (target_ways g nodes t law st x r i s) [
  | inl w ↦ absurd (cc (w.0, inherited))
  | inr w ↦
      let h = rule_there g nodes t law st x r i s in
      subst (Child t x r.target.position) (ap (λ j. j.node) s.target) (occurrence_is_child g nodes t law st x s.in_row h.there r.target h.lawful.defines.0 w.1)
]

pub arguments_are_instances : ArgumentsAreInstances
arguments_are_instances g nodes t law st x r i j s m =
    let h = rule_there g nodes t law st x r i s in
    let o = from_map (instance_at nodes x) r.arguments j m in
    let used = all_member (Used g.vocabulary (production g (node nodes x).production)) r.arguments o.0 h.lawful.uses o.1 in
    subst (IsInstance g nodes) (sym o.2) (occurrence_is_instance g nodes t law st x s.in_row h.there o.0 used.0)

-- the one rule for an occurrence
one_of : (rules : List Rule) (o : Occurrence) → OneRule rules o → (r : Rule) × (r ∈ rules) × (r.target ≡ o) × ((q : Rule) → q ∈ rules → q.target ≡ o → q ≡ r)
one_of [] o one = absurd (omega (arith, one.within))
one_of (d ∷ rest) o one =
    let rules = d ∷ rest in (
      get_or rules one.place d,
      get_or_in rules one.place d one.within,
      sym (get_or-map target rules one.place d o one.within) ∙ one.sets,
      λ q m e.
          let h = member_place rules q d m in
          let here = one.only h.0 h.1 (get_or-map target rules h.0 d o h.1 ∙ ap target h.2 ∙ e) in
          sym h.2 ∙ ap (λ k. get_or rules k d) here,
    )

-- what is not given stands at inner symbols
inner_kind : (kind : SymbolKind) (starts : Bool) (k : AttributeKind) → may_stand kind starts k ≡ true → given k ≡ false → inner kind ≡ true
inner_kind kind starts k may free = grind (arith, nat_tests)

none_inherited : (kind : SymbolKind) (k : AttributeKind) → may_stand kind true k ≡ true → k ≡ Inherited → ⊥
none_inherited kind k may e = grind (arith, nat_tests)

module _ (g : Grammar) (nodes : List Node) (t : Tree) (law : Lawful g) (st : Stands g nodes t) where
  module _ (i : Site) (is : IsInstance g nodes i) where
    owned : (is_attribute g.vocabulary i.attribute ≡ true) × ((attribute g.vocabulary i.attribute).symbol ≡ (node nodes i.node).symbol)
    owned = owns g.vocabulary law.vocabulary (node nodes i.node).symbol i.attribute (node_symbol g nodes t law st i.node is.0) is.1

    -- the kind of an instance suits the symbol of its node
    suits : may_stand (symbol g.vocabulary (node nodes i.node).symbol).kind (eqb g.vocabulary.start (node nodes i.node).symbol) (kind_of g nodes i) ≡ true
    suits = subst (λ s. may_stand (symbol g.vocabulary s).kind (eqb g.vocabulary.start s) (kind_of g nodes i) ≡ true) owned.1 (law.vocabulary.kinds i.attribute owned.0)

    -- the node of an instance that is not given has a production
    pub computed_at_inner : given (kind_of g nodes i) ≡ false → HasProduction g nodes i.node
    computed_at_inner free =
        with_inner g nodes t law st i.node is.0 (and_from _ _ (node_symbol g nodes t law st i.node is.0) (inner_kind _ _ _ suits free))

    -- the root inherits nothing
    inherited_below : kind_of g nodes i ≡ Inherited → i.node ≡ 0 → ⊥
    inherited_below inherited root =
        let starts : eqb g.vocabulary.start (node nodes i.node).symbol ≡ true = eq-eqb _ _ (sym (ap (λ n. (node nodes n).symbol) root ∙ st.root_symbol ∙ st.start)) in
        none_inherited _ _ (subst (λ b. may_stand (symbol g.vocabulary (node nodes i.node).symbol).kind b (kind_of g nodes i) ≡ true) starts suits) inherited

  -- the rule for a defined occurrence at a node, where whatever sets the instance does so at that node and position
  by_occurrence : (x : ℕ) → x < length nodes → HasProduction g nodes x → (o : Occurrence) → Defined g.vocabulary (production g (node nodes x).production) o
      → (i : Site) → instance_at nodes x o ≡ i → ((y : ℕ) (q : Rule) → Sets g nodes y q i → (y ≡ x) × (q.target.position ≡ o.position)) → HasOneRule g nodes i
  by_occurrence x within p o defined i e alone =
      let one = one_of (production g (node nodes x).production).rules o (p.lawful.one_rule o defined) in
      record {
        node = x;
        rule = one.0;
        sets = record {
          in_row = within;
          in_production = subst (λ rules. one.0 ∈ rules) (sym p.rules) one.1;
          target = ap (instance_at nodes x) one.2 ∙ e;
        };
        only = λ y q s.
            let there = alone y q s in
            let same : q.target.attribute ≡ o.attribute = ap (λ j. j.attribute) (s.target ∙ sym e) in
            let is : q.target ≡ o = λ k. record { position = there.1 k; attribute = same k } in
            (there.0, one.3 q (subst (λ rules. q ∈ rules) p.rules (subst (λ z. q ∈ rules_at g nodes z) there.0 s.in_production)) is);
      }

  synthesized_has_one_rule : (i : Site) → IsInstance g nodes i → kind_of g nodes i ≡ Synthesized → HasOneRule g nodes i
  synthesized_has_one_rule i is synthesized =
      let p = computed_at_inner i is (ap given synthesized) in
      let own = owned i is in
      let occurs_there = and_from _ _ (le-leb 0 (length (production g (node nodes i.node).production).right) (omega arith)) (and_from _ _ own.0 (eq-eqb _ _ (own.1 ∙ sym p.left))) in
      by_occurrence i.node is.0 p (record { position = 0; attribute = i.attribute }) (occurs_there, ap (λ k. defined_at k 0) synthesized) i refl
      (λ y q s. synthesized_are_set_at_the_node g nodes t law st y q i s synthesized)

  inherited_has_one_rule : (i : Site) → IsInstance g nodes i → kind_of g nodes i ≡ Inherited → HasOneRule g nodes i
  inherited_has_one_rule i is inherited =
      let parent = every_node_has_a_parent t i.node (st.all i.node is.0) (inherited_below i is inherited) in
      let x = parent.0 in
      let j = parent.1 in
      let within = in_row g nodes t st x (omega (arith, is.0)) parent.2 in
      let its = child_has_its_symbol g nodes t st x j i.node parent.3 in
      let some : (node nodes x).production ≡ 0 → ⊥ = λ z. omega (arith, its.0, its.1, ap (λ p. length (children_symbols g p)) z) in
      let p = with_number g nodes t law st x within some in
      let right = (production g (node nodes x).production).right in
      let own = owned i is in
      let one : j ≡ suc (j - 1) = omega (arith, its.0) in
      let there : (node nodes i.node).symbol ≡ symbol_at (production g (node nodes x).production).left right j =
      its.2 ∙ ap (λ ss. get_or ss (j - 1) 0) p.right ∙ ap (λ k. symbol_at (production g (node nodes x).production).left right k) (sym one) in
      let occurs_there = and_from _ _ (le-leb j (length right) (omega (arith, its.1, ap length p.right))) (and_from _ _ own.0 (eq-eqb _ _ (own.1 ∙ there))) in
      let stands = children_stand_at_their_positions g nodes t st x j i.node parent.3 in
      by_occurrence x within p (record { position = j; attribute = i.attribute }) (occurs_there, ap (λ k. defined_at k j) inherited ∙ lt-ltb 0 j its.0) i
      (λ k. record { node = stands k; attribute = i.attribute })
      (λ y q s. parent_is_unique t st.once y x q.target.position j i.node (inherited_are_set_at_the_parent g nodes t law st y q i s inherited) parent.3)

pub each_instance_has_one_rule : EachInstanceHasOneRule
each_instance_has_one_rule g nodes t law st i is free = elim (given_ways (kind_of g nodes i) free) [
  | inl synthesized ↦ synthesized_has_one_rule g nodes t law st i is synthesized
  | inr inherited ↦ inherited_has_one_rule g nodes t law st i is inherited
]
