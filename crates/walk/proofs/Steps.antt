-- What the steps of a pass set: the instances with its number, each at the step of its rule.
use Rattle.std.proofs.Common.{◌≡◌, ℕ, zero, suc, Bool, true, false, ◌&&◌, eqb, ◌⊎◌, List, [], ◌∷◌, map, Some, sym, refl, ap, ◌∙◌, subst, inl, inr, arith}
use Rattle.std.specs.List.{range_with_len}
use Rattle.std.proofs.lemmas.Bool.{cases_Bool, both_ways, and_parts, and_from, eqb-true, eq-eqb}
use Rattle.std.proofs.lemmas.Bool.Decides.{nat_tests}
use Rattle.refusal.specs.declared.Site.{Site}
use Rattle.grammar.specs.declared.vocabulary.AttributeKind.{AttributeKind}
use Rattle.grammar.specs.declared.vocabulary.AttributeKind.TheVariants.{Inherited, Synthesized}
use Rattle.grammar.specs.Members.{◌∈◌}
use Rattle.grammar.specs.Grammar.{Rule, symbol, attribute, given}
use Rattle.grammar.specs.Lookup.{rule_of}
use Rattle.grammar.specs.Rules.{same}
use Rattle.grammar.specs.Numberings.{direction}
use Rattle.trees.specs.declared.node.Node.{Node}
use Rattle.trees.specs.Checking.{node}
use Rattle.grammar.specs.Members.{Apart}
use Rattle.trees.specs.Laws.{Child, HasAttribute}
use Rattle.trees.proofs.Symbols.{child_has_its_symbol}
use Rattle.trees.proofs.Parents.{parent_is_unique}
use Rattle.walk.specs.Values.{Meaning}
use Rattle.walk.specs.Programs.{Assignment}
use Rattle.walk.specs.Positions.{at_position}
use Rattle.walk.specs.Walks.{Step, enter, leave, inners, inner_nodes, walk}
use Rattle.walk.specs.Turns.{HasItsSteps}
use Rattle.walk.specs.Instances.{rules_at, instance_at, IsInstance, kind_of}
use Rattle.walk.specs.Passes.{Task, RuleSets, number_at, rule_at, set_at, set_by, due, settings, inherited, synthesized, PassCarriesOutItsRules}
use Rattle.walk.proofs.Members.{from_map, in_map, from_flat, in_flat}
use Rattle.walk.proofs.Turning.{walk_has_its_steps}
use Rattle.walk.proofs.Selections.{kept_member, member_kept, counted_member, member_counted, apart_counted, apart_kept}
use Rattle.walk.proofs.Places.{children_stand_at_their_positions, child_is_inner, child_in_row, node_is_inner, inner_in_row}
use Rattle.walk.proofs.Rules.{target_ways, computed_at_inner, rules_set_instances, synthesized_are_set_at_the_node, inherited_are_set_at_the_parent, each_instance_has_one_rule}

-- the step at which a node's rule for a position sets its target
abbrev pub step_for : List Node → ℕ → ℕ → Step
step_for nodes x zero = leave x
step_for nodes x (suc k) = enter x (suc k) (at_position nodes x (suc k))

-- a synthesized instance is set when its node is left
pub record OnLeave (task : Task) (x : ℕ) (r : Rule) (i : Site) : Type 0 where
  pub kind : kind_of task.grammar task.nodes i ≡ Synthesized
  pub there : x ≡ i.node
  pub position : r.target.position ≡ 0
  pub inner : i.node ∈ inner_nodes task.tree
  pub step : step_for task.nodes x r.target.position ≡ leave i.node

-- an inherited instance is set when its node is entered
pub record OnEnter (task : Task) (x : ℕ) (r : Rule) (i : Site) : Type 0 where
  pub kind : kind_of task.grammar task.nodes i ≡ Inherited
  pub child : Child task.tree x r.target.position i.node
  pub inner : i.node ∈ inners task.tree.children
  pub step : step_for task.nodes x r.target.position ≡ enter x r.target.position i.node

module _ (task : Task) where
  step_of_child : (x j n : ℕ) → Child task.tree x j n → step_for task.nodes x j ≡ enter x j n
  step_of_child x zero n c = absurd (omega (arith, (child_has_its_symbol task.grammar task.nodes task.tree task.stands x 0 n c).0))
  step_of_child x (suc k) n c = ap (enter x (suc k)) (children_stand_at_their_positions task.grammar task.nodes task.tree task.stands x (suc k) n c)

  module _ (x : ℕ) (r : Rule) (i : Site) (s : RuleSets task x r i) where
    pub its_node_has_production : (node task.nodes i.node).production ≡ 0 → ⊥
    its_node_has_production =
        let is = rules_set_instances task.grammar task.nodes task.tree task.lawful task.stands x r i s in
        (computed_at_inner task.grammar task.nodes task.tree task.lawful task.stands i is.0 is.1).some

    on_leave : kind_of task.grammar task.nodes i ≡ Synthesized → OnLeave task x r i
    on_leave kind =
        let w = synthesized_are_set_at_the_node task.grammar task.nodes task.tree task.lawful task.stands x r i s kind in
        let is = rules_set_instances task.grammar task.nodes task.tree task.lawful task.stands x r i s in
        record {
          kind = kind;
          there = w.0;
          position = w.1;
          inner = node_is_inner task.grammar task.nodes task.tree task.stands i.node is.0.0 its_node_has_production;
          step = ap (step_for task.nodes x) w.1 ∙ ap leave w.0;
        }

    on_enter : kind_of task.grammar task.nodes i ≡ Inherited → OnEnter task x r i
    on_enter kind =
        let c = inherited_are_set_at_the_parent task.grammar task.nodes task.tree task.lawful task.stands x r i s kind in
        record {
          kind = kind;
          child = c;
          inner = child_is_inner task.grammar task.nodes task.tree task.stands x r.target.position i.node c its_node_has_production;
          step = step_of_child x r.target.position i.node c;
        }

    pub step_ways : OnLeave task x r i ⊎ OnEnter task x r i
    step_ways = elim (target_ways task.grammar task.nodes task.tree task.lawful task.stands x r i s) [
      | inl w ↦ inl (on_leave w.0)
      | inr w ↦ inr (on_enter w.0)
    ]

    step_in_walk : (steps : List Step) → HasItsSteps task.tree steps → step_for task.nodes x r.target.position ∈ steps
    step_in_walk steps has = elim step_ways [
      | inl w ↦ subst (λ z. z ∈ steps) (sym w.step) (has.leaves i.node w.inner)
      | inr w ↦ subst (λ z. z ∈ steps) (sym w.step) (has.enters x r.target.position i.node w.child w.inner)
    ]

inherited_is : (kind : AttributeKind) → inherited kind ≡ true → kind ≡ Inherited
inherited_is kind h = grind (arith, nat_tests)

synthesized_is : (kind : AttributeKind) → synthesized kind ≡ true → kind ≡ Synthesized
synthesized_is kind h = grind (arith, nat_tests)

-- a rule of the list that is the only one for its target is found
rule_found : (rules : List Rule) (r : Rule) → r ∈ rules → ((q : Rule) → q ∈ rules → q.target ≡ r.target → q ≡ r) → rule_of rules r.target ≡ Some r
rule_found [] r m only = absurd m
rule_found (q ∷ rules) r m only = elim (cases_Bool (same q.target r.target)) [
  | inl h ↦
      let parts = and_parts _ _ h in
      let position : q.target.position ≡ r.target.position = eqb-true _ _ parts.0 in
      let attribute : q.target.attribute ≡ r.target.attribute = eqb-true _ _ parts.1 in
      rw h (ap Some (only q (inl refl) (λ k. record { position = position k; attribute = attribute k })))
  | inr h ↦ elim m [
    | inl e ↦ absurd (both_ways _ h (ap (λ p. same p.target r.target) (sym e) ∙ and_from _ _ (eq-eqb r.target.position _ refl) (eq-eqb r.target.attribute _ refl)))
    | inr k ↦ rw h (rule_found rules r k (λ p n e. only p (inr n) e))
  ]
]

-- an assignment of a pass at a step: the rule at a node that sets an instance with the number of the pass, and has this step
pub record Carried {V : Type 0} (m : Meaning V) (task : Task) (pass : ℕ) (s : Step) (i : Site) (a : Assignment V) : Type 0 where
  pub node : ℕ
  pub rule : Rule
  pub sets : RuleSets task node rule i
  pub due : number_at task i ≡ pass
  pub is : a ≡ rule_at m task node rule
  pub step : s ≡ step_for task.nodes node rule.target.position

-- the assignments of a step: one for each of some attributes of a node
pub record Settled {V : Type 0} (m : Meaning V) (task : Task) (pass : ℕ) (s : Step) : Type 0 where
  pub node : ℕ
  pub attributes : List ℕ
  pub set : ℕ → Assignment V
  pub apart : Apart attributes
  pub all : settings m task.grammar task.nodes task.number pass s ≡ map set attributes
  pub carried : (b : ℕ) → b ∈ attributes → Carried m task pass s (record { node = node; attribute = b }) (set b)

module _ {V : Type 0} (m : Meaning V) (task : Task) where
  -- the rule that sets an instance is the one that is looked up for it
  set_by_rule : (x : ℕ) (r : Rule) (i : Site) → RuleSets task x r i → set_at m task.grammar task.nodes x r.target.position r.target.attribute ≡ rule_at m task x r
  set_by_rule x r i s =
      let is = rules_set_instances task.grammar task.nodes task.tree task.lawful task.stands x r i s in
      let one = each_instance_has_one_rule task.grammar task.nodes task.tree task.lawful task.stands i is.0 is.1 in
      ap (set_by m task.grammar task.nodes x r.target) (rule_found (rules_at task.grammar task.nodes x) r s.in_production
      (λ q n e. (one.only x q (record { in_row = s.in_row; in_production = n; target = ap (instance_at task.nodes x) e ∙ s.target })).1 ∙ sym (one.only x r s).1))

  set_there : (x position : ℕ) (i : Site) (y : ℕ) (r : Rule) → RuleSets task y r i → y ≡ x → r.target.position ≡ position
      → set_at m task.grammar task.nodes x position i.attribute ≡ rule_at m task y r
  set_there x position i y r s same-node same-position =
      ap (λ z. set_at m task.grammar task.nodes z position i.attribute) (sym same-node)
      ∙ ap (λ k. set_at m task.grammar task.nodes y k i.attribute) (sym same-position)
      ∙ ap (λ j. set_at m task.grammar task.nodes y r.target.position j.attribute) (sym s.target)
      ∙ set_by_rule y r i s

  module _ (pass : ℕ) where
    -- an attribute is of a kind and has the number of the pass
    abbrev is_set : (AttributeKind → Bool) → ℕ → Bool
    is_set kind a = eqb (task.number a) pass && kind (attribute task.grammar.vocabulary a).kind

    due_is : (kind : AttributeKind → Bool) (n a : ℕ) → a ∈ due task.grammar task.nodes task.number pass kind n
        → HasAttribute task.grammar.vocabulary (node task.nodes n).symbol a × (task.number a ≡ pass) × (kind (attribute task.grammar.vocabulary a).kind ≡ true)
    due_is kind n a h =
        let s = symbol task.grammar.vocabulary (node task.nodes n).symbol in
        let kept = kept_member (is_set kind) (range_with_len s.first s.count) a h in
        let parts = and_parts _ _ kept.1 in
        (counted_member s.first s.count a kept.0, eqb-true _ _ parts.0, parts.1)

    is_due : (kind : AttributeKind → Bool) (n a : ℕ) → HasAttribute task.grammar.vocabulary (node task.nodes n).symbol a → task.number a ≡ pass
        → kind (attribute task.grammar.vocabulary a).kind ≡ true → a ∈ due task.grammar task.nodes task.number pass kind n
    is_due kind n a has e k =
        let s = symbol task.grammar.vocabulary (node task.nodes n).symbol in
        member_kept (is_set kind) (range_with_len s.first s.count) a
        (member_counted s.first s.count a has.0 has.1) (and_from _ _ (eq-eqb _ _ e) k)

    abbrev pub its_settings : Step → List (Assignment V)
    its_settings = settings m task.grammar task.nodes task.number pass

    set_at_its_step : (x : ℕ) (r : Rule) (i : Site) → RuleSets task x r i → number_at task i ≡ pass → rule_at m task x r ∈ its_settings (step_for task.nodes x r.target.position)
    set_at_its_step x r i s e =
        let is = rules_set_instances task.grammar task.nodes task.tree task.lawful task.stands x r i s in
        elim (step_ways task x r i s) [
          | inl w ↦ subst (λ z. rule_at m task x r ∈ its_settings z) (sym w.step)
              (subst (λ a. a ∈ its_settings (leave i.node)) (set_there i.node 0 i x r s w.there w.position)
              (in_map (set_at m task.grammar task.nodes i.node 0) _ i.attribute (is_due synthesized i.node i.attribute is.0.1 e (ap synthesized w.kind))))
          | inr w ↦ subst (λ z. rule_at m task x r ∈ its_settings z) (sym w.step)
              (subst (λ a. a ∈ its_settings (enter x r.target.position i.node)) (set_there x r.target.position i x r s refl refl)
              (in_map (set_at m task.grammar task.nodes x r.target.position) _ i.attribute (is_due inherited i.node i.attribute is.0.1 e (ap inherited w.kind))))
        ]

    carried_there : (x position : ℕ) (i : Site) → IsInstance task.grammar task.nodes i → number_at task i ≡ pass → given (kind_of task.grammar task.nodes i) ≡ false
        → ((y : ℕ) (q : Rule) → RuleSets task y q i → (y ≡ x) × (q.target.position ≡ position))
        → Carried m task pass (step_for task.nodes x position) i (set_at m task.grammar task.nodes x position i.attribute)
    carried_there x position i is e free alone =
        let one = each_instance_has_one_rule task.grammar task.nodes task.tree task.lawful task.stands i is free in
        let there = alone one.node one.rule one.sets in
        record {
          node = one.node;
          rule = one.rule;
          sets = one.sets;
          due = e;
          is = set_there x position i one.node one.rule one.sets there.0 there.1;
          step = sym (ap (λ y. step_for task.nodes y one.rule.target.position) there.0 ∙ ap (step_for task.nodes x) there.1);
        }

    carried_on_enter : (x j n b : ℕ) → Child task.tree x j n → b ∈ due task.grammar task.nodes task.number pass inherited n
        → Carried m task pass (enter x j n) (record { node = n; attribute = b }) (set_at m task.grammar task.nodes x j b)
    carried_on_enter x j n b c h =
        let i : Site = record { node = n; attribute = b } in
        let d = due_is inherited n b h in
        let kind = inherited_is _ d.2 in
        let within = child_in_row task.grammar task.nodes task.tree task.stands x j n c in
        subst (λ s. Carried m task pass s i (set_at m task.grammar task.nodes x j b)) (step_of_child task x j n c)
        (carried_there x j i (within, d.0) d.1 (ap given kind)
        (λ y q s. parent_is_unique task.tree task.stands.once y x q.target.position j n
        (inherited_are_set_at_the_parent task.grammar task.nodes task.tree task.lawful task.stands y q i s kind) c))

    carried_on_leave : (n b : ℕ) → n ∈ inner_nodes task.tree → b ∈ due task.grammar task.nodes task.number pass synthesized n
        → Carried m task pass (leave n) (record { node = n; attribute = b }) (set_at m task.grammar task.nodes n 0 b)
    carried_on_leave n b inner h =
        let i : Site = record { node = n; attribute = b } in
        let d = due_is synthesized n b h in
        let kind = synthesized_is _ d.2 in
        let within = inner_in_row task.grammar task.nodes task.tree task.stands task.lawful n inner in
        carried_there n 0 i (within, d.0) d.1 (ap given kind)
        (λ y q s. synthesized_are_set_at_the_node task.grammar task.nodes task.tree task.lawful task.stands y q i s kind)

    due_apart : (kind : AttributeKind → Bool) (n : ℕ) → Apart (due task.grammar task.nodes task.number pass kind n)
    due_apart kind n =
        let s = symbol task.grammar.vocabulary (node task.nodes n).symbol in
        apart_kept (is_set kind) (range_with_len s.first s.count) (apart_counted s.first s.count)

    settled_on_enter : (s : Step) (x j n : ℕ) → Child task.tree x j n → s ≡ enter x j n → Settled m task pass s
    settled_on_enter s x j n c e = record {
      node = n;
      attributes = due task.grammar task.nodes task.number pass inherited n;
      set = set_at m task.grammar task.nodes x j;
      apart = due_apart inherited n;
      all = ap its_settings e;
      carried = λ b h. subst (λ z. Carried m task pass z (record { node = n; attribute = b }) (set_at m task.grammar task.nodes x j b)) (sym e) (carried_on_enter x j n b c h);
    }

    settled_on_leave : (s : Step) (n : ℕ) → n ∈ inner_nodes task.tree → s ≡ leave n → Settled m task pass s
    settled_on_leave s n inner e = record {
      node = n;
      attributes = due task.grammar task.nodes task.number pass synthesized n;
      set = set_at m task.grammar task.nodes n 0;
      apart = due_apart synthesized n;
      all = ap its_settings e;
      carried = λ b h. subst (λ z. Carried m task pass z (record { node = n; attribute = b }) (set_at m task.grammar task.nodes n 0 b)) (sym e) (carried_on_leave n b inner h);
    }

    module _ (steps : List Step) (has : HasItsSteps task.tree steps) (s : Step) (in_steps : s ∈ steps) where
      pub settled : Settled m task pass s
      settled = elim (has.only s in_steps) [
        | inl w ↦ settled_on_enter s w.0 w.1 w.2 w.3 w.5
        | inr w ↦ settled_on_leave s w.0 w.1 w.2
      ]

      pub carried : (a : Assignment V) → a ∈ its_settings s → (i : Site) × Carried m task pass s i a
      carried a h =
          let here = settled in
          let b = from_map here.set here.attributes a (subst (λ program. a ∈ program) here.all h) in
          (record { node = here.node; attribute = b.0 }, subst (Carried m task pass s (record { node = here.node; attribute = b.0 })) (sym b.2) (here.carried b.0 b.1))

pub pass_carries_out_its_rules : (V : Type 0) → PassCarriesOutItsRules V
pass_carries_out_its_rules V m task pass =
    let steps = walk (direction task.directions pass) task.tree in
    let its = walk_has_its_steps task.grammar task.nodes task.tree task.stands (direction task.directions pass) in
    record {
      all = λ x r i s e. in_flat (its_settings m task pass) steps (step_for task.nodes x r.target.position) (rule_at m task x r)
          (step_in_walk task x r i s steps its) (set_at_its_step m task pass x r i s e);
      only = λ a h.
          let from = from_flat (its_settings m task pass) steps a h in
          let found = carried m task pass steps its from.0 from.1 a from.2 in
          let c = found.1 in
          let same : found.0 ≡ a.sets = sym (ap (λ b. b.sets) c.is ∙ c.sets.target) in
          (c.node, c.rule, subst (RuleSets task c.node c.rule) same c.sets, ap (number_at task) (sym same) ∙ c.due, c.is);
    }
