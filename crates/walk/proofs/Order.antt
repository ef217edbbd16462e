-- The order of a pass: what a rule takes is set at an earlier step.
use Rattle.std.proofs.Common.{◌≡◌, ℕ, ◌≤◌, List, ◌∷◌, ◌++◌, length, sym, refl, ap, ◌∙◌, subst, subst₂, inl, inr, arith}
use Rattle.std.proofs.lemmas.Bool.{eqb-false, ltb-false}
use Rattle.std.proofs.lemmas.Bool.Decides.{nat_tests}
use Rattle.refusal.specs.declared.Site.{Site}
use Rattle.plans.specs.declared.Direction.{Direction}
use Rattle.grammar.specs.declared.production.Occurrence.{Occurrence}
use Rattle.grammar.specs.Members.{◌∈◌}
use Rattle.grammar.specs.Grammar.{Rule, defined_at}
use Rattle.grammar.specs.Lawful.{Used}
use Rattle.grammar.specs.Arcs.{Arc, Ahead, Barred}
use Rattle.grammar.specs.Numberings.{direction}
use Rattle.grammar.proofs.Members.{all_member}
use Rattle.trees.specs.Checking.{node, production}
use Rattle.trees.specs.Laws.{Child}
use Rattle.trees.proofs.Symbols.{child_has_its_symbol}
use Rattle.trees.proofs.Cells.{cells_differ}
use Rattle.trees.proofs.Lists.{in_right}
use Rattle.walk.specs.Values.{Meaning}
use Rattle.walk.specs.Programs.{Assignment, Ordered}
use Rattle.walk.specs.Positions.{at_position}
use Rattle.walk.specs.Walks.{Step, enter, leave, walk, Sooner}
use Rattle.walk.specs.Turns.{Earlier, InTurn, HasItsSteps}
use Rattle.walk.specs.Instances.{instance_at, arguments_at, IsInstance, cell_of}
use Rattle.walk.specs.Passes.{Task, RuleSets, number_at, PassIsOrdered}
use Rattle.walk.proofs.Members.{from_map}
use Rattle.walk.proofs.Places.{child_is_inner}
use Rattle.walk.proofs.Occurrences.{occurrence_is_child}
use Rattle.walk.proofs.Rules.{rule_there, rules_set_instances, arguments_are_instances, each_instance_has_one_rule}
use Rattle.walk.proofs.Steps.{step_for, OnLeave, OnEnter, step_ways, its_node_has_production, its_settings, Carried, settled, carried}
use Rattle.walk.proofs.Turning.{walk_has_its_steps, walk_goes_in_turn}
use Rattle.walk.proofs.OrderedParts.{Undisturbed, ordered_map, ordered_flat}

not_ahead : (d : Direction) (j k : ℕ) → 1 ≤ j → 1 ≤ k → (Ahead d j k → ⊥) → Sooner d j k
not_ahead d j k low low' h = grind (arith, nat_tests)

module _ (task : Task) (pass : ℕ) (planned : pass ≤ length task.directions) (steps : List Step) (turn : InTurn (direction task.directions pass) task.tree steps) where
  -- a rule at a node, one of its arguments, and the rule that sets that argument, both for the pass
  module _ (x : ℕ) (r : Rule) (i : Site) (sets : RuleSets task x r i) (due : number_at task i ≡ pass) (o : Occurrence) (in_rule : o ∈ r.arguments)
      (y : ℕ) (q : Rule) (set_before : RuleSets task y q (instance_at task.nodes x o)) (due_too : number_at task (instance_at task.nodes x o) ≡ pass) where
    abbrev j : Site
    j = instance_at task.nodes x o

    used : Used task.grammar.vocabulary (production task.grammar (node task.nodes x).production) o
    used = all_member (Used task.grammar.vocabulary (production task.grammar (node task.nodes x).production)) r.arguments o
        (rule_there task.grammar task.nodes task.tree task.lawful task.stands x r i sets).lawful.uses in_rule

    -- an inherited argument is at the node itself
    at_node : OnEnter task y q j → x ≡ j.node
    at_node w =
        let low : o.position ≤ 0 = ltb-false 0 o.position (ap (λ k. defined_at k o.position) (sym w.kind) ∙ used.1) in
        let z : 0 ≡ o.position = omega arith in
        ap (at_position task.nodes x) z

    -- a synthesized argument is on the right side, at a child
    past_left : OnLeave task y q j → 1 ≤ o.position
    past_left w =
        let n : o.position ≡ 0 → ⊥ = eqb-false o.position 0 (ap (λ k. defined_at k o.position) (sym w.kind) ∙ used.1) in
        omega arith

    at_child : OnLeave task y q j → Child task.tree x o.position j.node
    at_child w = occurrence_is_child task.grammar task.nodes task.tree task.lawful task.stands x sets.in_row
        (rule_there task.grammar task.nodes task.tree task.lawful task.stands x r i sets).there o used.0 (past_left w)

    sooner : 1 ≤ o.position → 1 ≤ r.target.position → Sooner (direction task.directions pass) o.position r.target.position
    sooner low low' = not_ahead (direction task.directions pass) o.position r.target.position low low' (λ ahead.
        let there = rule_there task.grammar task.nodes task.tree task.lawful task.stands x r i sets in
        let number : task.number r.target.attribute ≡ pass = ap (number_at task) sets.target ∙ due in
        let arc : Arc task.grammar o.attribute r.target.attribute o.position r.target.position = record {
          production = production task.grammar (node task.nodes x).production;
          in_grammar = there.there.in_grammar;
          rule = r;
          in_production = there.in_rules;
          argument = o;
          in_rule = in_rule;
          takes = refl;
          sets = refl;
          not_given = (rules_set_instances task.grammar task.nodes task.tree task.lawful task.stands y q j set_before).1;
        } in
        task.valid.clear o.attribute r.target.attribute (o.position, r.target.position, arc) (omega (arith, number, planned)) (due_too ∙ sym number)
        (subst (λ p. Barred task.grammar (direction task.directions p) o.attribute r.target.attribute) (sym number) (o.position, r.target.position, arc, ahead)))

    -- the argument is set at an earlier step
    argument_earlier : Earlier steps (step_for task.nodes y q.target.position) (step_for task.nodes x r.target.position)
    argument_earlier = elim (step_ways task y q j set_before) [
      | inl w ↦
          let inner = child_is_inner task.grammar task.nodes task.tree task.stands x o.position j.node (at_child w) (its_node_has_production task y q j set_before) in
          elim (step_ways task x r i sets) [
            | inl v ↦ subst₂ (Earlier steps) (sym w.step) (ap leave v.there ∙ sym v.step) (turn.up x o.position j.node (at_child w) inner)
            | inr v ↦ subst₂ (Earlier steps) (sym w.step) (sym v.step) (turn.across x o.position j.node r.target.position i.node (at_child w) v.child inner v.inner
                (sooner (past_left w) (child_has_its_symbol task.grammar task.nodes task.tree task.stands x r.target.position i.node v.child).0))
          ]
      | inr w ↦ elim (step_ways task x r i sets) [
        | inl v ↦ subst₂ (Earlier steps) (sym w.step) (ap leave (sym (at_node w) ∙ v.there) ∙ sym v.step) (turn.enters_first y q.target.position j.node w.child w.inner)
        | inr v ↦ subst₂ (Earlier steps) (sym w.step) (ap (λ z. enter z r.target.position i.node) (sym (at_node w)) ∙ sym v.step)
            (turn.down y q.target.position j.node r.target.position i.node w.child
            (subst (λ z. Child task.tree z r.target.position i.node) (at_node w) v.child) v.inner)
      ]
    ]

-- one cell is that of one instance
pub same_instance : (task : Task) (i k : Site) → IsInstance task.grammar task.nodes i → IsInstance task.grammar task.nodes k
    → cell_of task.grammar task.nodes i ≡ cell_of task.grammar task.nodes k → i ≡ k
same_instance task i k is is' e =
    let same = cells_differ task.grammar task.nodes task.tree task.lawful task.stands i.node k.node i.attribute k.attribute is is' e in
    λ z. record { node = same.0 z; attribute = same.1 z }

module _ {V : Type 0} (m : Meaning V) (task : Task) (pass : ℕ) where
  -- two assignments of the pass, at their steps
  module _ (s s' : Step) (i k : Site) (a b : Assignment V) (first : Carried m task pass s i a) (second : Carried m task pass s' k b) where
    is_instance : IsInstance task.grammar task.nodes k
    is_instance = (rules_set_instances task.grammar task.nodes task.tree task.lawful task.stands second.node second.rule k second.sets).0

    target_cell : b.target ≡ cell_of task.grammar task.nodes k
    target_cell = ap (λ c. c.target) second.is ∙ ap (cell_of task.grammar task.nodes) second.sets.target

    same_step : i ≡ k → s ≡ s'
    same_step e =
        let is = rules_set_instances task.grammar task.nodes task.tree task.lawful task.stands second.node second.rule k second.sets in
        let one = each_instance_has_one_rule task.grammar task.nodes task.tree task.lawful task.stands k is.0 is.1 in
        let here = one.only first.node first.rule (subst (RuleSets task first.node first.rule) e first.sets) in
        let there = one.only second.node second.rule second.sets in
        first.step ∙ ap (λ x. step_for task.nodes x first.rule.target.position) (here.0 ∙ sym there.0)
        ∙ ap (λ r. step_for task.nodes second.node r.target.position) (here.1 ∙ sym there.1) ∙ sym second.step

    -- what the first reads and the second sets is set at an earlier step
    read_is_earlier : pass ≤ length task.directions → (steps : List Step) → InTurn (direction task.directions pass) task.tree steps
        → (c : ℕ) → c ∈ a.arguments → c ≡ b.target → Earlier steps s' s
    read_is_earlier planned steps turn c m e =
        let x = first.node in
        let r = first.rule in
        let arg = from_map (cell_of task.grammar task.nodes) (arguments_at task.nodes x r) c (subst (λ z. c ∈ z.arguments) first.is m) in
        let o = from_map (instance_at task.nodes x) r.arguments arg.0 arg.1 in
        let is = arguments_are_instances task.grammar task.nodes task.tree task.lawful task.stands x r i arg.0 first.sets arg.1 in
        let same : k ≡ instance_at task.nodes x o.0 = sym (same_instance task arg.0 k is is_instance (sym arg.2 ∙ e ∙ target_cell)) ∙ o.2 in
        subst₂ (Earlier steps) (sym second.step) (sym first.step)
        (argument_earlier task pass planned steps turn x r i first.sets first.due o.0 o.1 second.node second.rule
        (subst (RuleSets task second.node second.rule) same second.sets) (ap (number_at task) (sym same) ∙ second.due))

  same_target : (s s' : Step) (i k : Site) (a b : Assignment V) → Carried m task pass s i a → Carried m task pass s' k b → a.target ≡ b.target → i ≡ k
  same_target s s' i k a b first second e = same_instance task i k (is_instance s' s k i b a second first) (is_instance s s' i k a b first second)
      (sym (target_cell s' s k i b a second first) ∙ e ∙ target_cell s s' i k a b first second)

earlier_member : (steps : List Step) (s s' : Step) → Earlier steps s s' → (s ∈ steps) × (s' ∈ steps)
earlier_member steps s s' e = (
  subst (λ z. s ∈ z) (sym e.split) (in_right e.before (s ∷ (e.between ++ s' ∷ e.behind)) s (inl refl)),
  subst (λ z. s' ∈ z) (sym e.split)
      (in_right e.before (s ∷ (e.between ++ s' ∷ e.behind)) s' (inr (in_right e.between (s' ∷ e.behind) s' (inl refl)))),
)

module _ {V : Type 0} (m : Meaning V) (task : Task) (pass : ℕ) (planned : pass ≤ length task.directions) (steps : List Step)
    (has : HasItsSteps task.tree steps) (turn : InTurn (direction task.directions pass) task.tree steps) where
  step_is_ordered : (s : Step) → s ∈ steps → Ordered (its_settings m task pass s)
  step_is_ordered s in_steps =
      let here = settled m task pass steps has s in_steps in
      let site : ℕ → Site = λ b. record { node = here.node; attribute = b } in
      subst Ordered (sym here.all) (ordered_map here.set here.attributes here.apart
      (λ a b p q c k e.
      let back = read_is_earlier m task pass s s (site a) (site b) (here.set a) (here.set b) (here.carried a p) (here.carried b q) planned steps turn c k e in
      turn.once s s back back)
      (λ a b p q e. ap (λ i. i.attribute) (same_target m task pass s s (site a) (site b) (here.set a) (here.set b) (here.carried a p) (here.carried b q) e)))

  later_steps_leave_it : (s s' : Step) → Earlier steps s s' → (a b : Assignment V) → a ∈ its_settings m task pass s → b ∈ its_settings m task pass s' → Undisturbed a b
  later_steps_leave_it s s' before a b p q =
      let members = earlier_member steps s s' before in
      let first = carried m task pass steps has s members.0 a p in
      let second = carried m task pass steps has s' members.1 b q in
      record {
        reads = λ c k e. turn.once s s' before (read_is_earlier m task pass s s' first.0 second.0 a b first.1 second.1 planned steps turn c k e);
        apart = λ e.
            let same = same_step m task pass s s' first.0 second.0 a b first.1 second.1 (same_target m task pass s s' first.0 second.0 a b first.1 second.1 e) in
            turn.once s s' before (subst₂ (Earlier steps) same (sym same) before);
      }

pub pass_is_ordered : (V : Type 0) → PassIsOrdered V
pass_is_ordered V m task pass planned =
    let d = direction task.directions pass in
    let steps = walk d task.tree in
    let its = walk_has_its_steps task.grammar task.nodes task.tree task.stands d in
    let turn = walk_goes_in_turn task.grammar task.nodes task.tree task.stands d in
    ordered_flat (its_settings m task pass) steps (step_is_ordered m task pass planned steps its turn) (later_steps_leave_it m task pass planned steps its turn)
