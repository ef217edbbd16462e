-- The arguments of the rules that a pass carries out: their numbers, and when they are set.
use Rattle.std.proofs.Common.{◌≡◌, ℕ, ◌≤◌, true, false, ◌≢◌, List, ◌∷◌, ◌++◌, length, sym, refl, ap, ◌∙◌, subst, inl, inr, arith}
use Rattle.std.proofs.lemmas.Bool.{cases_Bool, and_parts, and_from, not_from_false}
use Rattle.refusal.specs.declared.Site.{Site}
use Rattle.grammar.specs.declared.production.Occurrence.{Occurrence}
use Rattle.grammar.specs.Members.{◌∈◌}
use Rattle.grammar.specs.Grammar.{Grammar, Rule, attribute, is_attribute, occurs, given}
use Rattle.grammar.specs.Lawful.{Used}
use Rattle.grammar.proofs.Members.{all_member}
use Rattle.trees.specs.declared.node.Node.{Node}
use Rattle.trees.specs.Checking.{node, production}
use Rattle.trees.proofs.Lists.{in_right, in_either}
use Rattle.walk.specs.Values.{Meaning}
use Rattle.walk.specs.Programs.{Assignment, Ordered, Untouched}
use Rattle.walk.specs.Instances.{instance_at, arguments_at, IsInstance, kind_of, cell_of}
use Rattle.walk.specs.Passes.{Task, rule_at, pass_program, RuleSets, number_at, ArgumentsAreReady}
use Rattle.walk.proofs.Members.{in_map, from_map}
use Rattle.walk.proofs.Executions.{ordered_leads}
use Rattle.walk.proofs.Rules.{RuleThere, rule_there, rules_set_instances, each_instance_has_one_rule, arguments_are_instances}
use Rattle.walk.proofs.Steps.{pass_carries_out_its_rules}
use Rattle.walk.proofs.Order.{same_instance, pass_is_ordered}

occurring_is_named : (g : Grammar) (left : ℕ) (right : List ℕ) (o : Occurrence) → occurs g.vocabulary left right o ≡ true
    → is_attribute g.vocabulary o.attribute ≡ true
occurring_is_named g left right o h = (and_parts _ _ (and_parts _ _ h).1).0

module _ (task : Task) where
  abbrev g : Grammar
  g = task.grammar

  abbrev nodes : List Node
  nodes = task.nodes

  pub set_by_a_rule : (x : ℕ) (r : Rule) (i : Site) → RuleSets task x r i → IsInstance g nodes i × (given (kind_of g nodes i) ≡ false)
  set_by_a_rule = rules_set_instances g nodes task.tree task.lawful task.stands

  pub arguments_of_a_rule : (x : ℕ) (r : Rule) (i j : Site) → RuleSets task x r i → j ∈ arguments_at nodes x r → IsInstance g nodes j
  arguments_of_a_rule = arguments_are_instances g nodes task.tree task.lawful task.stands

  -- what a rule sets has a number from 1 on
  pub set_from_one : (x : ℕ) (r : Rule) (i : Site) → RuleSets task x r i → 1 ≤ number_at task i
  set_from_one x r i s =
      let named = occurring_is_named g _ _ r.target (rule_there g nodes task.tree task.lawful task.stands x r i s).lawful.defines.0 in
      let same : r.target.attribute ≡ i.attribute = ap (λ k. k.attribute) s.target in
      task.valid.from_one i.attribute (and_from _ _ (rw same at named) (not_from_false _ (set_by_a_rule x r i s).1))

  -- an argument that is given has 0, and none has a larger number than what the rule sets
  pub arguments_rise : (x : ℕ) (r : Rule) (i j : Site) → RuleSets task x r i → number_at task i ≤ length task.directions → j ∈ arguments_at nodes x r
      → (given (kind_of g nodes j) ≡ true → number_at task j ≡ 0) × (number_at task j ≤ number_at task i)
  arguments_rise x r i j s l m = rw is (
    zero_if_given,
    elim (cases_Bool (given (attribute g.vocabulary o.attribute).kind)) [
      | inl h ↦ omega (arith, zero_if_given h)
      | inr h ↦ rw (← same) (task.valid.rises o.attribute r.target.attribute (
        o.position,
        r.target.position,
        record {
          production = production g (node nodes x).production;
          in_grammar = from.there.in_grammar;
          rule = r;
          in_production = from.in_rules;
          argument = o;
          in_rule = listed.1;
          takes = refl;
          sets = refl;
          not_given = h;
        },
      ) (rw same l))
    ],
  )
    where
      from : RuleThere g nodes x r
      from = rule_there g nodes task.tree task.lawful task.stands x r i s

      listed : (o : Occurrence) × (o ∈ r.arguments) × (j ≡ instance_at nodes x o)
      listed = from_map (instance_at nodes x) r.arguments j m

      o : Occurrence
      o = listed.0

      is : j ≡ instance_at nodes x o
      is = listed.2

      same : r.target.attribute ≡ i.attribute
      same = ap (λ k. k.attribute) s.target

      zero_if_given : given (attribute g.vocabulary o.attribute).kind ≡ true → task.number o.attribute ≡ 0
      zero_if_given =
          task.valid.at_given o.attribute
          (occurring_is_named g _ _ o (all_member (Used g.vocabulary (production g (node nodes x).production)) r.arguments o from.lawful.uses listed.1).0)

  module _ {V : Type 0} (m : Meaning V) (pass : ℕ) where
    -- a pass sets no instance with another number
    pub other_numbers_untouched : (i : Site) → IsInstance g nodes i → number_at task i ≢ pass → Untouched (pass_program m task pass) (cell_of g nodes i)
    other_numbers_untouched i p other b n e =
        let rule = (pass_carries_out_its_rules V m task pass).only b n in
        let set = set_by_a_rule rule.0 rule.1 b.sets rule.2 in
        let same = same_instance task i b.sets p set.0 (e ∙ ap (λ a. a.target) rule.4 ∙ ap (cell_of g nodes) rule.2.target) in
        other (ap (number_at task) same ∙ rule.3)

    -- an instance that is not given is set in the pass of its number
    pub set_in_its_pass : (i : Site) → IsInstance g nodes i → given (kind_of g nodes i) ≡ false → number_at task i ≡ pass
        → (b : Assignment V) × (b ∈ pass_program m task pass) × (b.sets ≡ i) × (cell_of g nodes i ≡ b.target)
    set_in_its_pass i p free here =
        let one = each_instance_has_one_rule g nodes task.tree task.lawful task.stands i p free in (
          rule_at m task one.node one.rule,
          (pass_carries_out_its_rules V m task pass).all one.node one.rule i one.sets here,
          one.sets.target,
          ap (cell_of g nodes) (sym one.sets.target),
        )

    -- it is set before every rule that it is an argument of
    set_before : (before behind : List (Assignment V)) (x : ℕ) (r : Rule) → pass ≤ length task.directions
        → pass_program m task pass ≡ before ++ rule_at m task x r ∷ behind
        → (j : Site) → IsInstance g nodes j → given (kind_of g nodes j) ≡ false → j ∈ arguments_at nodes x r → number_at task j ≡ pass
        → (b : Assignment V) × (b ∈ before) × (b.sets ≡ j)
    set_before before behind x r l split j p free n here =
        let set = set_in_its_pass j p free here in
        let leads = ordered_leads before (rule_at m task x r) behind (subst Ordered split (pass_is_ordered V m task pass l)) in
        let read = in_map (cell_of g nodes) (arguments_at nodes x r) j n in
        elim (in_either before (rule_at m task x r ∷ behind) set.0 (subst (λ program. set.0 ∈ program) split set.1)) [
          | inl m ↦ (set.0, m, set.2)
          | inr m ↦ absurd (elim m [
            | inl e ↦ leads.own (cell_of g nodes j) read (set.3 ∙ ap (λ a. a.target) e)
            | inr k ↦ leads.reads set.0 k (cell_of g nodes j) read set.3
          ])
        ]

pub arguments_are_ready : (V : Type 0) → ArgumentsAreReady V
arguments_are_ready V m task pass l before behind x r i split s j n =
    record {
      none_greater = omega (arith, here, rises.1);
      set_before = λ e. set_before task m pass before behind x r l split j instance (free e) n e;
      smaller_stay = λ less. other_numbers_untouched task m pass j instance (λ e. omega arith);
    }
  where
    here : number_at task i ≡ pass
    here =
        let in_pass = in_right before (rule_at m task x r ∷ behind) (rule_at m task x r) (inl refl) in
        let rule = (pass_carries_out_its_rules V m task pass).only (rule_at m task x r) (rw split in_pass) in
        sym (ap (number_at task) s.target) ∙ rule.3

    instance : IsInstance task.grammar task.nodes j
    instance = arguments_of_a_rule task x r i j s n

    rises : (given (kind_of task.grammar task.nodes j) ≡ true → number_at task j ≡ 0) × (number_at task j ≤ number_at task i)
    rises = arguments_rise task x r i j s (omega (arith, here)) n

    free : number_at task j ≡ pass → given (kind_of task.grammar task.nodes j) ≡ false
    free e = elim (cases_Bool (given (kind_of task.grammar task.nodes j)))
        [ inl h ↦ absurd (omega (arith, here, rises.0 h, set_from_one task x r i s)) | inr h ↦ h ]
