-- What passes come to: each evaluates its number and leaves the others, and evaluated values are unique.
use Rattle.std.proofs.Common.{◌≡◌, ℕ, zero, suc, ◌-◌, ◌*◌, ◌<◌, ◌≤◌, true, ◌≢◌, ◌⊎◌, List, length, Some, None, Option, sym, refl, ap, ◌∙◌, subst, inl, inr, arith}
use Rattle.std.specs.List.{slice_get}
use Rattle.std.proofs.lemmas.Bool.{cases_Bool, cases_lt, both_ways, and_from, lt-ltb, le-leb}
use Rattle.std.proofs.lemmas.Bool.Decides.{nat_tests}
use Rattle.std.proofs.lemmas.List.{get_or_past}
use Rattle.refusal.specs.declared.Site.{Site}
use Rattle.grammar.specs.Members.{◌∈◌}
use Rattle.grammar.specs.Grammar.{Vocabulary, Grammar, Rule, symbol, no_symbol, given}
use Rattle.grammar.specs.Lawful.{LawfulVocabulary}
use Rattle.trees.specs.Checking.{node, production}
use Rattle.trees.proofs.Lists.{in_left}
use Rattle.walk.specs.Values.{Meaning}
use Rattle.walk.specs.Programs.{Store, Assignment, Fulfilled, AllFulfilled, Within}
use Rattle.walk.specs.Instances.{instance_at, arguments_at, kind_of, cell_of}
use Rattle.walk.specs.Passes.{Task, rule_at, pass_program, RuleSets, number_at}
use Rattle.walk.specs.Evaluation.{OfTask, holds, Evaluated, SameUpTo, SameGiven, Enough, CarriedOut, PassSetsItsNumberAlone, PassesCompose, PassEvaluates, EvaluationStays, EvaluationIsUnique, Takes, first_taking, before_pass, RewritingKeepsTheEarlier}
use Rattle.walk.proofs.Members.{from_map}
use Rattle.walk.proofs.Executions.{fulfilled_alike, untouched_stay, execution_keeps_the_length, all_fulfilled, Touched, targets_agree}
use Rattle.walk.proofs.Takers.{first_taking_is_least}
use Rattle.walk.proofs.Rules.{rule_there}
use Rattle.walk.proofs.Steps.{pass_carries_out_its_rules}
use Rattle.walk.proofs.Order.{pass_is_ordered}
use Rattle.walk.proofs.Readiness.{set_by_a_rule, arguments_of_a_rule, set_from_one, arguments_rise, other_numbers_untouched, set_in_its_pass}

pub pass_sets_its_number_alone : (V : Type 0) → PassSetsItsNumberAlone V
pass_sets_its_number_alone V m task pass done left split s t e i p other =
    untouched_stay done s t e (cell_of task.grammar task.nodes i)
    (λ b n. other_numbers_untouched task m pass i p other b (rw split (in_left done left b n)))

-- a rule stays fulfilled where neither what it sets nor its arguments change
rule_stays : {V : Type 0} (m : Meaning V) (task : Task) (x : ℕ) (r : Rule) (i : Site) → RuleSets task x r i
    → (s t : Store V) → holds task s i ≡ holds task t i → ((j : Site) → j ∈ arguments_at task.nodes x r → holds task s j ≡ holds task t j)
    → Fulfilled s (rule_at m task x r) → Fulfilled t (rule_at m task x r)
rule_stays m task x r i sets s t target arguments =
    fulfilled_alike (rule_at m task x r) s t
    (λ c n. let j = from_map (cell_of task.grammar task.nodes) (arguments_at task.nodes x r) c n in rw j.2 (arguments j.0 j.1))
    (subst (λ k. holds task s k ≡ holds task t k) (sym sets.target) target)

pub evaluation_stays : (V : Type 0) → EvaluationStays V
evaluation_stays V m task finished l s t same evaluated i p le x r sets =
    rule_stays m task x r i sets s t (same i p le)
    (λ j n. same j (arguments_of_a_rule task x r i j sets n) (omega (arith, (arguments_rise task x r i j sets (omega arith) n).1)))
    (evaluated i p le x r sets)

few_attributes_each : (v : Vocabulary) → LawfulVocabulary v → (s : ℕ) → (symbol v s).count ≤ 16
few_attributes_each v lawful s = elim (cases_lt (s - 1) (length v.symbols)) [
  | inl l ↦
      let same : suc (s - 1) - 1 ≡ s - 1 = omega arith in
      rw same at (lawful.few_of_one_symbol (suc (s - 1)) (and_from _ _ (lt-ltb 0 (suc (s - 1)) (omega arith)) (le-leb (suc (s - 1)) _ (omega arith))))
  | inr l ↦ rw (get_or_past v.symbols (s - 1) no_symbol l) (omega arith)
]

cell_within : (task : Task) (i : Site) → OfTask task i → cell_of task.grammar task.nodes i < 16 * length task.nodes
cell_within task i p =
    let few = few_attributes_each task.grammar.vocabulary task.lawful.vocabulary (node task.nodes i.node).symbol in
    omega arith

pass_within : {V : Type 0} → (m : Meaning V) (task : Task) (pass count : ℕ) → Enough task count → Within (pass_program m task pass) count
pass_within m task pass count enough b n =
    let rule = (pass_carries_out_its_rules _ m task pass).only b n in
    let set = set_by_a_rule task rule.0 rule.1 b.sets rule.2 in
    let target : b.target ≡ cell_of task.grammar task.nodes b.sets
    = ap (λ a. a.target) rule.4 ∙ ap (cell_of task.grammar task.nodes) rule.2.target in
    rw target (omega (arith, cell_within task b.sets set.0))

pub pass_evaluates : (V : Type 0) → PassEvaluates V
pass_evaluates V m task finished l s t enough evaluated e i p le x r sets = elim (cases_lt finished (number_at task i)) [
  | inl now ↦
      all_fulfilled program s t (pass_is_ordered _ m task pass (omega arith)) (pass_within m task pass (length s) enough) e (rule_at m task x r)
      ((pass_carries_out_its_rules _ m task pass).all x r i sets (omega arith))
  | inr earlier ↦ evaluation_stays V m task finished (omega arith) (slice_get s) (slice_get t) stays evaluated i p earlier x r sets
]
  where
    pass : ℕ
    pass = suc finished

    program : List (Assignment V)
    program = pass_program m task pass

    stays : SameUpTo task finished (slice_get s) (slice_get t)
    stays j q less =
        sym (untouched_stay program s t e (cell_of task.grammar task.nodes j) (other_numbers_untouched task m pass j q (λ same. omega arith)))

module _ {V : Type 0} (m : Meaning V) (task : Task) where
  carrying_out_keeps_the_length : (finished : ℕ) (s t : List V) → CarriedOut m task finished s t → length t ≡ length s
  carrying_out_keeps_the_length zero s t e = ap length e
  carrying_out_keeps_the_length (suc finished) s t e =
      execution_keeps_the_length (pass_program m task (suc finished)) e.0 t e.2 ∙ carrying_out_keeps_the_length finished s e.0 e.1

  carried_out_is_evaluated : (finished : ℕ) → finished ≤ length task.directions → (s t : List V) → Enough task (length s)
      → CarriedOut m task finished s t → Evaluated m task finished (slice_get t)
  carried_out_is_evaluated zero l s t enough e = λ i p le x r sets. let from_one = set_from_one task x r i sets in absurd (omega arith)
  carried_out_is_evaluated (suc finished) l s t enough e =
      let same = carrying_out_keeps_the_length finished s e.0 e.1 in
      pass_evaluates V m task finished (omega arith) e.0 t (omega arith)
      (carried_out_is_evaluated finished (omega arith) s e.0 enough e.1) e.2

pub passes_compose : (V : Type 0) → PassesCompose V
passes_compose V m task finished l s t enough e store same =
    evaluation_stays V m task finished l (slice_get t) store same (carried_out_is_evaluated m task finished l s t enough e)

all_of_a_pass_fulfilled : {V : Type 0} → (m : Meaning V) (task : Task) (finished pass : ℕ) → pass ≤ finished
    → (store : Store V) → Evaluated m task finished store → AllFulfilled store (pass_program m task pass)
all_of_a_pass_fulfilled m task finished pass le store evaluated a n =
    let rule = (pass_carries_out_its_rules _ m task pass).only a n in
    let set = set_by_a_rule task rule.0 rule.1 a.sets rule.2 in
    let number = rule.3 in
    rw rule.4 (evaluated a.sets set.0 (omega arith) rule.0 rule.1 rule.2)

module _ {V : Type 0} (m : Meaning V) (task : Task) (finished : ℕ) (l : finished ≤ length task.directions)
    (s t : Store V) (evaluated_s : Evaluated m task finished s) (evaluated_t : Evaluated m task finished t) (same_given : SameGiven task s t) where
  module _ (pass : ℕ) (le : pass ≤ finished) (below : (j : Site) → OfTask task j → number_at task j < pass → holds task s j ≡ holds task t j) where
    argument_touched_or_alike : (a : Assignment V) → a ∈ pass_program m task pass → (c : ℕ) → c ∈ a.arguments
        → Touched (pass_program m task pass) c ⊎ (s c ≡ t c)
    argument_touched_or_alike a n c q = elim (cases_Bool (given (kind_of task.grammar task.nodes j))) [
      | inl h ↦ inr (rw argument.2 (same_given j instance h))
      | inr h ↦ elim (cases_lt (number_at task j) pass) [
        | inl less ↦ inr (rw argument.2 (below j instance less))
        | inr more ↦
            let set = set_in_its_pass task m pass j instance h (omega (arith, rises)) in
            inl (set.0, set.1, argument.2 ∙ set.3)
      ]
    ]
      where
        rule : (x : ℕ) × (r : Rule) × RuleSets task x r a.sets × (number_at task a.sets ≡ pass) × (a ≡ rule_at m task x r)
        rule = (pass_carries_out_its_rules _ m task pass).only a n

        argument : (j : Site) × (j ∈ arguments_at task.nodes rule.0 rule.1) × (c ≡ cell_of task.grammar task.nodes j)
        argument = from_map (cell_of task.grammar task.nodes) (arguments_at task.nodes rule.0 rule.1) c (subst (λ b. c ∈ b.arguments) rule.4 q)

        j : Site
        j = argument.0

        instance : OfTask task j
        instance = arguments_of_a_rule task rule.0 rule.1 a.sets j rule.2 argument.1

        rises : number_at task j ≤ pass
        rises =
            let here = rule.3 in
            let low = (arguments_rise task rule.0 rule.1 a.sets j rule.2 (omega arith) argument.1).1 in
            omega arith

    agree_in_a_pass : (i : Site) → OfTask task i → number_at task i ≡ pass → holds task s i ≡ holds task t i
    agree_in_a_pass i p here = elim (cases_Bool (given (kind_of task.grammar task.nodes i))) [
      | inl h ↦ same_given i p h
      | inr h ↦
          let set = set_in_its_pass task m pass i p h here in
          ap s set.3
          ∙ targets_agree (pass_program m task pass) s t (pass_is_ordered _ m task pass (omega arith)) (all_of_a_pass_fulfilled m task finished pass le s evaluated_s)
          (all_of_a_pass_fulfilled m task finished pass le t evaluated_t) argument_touched_or_alike set.0 set.1
          ∙ sym (ap t set.3)
    ]

  agree_up_to : (k : ℕ) → k ≤ finished → SameUpTo task k s t
  agree_up_to zero h i p le = agree_in_a_pass zero h (λ j q less. absurd (omega arith)) i p (omega arith)
  agree_up_to (suc k) h i p le = elim (cases_lt k (number_at task i)) [
    | inl last ↦ agree_in_a_pass (suc k) h (λ j q less. agree_up_to k (omega arith) j q (omega arith)) i p (omega arith)
    | inr before ↦ agree_up_to k (omega arith) i p before
  ]

pub evaluation_is_unique : (V : Type 0) → EvaluationIsUnique V
evaluation_is_unique V m task finished l s t evaluated_s evaluated_t same_given =
    agree_up_to m task finished l s t evaluated_s evaluated_t same_given finished (omega arith)

within_the_finished : (first : Option ℕ) (finished n : ℕ) → n ≤ before_pass first finished → n ≤ finished
within_the_finished first finished n h = grind (arith, nat_tests)

-- what has a number before the first that takes an attribute does not take it
before_the_first_taking : (g : Grammar) (number : ℕ → ℕ) (a b finished : ℕ) → Takes g a b → 1 ≤ number b
    → number b ≤ before_pass (first_taking g number a) finished → ⊥
before_the_first_taking g number a b finished takes from_one = go (first_taking g number a) refl
  where
    go : (first : Option ℕ) → first_taking g number a ≡ first → number b ≤ before_pass first finished → ⊥
    go None e h = (first_taking_is_least g number a).1 e b takes
    go (Some p) e h = omega (arith, ((first_taking_is_least g number a).0 p e).least b takes, from_one)

pub rewriting_keeps_the_earlier : (V : Type 0) → RewritingKeepsTheEarlier V
rewriting_keeps_the_earlier V m task finished l i p is_given s t same evaluated k q le x r sets =
    rule_stays m task x r k sets s t (same k q not_rewritten) (λ j n. same j (arguments_of_a_rule task x r k j sets n) (not_taken j n))
    (evaluated k q (within_the_finished _ finished (number_at task k) le) x r sets)
  where
    g : Grammar
    g = task.grammar

    not_rewritten : k ≢ i
    not_rewritten e = both_ways _ (set_by_a_rule task x r k sets).1 (subst (λ j. given (kind_of g task.nodes j) ≡ true) (sym e) is_given)

    not_taken : (j : Site) → j ∈ arguments_at task.nodes x r → j ≢ i
    not_taken j n e =
        let from = rule_there g task.nodes task.tree task.lawful task.stands x r k sets in
        let argument = from_map (instance_at task.nodes x) r.arguments j n in
        let takes : Takes g i.attribute k.attribute
        = record {
          production = production g (node task.nodes x).production;
          in_grammar = from.there.in_grammar;
          rule = r;
          in_production = from.in_rules;
          argument = argument.0;
          in_rule = argument.1;
          takes = ap (λ h. h.attribute) (sym argument.2 ∙ e);
          sets = ap (λ h. h.attribute) sets.target;
        } in
        before_the_first_taking g task.number i.attribute k.attribute finished takes (set_from_one task x r k sets) le
