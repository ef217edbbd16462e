-- What passes come to: values that fulfil the rules, and the only ones.
use Rattle.std.specs.Prelude.{◌≡◌, ℕ, zero, suc, ◌-◌, ◌*◌, ◌<◌, ◌≤◌, min, Bool, true, false, cond, ◌||◌, ◌≢◌, List, [], ◌∷◌, ◌++◌, length, Some, None, Option, ◌==◌}
use Rattle.std.specs.List.{flat_map, slice_get}
use Rattle.refusal.specs.declared.Site.{Site}
use Rattle.grammar.specs.declared.production.Occurrence.{Occurrence}
use Rattle.grammar.specs.Members.{◌∈◌}
use Rattle.grammar.specs.Grammar.{Grammar, Production, Rule, given}
use Rattle.walk.specs.Values.{Meaning}
use Rattle.walk.specs.Programs.{Store, Assignment, Fulfilled, Executes}
use Rattle.walk.specs.Instances.{IsInstance, kind_of, cell_of}
use Rattle.walk.specs.Passes.{Task, rule_at, pass_program, RuleSets, number_at}

-- an instance at a node of the task's tree
abbrev pub OfTask : Task → Site → Type 0
OfTask task i = IsInstance task.grammar task.nodes i

-- what an instance holds in a store
abbrev pub holds : {V : Type 0} → Task → Store V → Site → Option V
holds task store i = store (cell_of task.grammar task.nodes i)

-- the rule that sets the instance has a value over the store, and that is what the instance holds
abbrev pub InstanceFulfilled : {V : Type 0} → Meaning V → Task → Store V → Site → Type 0
InstanceFulfilled m task store i = (x : ℕ) (r : Rule) → RuleSets task x r i → Fulfilled store (rule_at m task x r)

-- Every instance with a rule and a number of at most the finished passes is fulfilled.
abbrev pub Evaluated : {V : Type 0} → Meaning V → Task → ℕ → Store V → Type 0
Evaluated m task finished store = (i : Site) → OfTask task i → number_at task i ≤ finished → InstanceFulfilled m task store i

-- two stores hold the same at the instances with a number of at most the finished passes
abbrev pub SameUpTo : {V : Type 0} → Task → ℕ → Store V → Store V → Type 0
SameUpTo task finished s t = (i : Site) → OfTask task i → number_at task i ≤ finished → holds task s i ≡ holds task t i

-- two stores hold the same at the given instances
abbrev pub SameGiven : {V : Type 0} → Task → Store V → Store V → Type 0
SameGiven task s t = (i : Site) → OfTask task i → given (kind_of task.grammar task.nodes i) ≡ true → holds task s i ≡ holds task t i

-- 16 cells for each node
abbrev pub Enough : Task → ℕ → Type 0
Enough task count = 16 * length task.nodes ≤ count

-- so many passes, from the first on, each carried out in full, lead from the cells s to the cells t
abbrev pub CarriedOut : {V : Type 0} → Meaning V → Task → ℕ → List V → List V → Type 0
CarriedOut m task zero s t = t ≡ s
CarriedOut m task (suc finished) s t =
    (u : List _) × CarriedOut m task finished s u × Executes (pass_program m task (suc finished)) u t

-- A pass, also one that is broken off, changes no instance but those with its number.
abbrev pub PassSetsItsNumberAlone : Type 0 → Type 0
PassSetsItsNumberAlone V = (m : Meaning V) (task : Task) (pass : ℕ)
    → (done left : List (Assignment V)) → pass_program m task pass ≡ done ++ left → (s t : List V) → Executes done s t
    → (i : Site) → OfTask task i → number_at task i ≢ pass → holds task (slice_get t) i ≡ holds task (slice_get s) i

-- After passes that were carried out in full every instance with one of their numbers is fulfilled, whatever a later pass has done to instances with other numbers.
abbrev pub PassesCompose : Type 0 → Type 0
PassesCompose V = (m : Meaning V) (task : Task) (finished : ℕ) → finished ≤ length task.directions
    → (s t : List V) → Enough task (length s) → CarriedOut m task finished s t
    → (store : Store V) → SameUpTo task finished (slice_get t) store → Evaluated m task finished store

-- One pass more over evaluated cells evaluates its number too.
abbrev pub PassEvaluates : Type 0 → Type 0
PassEvaluates V = (m : Meaning V) (task : Task) (finished : ℕ) → finished < length task.directions
    → (s t : List V) → Enough task (length s) → Evaluated m task finished (slice_get s) → Executes (pass_program m task (suc finished)) s t
    → Evaluated m task (suc finished) (slice_get t)

-- What is evaluated stays so while the instances with these numbers stay as they are.
abbrev pub EvaluationStays : Type 0 → Type 0
EvaluationStays V = (m : Meaning V) (task : Task) (finished : ℕ) → finished ≤ length task.directions
    → (s t : Store V) → SameUpTo task finished s t → Evaluated m task finished s → Evaluated m task finished t

-- Evaluated values are the only ones with the same given values.
abbrev pub EvaluationIsUnique : Type 0 → Type 0
EvaluationIsUnique V = (m : Meaning V) (task : Task) (finished : ℕ) → finished ≤ length task.directions
    → (s t : Store V) → Evaluated m task finished s → Evaluated m task finished t → SameGiven task s t → SameUpTo task finished s t

-- Some rule for attribute b takes attribute a.
pub record Takes (g : Grammar) (a b : ℕ) : Type 0 where
  pub production : Production
  pub in_grammar : production ∈ g.productions
  pub rule : Rule
  pub in_production : rule ∈ production.rules
  pub argument : Occurrence
  pub in_rule : argument ∈ rule.arguments
  pub takes : argument.attribute ≡ a
  pub sets : rule.target.attribute ≡ b

-- the attribute is among the arguments
abbrev pub is_among : ℕ → List Occurrence → Bool
is_among a [] = false
is_among a (o ∷ os) = o.attribute == a || is_among a os

abbrev pub lesser : ℕ → Option ℕ → Option ℕ
lesser n None = Some n
lesser n (Some p) = Some (min n p)

-- the least number of an attribute that is set by one of the rules that take attribute a, if there is one
abbrev pub least_taking : (ℕ → ℕ) → ℕ → List Rule → Option ℕ
least_taking number a [] = None
least_taking number a (r ∷ rs) =
    cond (is_among a r.arguments) (lesser (number r.target.attribute) (least_taking number a rs)) (least_taking number a rs)

-- the first pass with a rule that takes attribute a, if there is one
abbrev pub first_taking : Grammar → (ℕ → ℕ) → ℕ → Option ℕ
first_taking g number a = least_taking number a (flat_map (λ p. p.rules) g.productions)

-- of the finished passes, those before a pass
abbrev pub before_pass : Option ℕ → ℕ → ℕ
before_pass None finished = finished
before_pass (Some p) finished = min finished (p - 1)

-- the number is that of an attribute with a rule that takes a, and no such attribute has a smaller one
pub record LeastOfTheTakers (g : Grammar) (number : ℕ → ℕ) (a p : ℕ) : Type 0 where
  pub attained : (b : ℕ) × Takes g a b × (number b ≡ p)
  pub least : (b : ℕ) → Takes g a b → p ≤ number b

-- The definition gives the least number of the attributes with a rule that takes a, and none exactly where no rule takes a.
abbrev pub FirstTakingIsLeast : Type 0
FirstTakingIsLeast = (g : Grammar) (number : ℕ → ℕ) (a : ℕ)
    → ((p : ℕ) → first_taking g number a ≡ Some p → LeastOfTheTakers g number a p)
    × (first_taking g number a ≡ None → (b : ℕ) → Takes g a b → ⊥)

-- Rewriting a given value leaves everything evaluated up to the pass before the first that takes it.
abbrev pub RewritingKeepsTheEarlier : Type 0 → Type 0
RewritingKeepsTheEarlier V = (m : Meaning V) (task : Task) (finished : ℕ) → finished ≤ length task.directions
    → (i : Site) → OfTask task i → given (kind_of task.grammar task.nodes i) ≡ true
    → (s t : Store V) → ((j : Site) → OfTask task j → j ≢ i → holds task s j ≡ holds task t j)
    → Evaluated m task finished s
    → Evaluated m task (before_pass (first_taking task.grammar task.number i.attribute) finished) t
