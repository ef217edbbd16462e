-- The assignments of a pass: what its steps set, and in which order.
use Rattle.std.specs.Prelude.{◌≡◌, ℕ, ◌<◌, ◌≤◌, Bool, true, false, ◌&&◌, List, [], ◌∷◌, ◌++◌, map, length, Some, None, filter, Option, ◌==◌}
use Rattle.std.specs.List.{range_with_len, flat_map}
use Rattle.refusal.specs.declared.Site.{Site}
use Rattle.plans.specs.declared.Direction.{Direction}
use Rattle.grammar.specs.declared.vocabulary.AttributeKind.{AttributeKind}
use Rattle.grammar.specs.declared.vocabulary.AttributeKind.TheVariants.{Inherited, Synthesized, Given}
use Rattle.grammar.specs.declared.production.Occurrence.{Occurrence}
use Rattle.grammar.specs.Members.{◌∈◌}
use Rattle.grammar.specs.Grammar.{Vocabulary, Grammar, Rule, symbol, attribute}
use Rattle.grammar.specs.Lawful.{Lawful}
use Rattle.grammar.specs.Lookup.{rule_of}
use Rattle.grammar.specs.Numberings.{direction, Valid}
use Rattle.trees.specs.declared.node.Node.{Node}
use Rattle.trees.specs.Checking.{node}
use Rattle.trees.specs.Trees.{Tree, Stands}
use Rattle.walk.specs.Values.{Meaning, rule_value}
use Rattle.walk.specs.Programs.{Assignment, Ordered, Untouched}
use Rattle.walk.specs.Walks.{Step, enter, leave, walk}
use Rattle.walk.specs.Instances.{rules_at, instance_at, arguments_at, Sets, cell_of}

-- the attributes of a symbol, in number order
abbrev pub attributes_of : Vocabulary → ℕ → List ℕ
attributes_of v s = range_with_len (symbol v s).first (symbol v s).count

abbrev pub inherited : AttributeKind → Bool
inherited Inherited = true
inherited Synthesized = false
inherited Given = false

abbrev pub synthesized : AttributeKind → Bool
synthesized Inherited = false
synthesized Synthesized = true
synthesized Given = false

-- the attributes of a node, of a kind and with the number of the pass
abbrev pub due : Grammar → List Node → (ℕ → ℕ) → ℕ → (AttributeKind → Bool) → ℕ → List ℕ
due g nodes number pass kind n =
    filter (λ a. (number a == pass) && kind (attribute g.vocabulary a).kind) (attributes_of g.vocabulary (node nodes n).symbol)

module _ {V : Type 0} (m : Meaning V) (g : Grammar) (nodes : List Node) where
  -- an occurrence in a node's production is set there by a rule
  abbrev pub applied : ℕ → Occurrence → Rule → Assignment V
  applied x o r = record {
    sets = instance_at nodes x o;
    target = cell_of g nodes (instance_at nodes x o);
    arguments = map (cell_of g nodes) (arguments_at nodes x r);
    value = rule_value m r;
  }

  -- it is set by its rule; without one the instance has no value
  abbrev pub set_by : ℕ → Occurrence → Option Rule → Assignment V
  set_by x o None = record { sets = instance_at nodes x o; target = cell_of g nodes (instance_at nodes x o); arguments = []; value = λ _. None }
  set_by x o (Some r) = applied x o r

  -- at node x, what sets attribute a at a position of the node's production
  abbrev pub set_at : ℕ → ℕ → ℕ → Assignment V
  set_at x position a =
      let o : Occurrence = record { position = position; attribute = a } in
      set_by x o (rule_of (rules_at g nodes x) o)

  module _ (number : ℕ → ℕ) (pass : ℕ) where
    -- entering a node sets its inherited attributes of the pass, leaving it its synthesized ones, both in number order
    abbrev pub settings : Step → List (Assignment V)
    settings (enter parent position child) = map (set_at parent position) (due g nodes number pass inherited child)
    settings (leave n) = map (set_at n 0) (due g nodes number pass synthesized n)

    -- what some steps set, one after the other
    abbrev pub program : List Step → List (Assignment V)
    program steps = flat_map settings steps

-- A lawful grammar with a valid numbering for the directions of a plan, and a row of nodes that holds one of its derivation trees.
pub record Task : Type 0 where
  pub grammar : Grammar
  pub lawful : Lawful grammar
  pub directions : List Direction
  pub number : ℕ → ℕ
  pub valid : Valid grammar directions number
  pub nodes : List Node
  pub tree : Tree
  pub stands : Stands grammar nodes tree

module _ {V : Type 0} (m : Meaning V) (task : Task) where
  -- what a rule says at a node of the task's tree
  abbrev pub rule_at : ℕ → Rule → Assignment V
  rule_at x r = applied m task.grammar task.nodes x r.target r

  -- the assignments of a whole pass
  abbrev pub pass_program : ℕ → List (Assignment V)
  pass_program pass =
      program m task.grammar task.nodes task.number pass (walk (direction task.directions pass) task.tree)

-- at node x of the task's tree, rule r sets the instance i
abbrev pub RuleSets : Task → ℕ → Rule → Site → Type 0
RuleSets task x r i = Sets task.grammar task.nodes x r i

-- the number of the instance's attribute
abbrev pub number_at : Task → Site → ℕ
number_at task i = task.number i.attribute

-- A pass carries out the rules of the instances with its number, and no others.
pub record CarriesOutItsRules {V : Type 0} (m : Meaning V) (task : Task) (pass : ℕ) : Type 0 where
  pub all : (x : ℕ) (r : Rule) (i : Site) → RuleSets task x r i → number_at task i ≡ pass → rule_at m task x r ∈ pass_program m task pass
  pub only : (a : Assignment V) → a ∈ pass_program m task pass
      → (x : ℕ) × (r : Rule) × RuleSets task x r a.sets × (number_at task a.sets ≡ pass) × (a ≡ rule_at m task x r)

abbrev pub PassCarriesOutItsRules : Type 0 → Type 0
PassCarriesOutItsRules V = (m : Meaning V) (task : Task) (pass : ℕ) → CarriesOutItsRules m task pass

-- The assignments of a pass are a straight-line program in which nothing is read before it is set.
abbrev pub PassIsOrdered : Type 0 → Type 0
PassIsOrdered V = (m : Meaning V) (task : Task) (pass : ℕ) → pass ≤ length task.directions → Ordered (pass_program m task pass)

-- An argument of a rule that is carried out in a pass: its number is that of the pass, and it was set strictly before, or smaller, and the pass does not set it.
pub record Ready {V : Type 0} (m : Meaning V) (task : Task) (pass : ℕ) (before : List (Assignment V)) (j : Site) : Type 0 where
  pub none_greater : number_at task j ≤ pass
  pub set_before : number_at task j ≡ pass → (b : Assignment V) × (b ∈ before) × (b.sets ≡ j)
  pub smaller_stay : number_at task j < pass → Untouched (pass_program m task pass) (cell_of task.grammar task.nodes j)

abbrev pub ArgumentsAreReady : Type 0 → Type 0
ArgumentsAreReady V = (m : Meaning V) (task : Task) (pass : ℕ) → pass ≤ length task.directions
    → (before behind : List (Assignment V)) (x : ℕ) (r : Rule) (i : Site)
    → pass_program m task pass ≡ before ++ rule_at m task x r ∷ behind → RuleSets task x r i
    → (j : Site) → j ∈ arguments_at task.nodes x r → Ready m task pass before j
