-- Instances of attributes at the nodes of a tree, the rules that set them, and the instances that these take.
use Rattle.std.specs.Prelude.{◌≡◌, ℕ, ◌<◌, false, cond, List, [], map, length, ◌==◌}
use Rattle.refusal.specs.declared.Site.{Site}
use Rattle.grammar.specs.declared.vocabulary.AttributeKind.{AttributeKind}
use Rattle.grammar.specs.declared.vocabulary.AttributeKind.TheVariants.{Inherited, Synthesized}
use Rattle.grammar.specs.declared.production.Occurrence.{Occurrence}
use Rattle.grammar.specs.Members.{◌∈◌}
use Rattle.grammar.specs.Grammar.{Grammar, Rule, attribute, given}
use Rattle.grammar.specs.Lawful.{Lawful}
use Rattle.trees.specs.declared.node.Node.{Node}
use Rattle.trees.specs.Checking.{node, production}
use Rattle.trees.specs.Trees.{Tree, Stands}
use Rattle.trees.specs.Laws.{Child, Instance, cell}
use Rattle.walk.specs.Positions.{at_position}

-- the rules of a node's production; a terminal has none
abbrev pub rules_at : Grammar → List Node → ℕ → List Rule
rules_at g nodes x = cond ((node nodes x).production == 0) [] (production g (node nodes x).production).rules

-- what an occurrence in a node's production stands for at that node
abbrev pub instance_at : List Node → ℕ → Occurrence → Site
instance_at nodes x o = record { node = at_position nodes x o.position; attribute = o.attribute }

-- the argument instances of a rule at a node
abbrev pub arguments_at : List Node → ℕ → Rule → List Site
arguments_at nodes x r = map (instance_at nodes x) r.arguments

-- At node x, rule r of its production sets the instance i.
pub record Sets (g : Grammar) (nodes : List Node) (x : ℕ) (r : Rule) (i : Site) : Type 0 where
  pub in_row : x < length nodes
  pub in_production : r ∈ rules_at g nodes x
  pub target : instance_at nodes x r.target ≡ i

module _ (g : Grammar) (nodes : List Node) where
  abbrev pub IsInstance : Site → Type 0
  IsInstance i = Instance g nodes i.node i.attribute

  abbrev pub kind_of : Site → AttributeKind
  kind_of i = (attribute g.vocabulary i.attribute).kind

  abbrev pub cell_of : Site → ℕ
  cell_of i = cell g nodes i.node i.attribute

-- one rule, at one node, sets the instance
pub record HasOneRule (g : Grammar) (nodes : List Node) (i : Site) : Type 0 where
  pub node : ℕ
  pub rule : Rule
  pub sets : Sets g nodes node rule i
  pub only : (x : ℕ) (r : Rule) → Sets g nodes x r i → (x ≡ node) × (r ≡ rule)

-- Each instance that is not given has exactly one rule.
abbrev pub EachInstanceHasOneRule : Type 0
EachInstanceHasOneRule = (g : Grammar) (nodes : List Node) (t : Tree) → Lawful g → Stands g nodes t
    → (i : Site) → IsInstance g nodes i → given (kind_of g nodes i) ≡ false → HasOneRule g nodes i

-- What a rule sets is an instance that is not given.
abbrev pub RulesSetInstances : Type 0
RulesSetInstances = (g : Grammar) (nodes : List Node) (t : Tree) → Lawful g → Stands g nodes t
    → (x : ℕ) (r : Rule) (i : Site) → Sets g nodes x r i → IsInstance g nodes i × (given (kind_of g nodes i) ≡ false)

-- A synthesized instance is set at its own node.
abbrev pub SynthesizedAreSetAtTheNode : Type 0
SynthesizedAreSetAtTheNode = (g : Grammar) (nodes : List Node) (t : Tree) → Lawful g → Stands g nodes t
    → (x : ℕ) (r : Rule) (i : Site) → Sets g nodes x r i → kind_of g nodes i ≡ Synthesized → (x ≡ i.node) × (r.target.position ≡ 0)

-- An inherited instance is set at the parent of its node.
abbrev pub InheritedAreSetAtTheParent : Type 0
InheritedAreSetAtTheParent = (g : Grammar) (nodes : List Node) (t : Tree) → Lawful g → Stands g nodes t
    → (x : ℕ) (r : Rule) (i : Site) → Sets g nodes x r i → kind_of g nodes i ≡ Inherited → Child t x r.target.position i.node

-- The argument instances of a rule at a node are instances.
abbrev pub ArgumentsAreInstances : Type 0
ArgumentsAreInstances = (g : Grammar) (nodes : List Node) (t : Tree) → Lawful g → Stands g nodes t
    → (x : ℕ) (r : Rule) (i j : Site) → Sets g nodes x r i → j ∈ arguments_at nodes x r → IsInstance g nodes j
