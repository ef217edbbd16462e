-- An attribute grammar: a vocabulary, and productions with their rules.
use Rattle.std.specs.Prelude.{ℕ, zero, suc, ◌-◌, Bool, true, false, not, ◌&&◌, ◌||◌, List, ◌∷◌, map, length, vec_items, ◌==◌, nat_le, nat_lt, slice_index, slice_index_or}
use Rattle.grammar.specs.declared.vocabulary.SymbolKind.{SymbolKind}
use Rattle.grammar.specs.declared.vocabulary.SymbolKind.TheVariants.{Inner, Terminal}
use Rattle.grammar.specs.declared.vocabulary.AttributeKind.{AttributeKind}
use Rattle.grammar.specs.declared.vocabulary.AttributeKind.TheVariants.{Inherited, Synthesized, Given}
use Rattle.grammar.specs.declared.vocabulary.Symbol.{Symbol}
use Rattle.grammar.specs.declared.vocabulary.Attribute.{Attribute}
use Rattle.grammar.specs.declared.vocabulary.Vocabulary.{Vocabulary as VocabularyCode}
use Rattle.grammar.specs.declared.production.Occurrence.{Occurrence}
use Rattle.grammar.specs.declared.production.Rule.{Rule as RuleCode}
use Rattle.grammar.specs.declared.production.Production.{Production as ProductionCode}
use Rattle.grammar.specs.Rules.{has_rule}

-- symbols and attributes count from 1, in the order of the lists
pub record Vocabulary : Type 0 where
  pub start : ℕ
  pub symbols : List Symbol
  pub attributes : List Attribute

-- a rule sets its target: the operation starts from the constant and takes in each argument
pub record Rule : Type 0 where
  pub target : Occurrence
  pub operation : ℕ
  pub constant : ℕ
  pub arguments : List Occurrence

pub record Production : Type 0 where
  pub left : ℕ
  pub right : List ℕ
  pub rules : List Rule

pub record Grammar : Type 0 where
  pub vocabulary : Vocabulary
  pub productions : List Production

-- what the code's structs hold
abbrev pub vocabulary_view : VocabularyCode → Vocabulary
vocabulary_view v = record { start = v.start; symbols = vec_items v.symbols; attributes = vec_items v.attributes }

abbrev pub rule_view : RuleCode → Rule
rule_view r = record { target = r.target; operation = r.operation; constant = r.constant; arguments = vec_items r.arguments }

abbrev pub production_view : ProductionCode → Production
production_view p = record { left = p.left; right = vec_items p.right; rules = map rule_view (vec_items p.rules) }

-- a number counts one of so many things
abbrev pub names : ℕ → ℕ → Bool
names count n = nat_lt 0 n && nat_le n count

abbrev pub no_symbol : Symbol
no_symbol = record { kind = Terminal; first = 0; count = 0 }

abbrev pub no_attribute : Attribute
no_attribute = record { symbol = 0; kind = Given }

abbrev pub symbol : Vocabulary → ℕ → Symbol
symbol v s = slice_index_or v.symbols (s - 1) no_symbol

abbrev pub attribute : Vocabulary → ℕ → Attribute
attribute v a = slice_index_or v.attributes (a - 1) no_attribute

abbrev pub inner : SymbolKind → Bool
inner Inner = true
inner Terminal = false

abbrev pub given : AttributeKind → Bool
given Inherited = false
given Synthesized = false
given Given = true

abbrev pub is_symbol : Vocabulary → ℕ → Bool
is_symbol v s = names (length v.symbols) s

abbrev pub is_inner : Vocabulary → ℕ → Bool
is_inner v s = is_symbol v s && inner (symbol v s).kind

abbrev pub is_attribute : Vocabulary → ℕ → Bool
is_attribute v a = names (length v.attributes) a

-- the symbol at a position: the left side at 0, the right side from 1
abbrev pub symbol_at : ℕ → List ℕ → ℕ → ℕ
symbol_at left right position = slice_index (left ∷ right) position

-- an attribute at a position whose symbol has it
abbrev pub occurs : Vocabulary → ℕ → List ℕ → Occurrence → Bool
occurs v left right o = nat_le o.position (length right) && (is_attribute v o.attribute && (attribute v o.attribute).symbol == symbol_at left right o.position)

-- synthesized at the left side and inherited at the right side are defined; the rest are used
abbrev pub defined_at : AttributeKind → ℕ → Bool
defined_at Inherited position = nat_lt 0 position
defined_at Synthesized position = position == 0
defined_at Given position = false

abbrev pub defined : Vocabulary → Occurrence → Bool
defined v o = defined_at (attribute v o.attribute).kind o.position

-- a test holds of every number below n
abbrev pub every_below : ℕ → (ℕ → Bool) → Bool
every_below zero test = true
every_below (suc n) test = test n && every_below n test

abbrev pub settled : Vocabulary → ℕ → List ℕ → List Occurrence → ℕ → ℕ → Bool
settled v left right targets position k =
    let o : Occurrence = record { position = position; attribute = suc k } in
    not (occurs v left right o && defined v o) || has_rule targets o

-- every defined occurrence of the production is the target of a rule
abbrev pub complete : Vocabulary → ℕ → List ℕ → List Occurrence → Bool
complete v left right targets = every_below (suc (length right)) (λ position. every_below (length v.attributes) (settled v left right targets position))
