-- What a table stands for: records in chains, and the grammar that their words write.
use Rattle.std.specs.Prelude.{◌≡◌, ℕ, ◌+◌, ◌*◌, ◌≤◌, Bool, true, List, [], ◌∷◌, ◌++◌, map, length}
use Rattle.std.specs.List.{AllByRecursion}
use Rattle.grammar.specs.declared.vocabulary.SymbolKind.{SymbolKind}
use Rattle.grammar.specs.declared.vocabulary.SymbolKind.TheVariants.{Inner, Terminal}
use Rattle.grammar.specs.declared.vocabulary.AttributeKind.{AttributeKind}
use Rattle.grammar.specs.declared.vocabulary.AttributeKind.TheVariants.{Inherited, Synthesized, Given}
use Rattle.grammar.specs.declared.production.Occurrence.{Occurrence}
use Rattle.grammar.specs.Members.{Apart}
use Rattle.grammar.specs.Grammar.{Rule, Production, Grammar}
use Rattle.tables.specs.Chains.{word}

-- the chain that begins at an index runs through these records, in order
abbrev pub Chain : List ℕ → ℕ → List ℕ → Type 0
Chain bytes index [] = index ≡ 0
Chain bytes index (p ∷ ps) = (index ≡ p) × (1 ≤ p) × (12 * p + 12 ≤ length bytes) × Chain bytes (word bytes p 0) ps

-- Which records hold what: a symbol with its attributes, a rule with its arguments, a production with its positions and rules.
pub record SymbolPlaces : Type 0 where
  pub place : ℕ
  pub attributes : List ℕ

pub record RulePlaces : Type 0 where
  pub place : ℕ
  pub arguments : List ℕ

pub record ProductionPlaces : Type 0 where
  pub place : ℕ
  pub positions : List ℕ
  pub rules : List RulePlaces

pub record Outline : Type 0 where
  pub symbols : List SymbolPlaces
  pub productions : List ProductionPlaces

abbrev pub symbol_place : SymbolPlaces → ℕ
symbol_place s = s.place

abbrev pub rule_place : RulePlaces → ℕ
rule_place r = r.place

abbrev pub production_place : ProductionPlaces → ℕ
production_place p = p.place

-- the head's words 0 and 1 begin the chains of symbols and productions; each record's "first" words begin its own chains
abbrev pub ChainedSymbol : List ℕ → SymbolPlaces → Type 0
ChainedSymbol bytes s = Chain bytes (word bytes s.place 2) s.attributes

abbrev pub ChainedRule : List ℕ → RulePlaces → Type 0
ChainedRule bytes r = Chain bytes (word bytes r.place 3) r.arguments

abbrev pub ChainedProduction : List ℕ → ProductionPlaces → Type 0
ChainedProduction bytes p =
    Chain bytes (word bytes p.place 2) p.positions
    × Chain bytes (word bytes p.place 3) (map rule_place p.rules)
    × AllByRecursion (ChainedRule bytes) p.rules

-- every record of the outline, in reading order
abbrev pub joined : List (List ℕ) → List ℕ
joined [] = []
joined (xs ∷ xss) = xs ++ joined xss

abbrev pub symbol_records : SymbolPlaces → List ℕ
symbol_records s = s.place ∷ s.attributes

abbrev pub rule_records : RulePlaces → List ℕ
rule_records r = r.place ∷ r.arguments

abbrev pub production_records : ProductionPlaces → List ℕ
production_records p = p.place ∷ (p.positions ++ joined (map rule_records p.rules))

abbrev pub all_records : Outline → List ℕ
all_records o = joined (map symbol_records o.symbols) ++ joined (map production_records o.productions)

-- the words for kinds
abbrev pub symbol_word : SymbolKind → ℕ
symbol_word Inner = 1
symbol_word Terminal = 2

abbrev pub attribute_word : AttributeKind → ℕ
attribute_word Inherited = 1
attribute_word Synthesized = 2
attribute_word Given = 3

abbrev pub symbol_attributes : SymbolPlaces → List ℕ
symbol_attributes s = s.attributes

abbrev pub occurrence_at : List ℕ → ℕ → Occurrence
occurrence_at bytes p = record { position = word bytes p 1; attribute = word bytes p 2 }

-- the rule and the production that records write
abbrev pub rule_at : List ℕ → RulePlaces → Rule
rule_at bytes r = record {
  target = occurrence_at bytes r.place;
  operation = word bytes r.place 4;
  constant = word bytes r.place 5;
  arguments = map (occurrence_at bytes) r.arguments;
}

abbrev pub production_at : List ℕ → ProductionPlaces → Production
production_at bytes p = record {
  left = word bytes p.place 1;
  right = map (λ q. word bytes q 1) p.positions;
  rules = map (rule_at bytes) p.rules;
}

-- The table stands for the grammar, by the records of the outline.
pub record Stands (bytes : List ℕ) (o : Outline) (g : Grammar) : Type 0 where
  pub symbol_chain : Chain bytes (word bytes 0 0) (map symbol_place o.symbols)
  pub attribute_chains : AllByRecursion (ChainedSymbol bytes) o.symbols
  pub production_chain : Chain bytes (word bytes 0 1) (map production_place o.productions)
  pub production_chains : AllByRecursion (ChainedProduction bytes) o.productions
  pub apart : Apart (all_records o)
  pub start : g.vocabulary.start ≡ word bytes 0 2
  pub symbol_kinds : map (λ s. symbol_word s.kind) g.vocabulary.symbols ≡ map (λ s. word bytes s.place 1) o.symbols
  pub counts : map (λ s. s.count) g.vocabulary.symbols ≡ map (λ s. length s.attributes) o.symbols
  pub attribute_kinds : map (λ a. attribute_word a.kind) g.vocabulary.attributes ≡ map (λ p. word bytes p 1) (joined (map symbol_attributes o.symbols))
  pub productions : g.productions ≡ map (production_at bytes) o.productions

-- the value kind admits every rule's operation
abbrev pub AdmittedRule : (ℕ → ℕ → ℕ → Bool) → Rule → Type 0
AdmittedRule admitted r = admitted r.operation r.constant (length r.arguments) ≡ true

abbrev pub AdmittedProduction : (ℕ → ℕ → ℕ → Bool) → Production → Type 0
AdmittedProduction admitted p = AllByRecursion (AdmittedRule admitted) p.rules

abbrev pub Admitted : (ℕ → ℕ → ℕ → Bool) → Grammar → Type 0
Admitted admitted g = AllByRecursion (AdmittedProduction admitted) g.productions
