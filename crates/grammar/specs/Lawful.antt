-- Which grammars are lawful.
use Rattle.std.specs.Prelude.{◌≡◌, ℕ, suc, ◌+◌, ◌<◌, ◌≤◌, Bool, true, false, not, List, [], ◌∷◌, map, length, get_or, ◌==◌, slice_index_or}
use Rattle.std.specs.List.{AllByRecursion}
use Rattle.grammar.specs.declared.vocabulary.SymbolKind.{SymbolKind}
use Rattle.grammar.specs.declared.vocabulary.SymbolKind.TheVariants.{Inner, Terminal}
use Rattle.grammar.specs.declared.vocabulary.AttributeKind.{AttributeKind}
use Rattle.grammar.specs.declared.vocabulary.AttributeKind.TheVariants.{Inherited, Synthesized, Given}
use Rattle.grammar.specs.declared.vocabulary.Symbol.{Symbol}
use Rattle.grammar.specs.declared.production.Occurrence.{Occurrence}
use Rattle.grammar.specs.Grammar.{Vocabulary, Rule, Production, Grammar, symbol, attribute, is_symbol, is_inner, is_attribute, occurs, defined}

-- Given attributes stand at terminals, the others at inner symbols, and none is inherited at the start symbol.
abbrev pub may_stand : SymbolKind → Bool → AttributeKind → Bool
may_stand Inner starts Inherited = not starts
may_stand Inner starts Synthesized = true
may_stand Inner starts Given = false
may_stand Terminal starts Inherited = false
may_stand Terminal starts Synthesized = false
may_stand Terminal starts Given = true

-- The attributes of the symbols are numbered in rows that follow each other, from the first number up to the last.
abbrev pub Rows : ℕ → List Symbol → ℕ → Type 0
Rows next [] end = next ≡ end
Rows next (s ∷ ss) end = (s.first ≡ next) × Rows (next + s.count) ss end

pub record LawfulVocabulary (v : Vocabulary) : Type 0 where
  pub few_symbols : length v.symbols ≤ 48
  pub few_attributes : length v.attributes ≤ 64
  pub few_of_one_symbol : (s : ℕ) → is_symbol v s ≡ true → (symbol v s).count ≤ 16
  pub rows : Rows 1 v.symbols (suc (length v.attributes))
  -- a symbol owns the attributes of its row, and no others
  pub owned : (s a : ℕ) → is_symbol v s ≡ true → (symbol v s).first ≤ a → a < (symbol v s).first + (symbol v s).count → (attribute v a).symbol ≡ s
  pub owner : (a : ℕ) → is_attribute v a ≡ true → is_symbol v (attribute v a).symbol ≡ true
  pub kinds : (a : ℕ) → is_attribute v a ≡ true → may_stand (symbol v (attribute v a).symbol).kind (v.start == (attribute v a).symbol) (attribute v a).kind ≡ true
  pub start : is_inner v v.start ≡ true

-- the occurrences of a production, and which of them are defined or used
abbrev pub Defined : Vocabulary → Production → Occurrence → Type 0
Defined v p o = (occurs v p.left p.right o ≡ true) × (defined v o ≡ true)

abbrev pub Used : Vocabulary → Production → Occurrence → Type 0
Used v p o = (occurs v p.left p.right o ≡ true) × (defined v o ≡ false)

abbrev pub target : Rule → Occurrence
target r = r.target

-- exactly one of the rules is for the occurrence
pub record OneRule (rules : List Rule) (o : Occurrence) : Type 0 where
  pub place : ℕ
  pub within : place < length rules
  pub sets : get_or (map target rules) place o ≡ o
  pub only : (j : ℕ) → j < length rules → slice_index_or (map target rules) j o ≡ o → j ≡ place

pub record LawfulRule (v : Vocabulary) (p : Production) (r : Rule) : Type 0 where
  pub defines : Defined v p r.target
  pub few_arguments : length r.arguments ≤ 8
  pub uses : AllByRecursion (Used v p) r.arguments

-- a symbol that may stand on a right side
abbrev pub Inside : Vocabulary → ℕ → Type 0
Inside v s = (is_symbol v s ≡ true) × ((s == v.start) ≡ false)

pub record LawfulProduction (v : Vocabulary) (p : Production) : Type 0 where
  pub left : is_inner v p.left ≡ true
  pub few_positions : length p.right ≤ 8
  pub right : AllByRecursion (Inside v) p.right
  pub rules : AllByRecursion (LawfulRule v p) p.rules
  pub one_rule : (o : Occurrence) → Defined v p o → OneRule p.rules o

pub record Lawful (g : Grammar) : Type 0 where
  pub vocabulary : LawfulVocabulary g.vocabulary
  pub few_productions : length g.productions ≤ 128
  pub productions : AllByRecursion (LawfulProduction g.vocabulary) g.productions
