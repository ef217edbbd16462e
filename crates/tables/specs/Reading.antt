-- Reading a table in order: the grammar that it holds, or the first fault that is met.
use Rattle.std.specs.Prelude.{◌≡◌, ℕ, suc, ◌-◌, Bool, false, cond, not, ◌&&◌, ◌⊎◌, List, [], ◌∷◌, ◌++◌, map, length, replicate, Some, None, Ok, Err, Option, Result, ◌==◌, nat_le}
use Rattle.refusal.specs.declared.Refusal.{Refusal}
use Rattle.refusal.specs.declared.Refusal.TheVariants.{TableSize, CountPassed, BadKind, NoSuch, BadRule, DefinedArgument, NotAdmitted, OutOfMemory}
use Rattle.grammar.specs.declared.vocabulary.SymbolKind.{SymbolKind}
use Rattle.grammar.specs.declared.vocabulary.AttributeKind.{AttributeKind}
use Rattle.grammar.specs.declared.vocabulary.Symbol.{Symbol}
use Rattle.grammar.specs.declared.vocabulary.Attribute.{Attribute}
use Rattle.grammar.specs.declared.production.Occurrence.{Occurrence}
use Rattle.grammar.specs.Kinds.{symbol_kind, attribute_kind}
use Rattle.grammar.specs.Rules.{has_rule}
use Rattle.grammar.specs.Grammar.{Vocabulary, Rule, Production, Grammar, is_symbol, is_inner, occurs, defined, complete}
use Rattle.grammar.specs.Lawful.{may_stand, target}
use Rattle.tables.specs.declared.record.Record.{Record}
use Rattle.tables.specs.Chains.{Reading, and_then, along, record_at, sized}

-- a value that has to be there
abbrev pub require : {A : Type 0} → Option A → Refusal → Reading A
require None e reached = Err e
require (Some a) e reached = Ok (a, reached)

-- a kind of attribute where it may stand
abbrev pub standing : SymbolKind → Bool → Option AttributeKind → Option AttributeKind
standing symbol starts None = None
standing symbol starts (Some kind) = cond (may_stand symbol starts kind) (Some kind) None

-- the occurrence that a rule or an argument names
abbrev pub occurrence : Record → Occurrence
occurrence r = record { position = r.w1; attribute = r.w2 }

-- What the reading of symbols has gathered.
pub record Gathered : Type 0 where
  pub symbols : List Symbol
  pub attributes : List Attribute

module _ (bytes : List ℕ) where
  -- one attribute more, of the symbol with the number; a table has at most 64
  abbrev pub attribute : ℕ → SymbolKind → Bool → List Attribute → Record → Reading (List Attribute)
  attribute number symbol starts before r reached =
      cond (nat_le 64 (length before)) (Err (CountPassed r.place))
      (and_then (require (standing symbol starts (attribute_kind r.w1)) (BadKind r.place) reached) (λ kind reached'.
      Ok (before ++ record { symbol = number; kind = kind } ∷ [], reached')))

  -- a symbol has at most 16
  abbrev pub attributes : ℕ → SymbolKind → Bool → List Attribute → Record → Reading (List Attribute)
  attributes number symbol starts before r = along bytes (attribute number symbol starts) 16 before r.place r.w2

  abbrev pub symbol : ℕ → Gathered → Record → Reading Gathered
  symbol start before r reached =
      and_then (require (symbol_kind r.w1) (BadKind r.place) reached) (λ kind reached'.
      and_then (attributes (suc (length before.symbols)) kind (start == suc (length before.symbols)) before.attributes r reached') (λ after reached''.
      Ok (
        record {
          symbols = before.symbols ++ record { kind = kind; first = suc (length before.attributes); count = length after - length before.attributes } ∷ [];
          attributes = after;
        },
        reached'',
      )))

  abbrev pub symbols : ℕ → ℕ → Reading Gathered
  symbols start first = along bytes (symbol start) 48 (record { symbols = []; attributes = [] }) 0 first

  -- The rest is read over a vocabulary, and with the operations that the value kind admits.
  module _ (v : Vocabulary) (admitted : ℕ → ℕ → ℕ → Bool) where
    abbrev pub position : List ℕ → Record → Reading (List ℕ)
    position right r reached =
        cond (is_symbol v r.w1 && not (r.w1 == v.start)) (Ok (right ++ r.w1 ∷ [], reached)) (Err (NoSuch r.place))

    abbrev pub argument : ℕ → List ℕ → List Occurrence → Record → Reading (List Occurrence)
    argument left right before r reached =
        cond (occurs v left right (occurrence r))
        (cond (defined v (occurrence r)) (Err (DefinedArgument r.place)) (Ok (before ++ occurrence r ∷ [], reached)))
        (Err (NoSuch r.place))

    -- where a rule for an occurrence may stand, after other rules
    abbrev pub wants_rule : List Rule → Occurrence → Bool
    wants_rule before o = defined v o && not (has_rule (map target before) o)

    abbrev pub finished_rule : List Rule → Record → List Occurrence → Reading (List Rule)
    finished_rule before r arguments reached =
        cond (admitted r.w4 r.w5 (length arguments))
        (Ok (before ++ record { target = occurrence r; operation = r.w4; constant = r.w5; arguments = arguments } ∷ [], reached))
        (Err (NotAdmitted r.place))

    abbrev pub rule : ℕ → List ℕ → List Rule → Record → Reading (List Rule)
    rule left right before r reached =
        cond (occurs v left right (occurrence r))
        (cond (wants_rule before (occurrence r))
        (and_then (along bytes (argument left right) 8 [] r.place r.w3 reached) (finished_rule before r))
        (Err (BadRule r.place)))
        (Err (NoSuch r.place))

    abbrev pub finished_production : List Production → Record → List ℕ → List Rule → Reading (List Production)
    finished_production before r right rules reached =
        cond (complete v r.w1 right (map target rules))
        (Ok (before ++ record { left = r.w1; right = right; rules = rules } ∷ [], reached))
        (Err (BadRule r.place))

    -- a table has fewer than 4096 records besides the head, so there is room for every chain of rules
    abbrev pub production : List Production → Record → Reading (List Production)
    production before r reached =
        cond (is_inner v r.w1)
        (and_then (along bytes position 8 [] r.place r.w2 reached) (λ right reached'.
        and_then (along bytes (rule r.w1 right) 4096 [] r.place r.w3 reached') (finished_production before r right)))
        (Err (NoSuch r.place))

    abbrev pub productions : ℕ → Reading (List Production)
    productions first = along bytes production 128 [] 0 first

module _ (bytes : List ℕ) (admitted : ℕ → ℕ → ℕ → Bool) where
  abbrev pub over : Gathered → Vocabulary
  over found = record { start = (record_at bytes 0).w2; symbols = found.symbols; attributes = found.attributes }

  -- the start is checked after the symbols, and then the productions are read
  abbrev pub after_symbols : Gathered → Reading Grammar
  after_symbols found reached =
      cond (is_inner (over found) (record_at bytes 0).w2)
      (and_then (productions bytes (over found) admitted (record_at bytes 0).w1 reached) (λ ps reached'.
      Ok (record { vocabulary = over found; productions = ps }, reached')))
      (Err (NoSuch 0))

  -- the head names the first symbol, the first production and the start symbol
  abbrev pub whole : Reading Grammar
  whole reached = and_then (symbols bytes (record_at bytes 0).w2 (record_at bytes 0).next reached) after_symbols

abbrev pub value : {A : Type 0} → Result (A × List Bool) Refusal → Result A Refusal
value (Ok p) = Ok p.0
value (Err e) = Err e

-- what loading a table comes to, for the operations that a value kind admits
abbrev pub reading : List ℕ → (ℕ → ℕ → ℕ → Bool) → Result Grammar Refusal
reading bytes admitted = cond (sized bytes) (value (whole bytes admitted (replicate 4096 false))) (Err TableSize)

-- What code returned and left is what a reading gives, unless memory failed.
abbrev pub Gives : {A B : Type 0} → (A → B) → Result A Refusal → List Bool → Result (B × List Bool) Refusal → Type 0
Gives view (Ok a) reached given = given ≡ Ok (view a, reached)
Gives view (Err e) reached given = (e ≡ OutOfMemory) ⊎ (given ≡ Err e)
