-- What is wrong with a table that is refused, and that every refusal names such a fault.
use Rattle.std.specs.Prelude.{◌≡◌, ℕ, suc, ◌+◌, ◌*◌, ◌<◌, ◌≤◌, Bool, true, false, ◌⊎◌, List, [], ◌∷◌, ◌++◌, map, length, replicate, Some, None, Err, ◌==◌}
use Rattle.std.specs.List.{AllByRecursion}
use Rattle.refusal.specs.declared.Refusal.{Refusal}
use Rattle.refusal.specs.declared.Refusal.TheVariants.{TableSize, BadIndex, CountPassed, BadKind, NoSuch, BadRule, DefinedArgument, NotAdmitted, BadPlan, Unnumbered, NodeCount, BadLink, BadNode, TooDeep, NotOpened, TooFewCells, PassOpen, ForeignSlip, AllFinished, WalkEnded, NoInstance, NotFinished, Undefined, ListingTooLong, OutOfMemory}
use Rattle.grammar.specs.declared.vocabulary.SymbolKind.{SymbolKind}
use Rattle.grammar.specs.declared.vocabulary.Symbol.{Symbol}
use Rattle.grammar.specs.declared.vocabulary.Attribute.{Attribute}
use Rattle.grammar.specs.declared.production.Occurrence.{Occurrence}
use Rattle.grammar.specs.Members.{◌∈◌}
use Rattle.grammar.specs.Grammar.{Vocabulary, is_symbol, is_inner, occurs, defined}
use Rattle.tables.specs.Chains.{word, Sized}
use Rattle.grammar.specs.Kinds.{symbol_kind, attribute_kind}
use Rattle.tables.specs.Reading.{reading, standing}
use Rattle.tables.specs.Tables.{Chain, SymbolPlaces, symbol_place, symbol_attributes, ChainedSymbol, joined, symbol_word, attribute_word, occurrence_at}

-- the index names a record of the table; 0 ends a chain
abbrev pub Names : List ℕ → ℕ → Type 0
Names bytes i = (1 ≤ i) × (12 * i + 12 ≤ length bytes)

-- from one index the chain runs through these records, in order, to another index
abbrev pub Onward : List ℕ → ℕ → List ℕ → ℕ → Type 0
Onward bytes index [] next = index ≡ next
Onward bytes index (p ∷ ps) next = (index ≡ p) × Names bytes p × Onward bytes (word bytes p 0) ps next

-- the last of these records, or the owner of their chain where there is none
abbrev pub last : ℕ → List ℕ → ℕ
last owner [] = owner
last owner (p ∷ ps) = last p ps

-- The index i of the record h leads to the n-th record, from 1, of the chain that begins at word k of its owner.
pub record Link (bytes : List ℕ) (owner k n h i : ℕ) : Type 0 where
  pub before : List ℕ
  pub number : n ≡ suc (length before)
  pub holder : h ≡ last owner before
  pub leads : Onward bytes (word bytes owner k) before i

-- p is the n-th record of that chain
pub record Nth (bytes : List ℕ) (owner k n p : ℕ) : Type 0 where
  pub holder : ℕ
  pub link : Link bytes owner k n holder p
  pub here : Names bytes p

-- p is the n-th symbol of the table
abbrev pub SymbolRecord : List ℕ → ℕ → ℕ → Type 0
SymbolRecord bytes n p = Nth bytes 0 0 n p

-- p is the n-th attribute of the symbol s
abbrev pub AttributeRecord : List ℕ → ℕ → ℕ → ℕ → Type 0
AttributeRecord bytes s n p = Nth bytes s 2 n p

-- p is the n-th production of the table
abbrev pub ProductionRecord : List ℕ → ℕ → ℕ → Type 0
ProductionRecord bytes n p = Nth bytes 0 1 n p

-- p is the n-th position of the right side of the production q
abbrev pub PositionRecord : List ℕ → ℕ → ℕ → ℕ → Type 0
PositionRecord bytes q n p = Nth bytes q 2 n p

-- p is the n-th rule of the production q
abbrev pub RuleRecord : List ℕ → ℕ → ℕ → ℕ → Type 0
RuleRecord bytes q n p = Nth bytes q 3 n p

-- p is the n-th argument of the rule r
abbrev pub ArgumentRecord : List ℕ → ℕ → ℕ → ℕ → Type 0
ArgumentRecord bytes r n p = Nth bytes r 3 n p

-- s is a symbol of the table
abbrev pub SymbolOf : List ℕ → ℕ → Type 0
SymbolOf bytes s = (n : ℕ) × SymbolRecord bytes n s

-- q is a production of the table
abbrev pub ProductionOf : List ℕ → ℕ → Type 0
ProductionOf bytes q = (n : ℕ) × ProductionRecord bytes n q

-- r is a rule of the production q
abbrev pub RuleOf : List ℕ → ℕ → ℕ → Type 0
RuleOf bytes q r = (n : ℕ) × RuleRecord bytes q n r

-- A spot where a record can stand: the n-th symbol, the n-th attribute of the m-th symbol, and so on, counted from 1.
pub data Spot : Type 0 where
  at_symbol : ℕ → Spot
  at_attribute : ℕ → ℕ → Spot
  at_production : ℕ → Spot
  at_position : ℕ → ℕ → Spot
  at_rule : ℕ → ℕ → Spot
  at_argument : ℕ → ℕ → ℕ → Spot

-- the index i of the record h leads to the spot
abbrev pub Leads : List ℕ → Spot → ℕ → ℕ → Type 0
Leads bytes (at_symbol n) h i = Link bytes 0 0 n h i
Leads bytes (at_attribute m n) h i = (s : ℕ) × SymbolRecord bytes m s × Link bytes s 2 n h i
Leads bytes (at_production n) h i = Link bytes 0 1 n h i
Leads bytes (at_position m n) h i = (q : ℕ) × ProductionRecord bytes m q × Link bytes q 2 n h i
Leads bytes (at_rule m n) h i = (q : ℕ) × ProductionRecord bytes m q × Link bytes q 3 n h i
Leads bytes (at_argument l m n) h i = (q : ℕ) × (r : ℕ) × ProductionRecord bytes l q × RuleRecord bytes q m r × Link bytes r 3 n h i

-- the record p stands at the spot
abbrev pub At : List ℕ → Spot → ℕ → Type 0
At bytes spot p = (h : ℕ) × Leads bytes spot h p × Names bytes p

-- The address of a spot: symbols come before productions, positions before rules, and a record before what belongs to it.
abbrev pub address : Spot → List ℕ
address (at_symbol n) = 0 ∷ n ∷ []
address (at_attribute m n) = 0 ∷ m ∷ n ∷ []
address (at_production n) = 1 ∷ n ∷ []
address (at_position m n) = 1 ∷ m ∷ 0 ∷ n ∷ []
address (at_rule m n) = 1 ∷ m ∷ 1 ∷ n ∷ []
address (at_argument l m n) = 1 ∷ l ∷ 1 ∷ m ∷ n ∷ []

-- one address comes before another, as words do in a dictionary
abbrev pub Before : List ℕ → List ℕ → Type 0
Before xs [] = ⊥
Before [] (y ∷ ys) = Unit {0}
Before (x ∷ xs) (y ∷ ys) = (x < y) ⊎ ((x ≡ y) × Before xs ys)

-- The record p stands at a spot that comes before this one in reading order.
pub record Earlier (bytes : List ℕ) (p : ℕ) (spot : Spot) : Type 0 where
  pub other : Spot
  pub stands : At bytes other p
  pub before : Before (address other) (address spot)

-- An index of the record h that leads to a spot names no record, or one that stands at an earlier spot already.
pub record WrongIndex (bytes : List ℕ) (h : ℕ) : Type 0 where
  pub index : ℕ
  pub spot : Spot
  pub leads : Leads bytes spot h index
  pub not_end : 1 ≤ index
  pub fault : (length bytes < 12 * index + 12) ⊎ Earlier bytes index spot

-- p is the n-th attribute of the table, counted through its symbols
pub record AttributeOfAll (bytes : List ℕ) (n p : ℕ) : Type 0 where
  pub before : List SymbolPlaces
  pub chains : AllByRecursion (ChainedSymbol bytes) before
  pub symbol : ℕ
  pub onward : Onward bytes (word bytes 0 0) (map symbol_place before) symbol
  pub here : Names bytes symbol
  pub number : ℕ
  pub attribute : AttributeRecord bytes symbol number p
  pub count : n ≡ length (joined (map symbol_attributes before)) + number

-- The record p is one more than there may be.
pub data OneTooMany (bytes : List ℕ) (p : ℕ) : Type 0 where
  many_symbols : SymbolRecord bytes 49 p → OneTooMany bytes p
  many_of_one_symbol : (s : ℕ) → SymbolOf bytes s → AttributeRecord bytes s 17 p → OneTooMany bytes p
  many_attributes : AttributeOfAll bytes 65 p → OneTooMany bytes p
  many_productions : ProductionRecord bytes 129 p → OneTooMany bytes p
  many_positions : (q : ℕ) → ProductionOf bytes q → PositionRecord bytes q 9 p → OneTooMany bytes p
  many_arguments : (q r : ℕ) → ProductionOf bytes q → RuleOf bytes q r → ArgumentRecord bytes r 9 p → OneTooMany bytes p

-- The symbol p is of no kind, or the attribute p is of no kind that may stand at its symbol.
pub data WrongKind (bytes : List ℕ) (p : ℕ) : Type 0 where
  wrong_symbol : SymbolOf bytes p → symbol_kind (word bytes p 1) ≡ None → WrongKind bytes p
  wrong_attribute : (m s n : ℕ) (kind : SymbolKind) → SymbolRecord bytes m s → symbol_kind (word bytes s 1) ≡ Some kind → AttributeRecord bytes s n p
      → standing kind (word bytes 0 2 == m) (attribute_kind (word bytes p 1)) ≡ None → WrongKind bytes p

-- the first attribute of each symbol, where the next attribute has the number a
abbrev pub firsts : ℕ → List SymbolPlaces → List ℕ
firsts a [] = []
firsts a (s ∷ ss) = a ∷ firsts (a + length s.attributes) ss

-- the symbol of each attribute, where the next symbol has the number n
abbrev pub owners : ℕ → List SymbolPlaces → List ℕ
owners n [] = []
owners n (s ∷ ss) = replicate (length s.attributes) n ++ owners (suc n) ss

-- Records write these symbols and attributes: their kinds, and which attributes are whose.
pub record Written (bytes : List ℕ) (places : List SymbolPlaces) (symbols : List Symbol) (attributes : List Attribute) : Type 0 where
  pub symbol_kinds : map (λ s. symbol_word s.kind) symbols ≡ map (λ s. word bytes s.place 1) places
  pub first_attributes : map (λ s. s.first) symbols ≡ firsts 1 places
  pub counts : map (λ s. s.count) symbols ≡ map (λ s. length s.attributes) places
  pub attribute_kinds : map (λ a. attribute_word a.kind) attributes ≡ map (λ p. word bytes p 1) (joined (map symbol_attributes places))
  pub attribute_symbols : map (λ a. a.symbol) attributes ≡ owners 1 places

-- The symbols of the table, with their attributes, write the vocabulary.
pub record Writes (bytes : List ℕ) (v : Vocabulary) : Type 0 where
  pub places : List SymbolPlaces
  pub symbol_chain : Chain bytes (word bytes 0 0) (map symbol_place places)
  pub attribute_chains : AllByRecursion (ChainedSymbol bytes) places
  pub start : v.start ≡ word bytes 0 2
  pub written : Written bytes places v.symbols v.attributes

-- A production q of the table has this right side.
pub record RightSide (bytes : List ℕ) (q : ℕ) (right : List ℕ) : Type 0 where
  pub production : ProductionOf bytes q
  pub positions : List ℕ
  pub chain : Chain bytes (word bytes q 2) positions
  pub writes : right ≡ map (λ p. word bytes p 1) positions

-- the rule or argument p of the production q with this right side names an occurrence of the production
abbrev pub occurs_in : List ℕ → Vocabulary → ℕ → List ℕ → ℕ → Bool
occurs_in bytes v q right p = occurs v (word bytes q 1) right (occurrence_at bytes p)

-- The record p names a symbol or an occurrence that it may not name.
pub data WrongName (bytes : List ℕ) (v : Vocabulary) (p : ℕ) : Type 0 where
  wrong_start : p ≡ 0 → is_inner v v.start ≡ false → WrongName bytes v p
  wrong_left : ProductionOf bytes p → is_inner v (word bytes p 1) ≡ false → WrongName bytes v p
  wrong_position : (q n : ℕ) → ProductionOf bytes q → PositionRecord bytes q n p → (is_symbol v (word bytes p 1) ≡ false) ⊎ (word bytes p 1 ≡ v.start) → WrongName bytes v p
  wrong_target : (q : ℕ) (right : List ℕ) → RightSide bytes q right → RuleOf bytes q p → occurs_in bytes v q right p ≡ false → WrongName bytes v p
  wrong_argument : (q r n : ℕ) (right : List ℕ) → RightSide bytes q right → RuleOf bytes q r → ArgumentRecord bytes r n p → occurs_in bytes v q right p ≡ false → WrongName bytes v p

-- The rule p is for an occurrence that is not defined, or for that of an earlier rule; or the production p lacks the rule for a defined occurrence.
pub data WrongRule (bytes : List ℕ) (v : Vocabulary) (p : ℕ) : Type 0 where
  not_defined : (q : ℕ) (right : List ℕ) → RightSide bytes q right → RuleOf bytes q p → occurs_in bytes v q right p ≡ true → defined v (occurrence_at bytes p) ≡ false → WrongRule bytes v p
  second_rule : (q m n r : ℕ) (right : List ℕ) → RightSide bytes q right → RuleRecord bytes q m r → RuleRecord bytes q n p → m < n → occurs_in bytes v q right p ≡ true
      → occurrence_at bytes r ≡ occurrence_at bytes p → WrongRule bytes v p
  no_rule : (right rules : List ℕ) (o : Occurrence) → RightSide bytes p right → Chain bytes (word bytes p 3) rules → occurs v (word bytes p 1) right o ≡ true → defined v o ≡ true
      → (o ∈ map (occurrence_at bytes) rules → ⊥) → WrongRule bytes v p

-- The argument p is a defined occurrence.
pub record WrongArgument (bytes : List ℕ) (v : Vocabulary) (p : ℕ) : Type 0 where
  pub production : ℕ
  pub right : List ℕ
  pub side : RightSide bytes production right
  pub rule : ℕ
  pub in_production : RuleOf bytes production rule
  pub number : ℕ
  pub in_rule : ArgumentRecord bytes rule number p
  pub occurs : occurs_in bytes v production right p ≡ true
  pub is_defined : defined v (occurrence_at bytes p) ≡ true

-- The operation of the rule p, with its constant and count of arguments, is not admitted.
pub record WrongOperation (bytes : List ℕ) (admitted : ℕ → ℕ → ℕ → Bool) (p : ℕ) : Type 0 where
  pub production : ℕ
  pub is_production : ProductionOf bytes production
  pub in_production : RuleOf bytes production p
  pub arguments : List ℕ
  pub chain : Chain bytes (word bytes p 3) arguments
  pub not_admitted : admitted (word bytes p 4) (word bytes p 5) (length arguments) ≡ false

-- what is wrong with a table that is refused so; the other refusals are not of tables
abbrev pub Fault : List ℕ → (ℕ → ℕ → ℕ → Bool) → Refusal → Type 0
Fault bytes admitted TableSize = Sized bytes → ⊥
Fault bytes admitted (BadIndex h) = WrongIndex bytes h
Fault bytes admitted (CountPassed p) = OneTooMany bytes p
Fault bytes admitted (BadKind p) = WrongKind bytes p
Fault bytes admitted (NoSuch p) = (v : Vocabulary) × Writes bytes v × WrongName bytes v p
Fault bytes admitted (BadRule p) = (v : Vocabulary) × Writes bytes v × WrongRule bytes v p
Fault bytes admitted (DefinedArgument p) = (v : Vocabulary) × Writes bytes v × WrongArgument bytes v p
Fault bytes admitted (NotAdmitted p) = WrongOperation bytes admitted p
Fault bytes admitted (BadPlan place) = ⊥
Fault bytes admitted (Unnumbered a) = ⊥
Fault bytes admitted NodeCount = ⊥
Fault bytes admitted (BadLink node) = ⊥
Fault bytes admitted (BadNode node) = ⊥
Fault bytes admitted (TooDeep node) = ⊥
Fault bytes admitted NotOpened = ⊥
Fault bytes admitted TooFewCells = ⊥
Fault bytes admitted (PassOpen pass) = ⊥
Fault bytes admitted (ForeignSlip pass) = ⊥
Fault bytes admitted (AllFinished passes) = ⊥
Fault bytes admitted WalkEnded = ⊥
Fault bytes admitted (NoInstance node) = ⊥
Fault bytes admitted (NotFinished a) = ⊥
Fault bytes admitted (Undefined site) = ⊥
Fault bytes admitted (ListingTooLong needed) = ⊥
Fault bytes admitted OutOfMemory = ⊥

-- A refusal names a fault that is there.
abbrev pub RefusalNamesAFault : Type 0
RefusalNamesAFault = (bytes : List ℕ) (admitted : ℕ → ℕ → ℕ → Bool) (e : Refusal) → reading bytes admitted ≡ Err e → Fault bytes admitted e
