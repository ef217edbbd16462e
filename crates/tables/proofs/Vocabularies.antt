-- The vocabulary that records of symbols and attributes write, and that it is lawful.
use Rattle.std.proofs.Common.{◌≡◌, ℕ, zero, suc, ◌+◌, ◌-◌, ◌<◌, ◌≤◌, Bool, true, eqb, ltb, leb, List, [], ◌∷◌, ◌++◌, map, length, get_or, sym, refl, ap, ◌∙◌, ap₂, inl, inr, arith, length-append}
use lib.ListN.{length-map}
use Rattle.std.specs.List.{AllByRecursion}
use Rattle.std.proofs.lemmas.List.{append_assoc, map-append, get_or_at, get_or_append_left, get_or-append_right, get_or-map, length_push}
use Rattle.std.proofs.ByRecursion.{All-append, All-map, All-weaker, All-get_or}
use Rattle.std.proofs.lemmas.Bool.{cases_lt, and_parts, and_from, ltb-true, leb-true, lt-ltb, le-leb}
use Rattle.grammar.specs.declared.vocabulary.SymbolKind.{SymbolKind}
use Rattle.grammar.specs.declared.vocabulary.Symbol.{Symbol}
use Rattle.grammar.specs.declared.vocabulary.Attribute.{Attribute}
use Rattle.grammar.specs.Grammar.{Vocabulary, names, no_symbol, no_attribute, symbol, attribute, is_inner}
use Rattle.grammar.specs.Lawful.{may_stand, Rows, LawfulVocabulary}
use Rattle.tables.specs.Chains.{word}
use Rattle.tables.specs.Tables.{SymbolPlaces, ChainedSymbol, symbol_word, attribute_word, symbol_attributes, joined}
use Rattle.tables.proofs.Words.{symbol_known, attribute_known}
use Rattle.tables.proofs.Symbols.{total, attribute_at, GoodAttribute, kind_at, GoodSymbols, symbols_from, attributes_from}

pub named : (count n : ℕ) → names count n ≡ true → (1 ≤ n) × (n ≤ count)
named count n h =
    let p = and_parts (ltb 0 n) (leb n count) h in
    (omega (arith, ltb-true 0 n p.0), leb-true n count p.1)

pub name : (count n : ℕ) → 1 ≤ n → n ≤ count → names count n ≡ true
name count n l h = and_from (ltb 0 n) (leb n count) (lt-ltb 0 n (omega arith)) (le-leb n count h)

-- an attribute may stand at its symbol
abbrev pub Standing : Vocabulary → Attribute → Type 0
Standing v a = may_stand (symbol v a.symbol).kind (eqb v.start a.symbol) a.kind ≡ true

module _ (bytes : List ℕ) where
  abbrev syms : ℕ → List SymbolPlaces → List Symbol
  syms m xs = symbols_from bytes m xs

  abbrev attrs : ℕ → List SymbolPlaces → List Attribute
  attrs n xs = attributes_from bytes n xs

  pub length-syms : (xs : List SymbolPlaces) (m : ℕ) → length (syms m xs) ≡ length xs
  length-syms [] m = refl
  length-syms (x ∷ xs) m = ap suc (length-syms xs (m + length x.attributes))

  pub length-attrs : (xs : List SymbolPlaces) (n : ℕ) → length (attrs n xs) ≡ total xs
  length-attrs [] n = refl
  length-attrs (x ∷ xs) n = simp (length-append, length-map) (ap (λ t. length x.attributes + t) (length-attrs xs (suc n)))

  rows : (xs : List SymbolPlaces) (m end : ℕ) → m + total xs ≡ end → Rows m (syms m xs) end
  rows [] m end e = omega arith
  rows (x ∷ xs) m end e = (refl, rows xs (m + length x.attributes) end (omega arith))

  first_low : (xs : List SymbolPlaces) (m k : ℕ) → k < length xs → m ≤ (get_or (syms m xs) k no_symbol).first
  first_low [] m k l = absurd (omega arith)
  first_low (x ∷ xs) m zero l = omega arith
  first_low (x ∷ xs) m (suc k) l = omega (arith, first_low xs (m + length x.attributes) k (omega arith))

  own : (n : ℕ) (ps : List ℕ) (rest : List Attribute) (a : ℕ) → a < length ps → (get_or (map (attribute_at bytes n) ps ++ rest) a no_attribute).symbol ≡ n
  own n ps rest a l =
      let k : a < length (map (attribute_at bytes n) ps) = simp length-map l in
      ap (λ x. x.symbol) (get_or_append_left (map (attribute_at bytes n) ps) rest no_attribute a k ∙ get_or-map (attribute_at bytes n) ps a 0 no_attribute l)

  others : (n : ℕ) (ps : List ℕ) (rest : List Attribute) (a : ℕ) → length ps ≤ a → get_or (map (attribute_at bytes n) ps ++ rest) a no_attribute ≡ get_or rest (a - length ps) no_attribute
  others n ps rest a l = get_or-append_right (map (attribute_at bytes n) ps) rest (length ps) a no_attribute (length-map ps (attribute_at bytes n)) l

  -- a symbol owns the attributes of its row
  pub owned : (xs : List SymbolPlaces) (n m k a : ℕ) → k < length xs → (get_or (syms m xs) k no_symbol).first ≤ m + a
      → m + a < (get_or (syms m xs) k no_symbol).first + (get_or (syms m xs) k no_symbol).count → (get_or (attrs n xs) a no_attribute).symbol ≡ n + k
  owned [] n m k a l low high = absurd (omega arith)
  owned (x ∷ xs) n m zero a l low high = own n x.attributes (attrs (suc n) xs) a (omega arith) ∙ (omega arith)
  owned (x ∷ xs) n m (suc k) a l low high =
      let c = length x.attributes in
      let f = first_low xs (m + c) k (omega arith) in
      let i : c ≤ a = omega arith in
      let e : m + c + (a - c) ≡ m + a = omega arith in
      ap (λ y. y.symbol) (others n x.attributes (attrs (suc n) xs) a i)
      ∙ owned xs (suc n) (m + c) k (a - c) (omega arith) (omega arith) (omega arith)
      ∙ (omega arith)

  -- every attribute stands in the row of one of the symbols
  pub row_of : (xs : List SymbolPlaces) (n m a : ℕ) → a < total xs
      → (k : ℕ) × (k < length xs) × ((get_or (attrs n xs) a no_attribute).symbol ≡ n + k) × ((get_or (syms m xs) k no_symbol).first ≤ m + a) × (m + a < (get_or (syms m xs) k no_symbol).first + (get_or (syms m xs) k no_symbol).count)
  row_of [] n m a l = absurd (omega arith)
  row_of (x ∷ xs) n m a l = elim (cases_lt a (length x.attributes)) [
    | inl h ↦ (0, omega arith, own n x.attributes (attrs (suc n) xs) a h ∙ (omega arith), omega arith, omega arith)
    | inr h ↦
        let c = length x.attributes in
        let r = row_of xs (suc n) (m + c) (a - c) (omega arith) in
        (suc r.0, omega (arith, r.1), ap (λ y. y.symbol) (others n x.attributes (attrs (suc n) xs) a h) ∙ r.2 ∙ (omega arith), omega (arith, r.3), omega (arith, r.4))
  ]

  owners : (xs : List SymbolPlaces) (n : ℕ) → AllByRecursion (λ a. (n ≤ a.symbol) × (a.symbol < n + length xs)) (attrs n xs)
  owners [] n = tt
  owners (x ∷ xs) n =
      All-append (λ a. (n ≤ a.symbol) × (a.symbol < n + length (x ∷ xs))) (map (attribute_at bytes n) x.attributes) (attrs (suc n) xs)
      (All-map (λ a. (n ≤ a.symbol) × (a.symbol < n + length (x ∷ xs))) (attribute_at bytes n) x.attributes (every x.attributes))
      (All-weaker (λ a. (suc n ≤ a.symbol) × (a.symbol < suc n + length xs)) (λ a. (n ≤ a.symbol) × (a.symbol < n + length (x ∷ xs))) (λ a h. (omega arith, omega arith)) (attrs (suc n) xs) (owners xs (suc n)))
    where
      every : (ps : List ℕ) → AllByRecursion (λ p. (n ≤ n) × (n < n + length (x ∷ xs))) ps
      every [] = tt
      every (p ∷ ps) = ((omega arith, omega arith), every ps)

  -- the symbols counted on from n have the kinds that their records write
  abbrev pub KindsFrom : Vocabulary → ℕ → List SymbolPlaces → Type 0
  KindsFrom v n [] = Unit {0}
  KindsFrom v n (x ∷ xs) = ((symbol v n).kind ≡ kind_at bytes x.place) × KindsFrom v (suc n) xs

  pub kinds_from : (v : Vocabulary) (xs : List SymbolPlaces) (before : List Symbol) (n m : ℕ) → v.symbols ≡ before ++ syms m xs → length before ≡ n - 1 → 1 ≤ n → KindsFrom v n xs
  kinds_from v [] before n m e l low = tt
  kinds_from v (x ∷ xs) before n m e l low =
      let y : Symbol = record { kind = kind_at bytes x.place; first = m; count = length x.attributes } in
      let rest = syms (m + length x.attributes) xs in (
        ap (λ z. z.kind) (ap (λ z. get_or z (n - 1) no_symbol) e ∙ get_or_at before y rest no_symbol (n - 1) l),
        kinds_from v xs (before ++ y ∷ []) (suc n) (m + length x.attributes) (e ∙ sym (append_assoc before (y ∷ []) rest)) (length_push before y ∙ (omega arith)) (omega arith),
      )

  pub standing_from : (v : Vocabulary) (xs : List SymbolPlaces) (n : ℕ) → KindsFrom v n xs → GoodSymbols bytes v.start n xs → AllByRecursion (Standing v) (attrs n xs)
  standing_from v [] n k g = tt
  standing_from v (x ∷ xs) n k g =
      All-append (Standing v) (map (attribute_at bytes n) x.attributes) (attrs (suc n) xs)
      (All-map (Standing v) (attribute_at bytes n) x.attributes (All-weaker (GoodAttribute bytes (kind_at bytes x.place) (eqb v.start n)) (λ p. Standing v (attribute_at bytes n p))
      (λ p h. rw k.0 h.1) x.attributes g.0.good))
      (standing_from v xs (suc n) k.1 g.1)

  counts : (start : ℕ) (xs : List SymbolPlaces) (n m : ℕ) → GoodSymbols bytes start n xs → AllByRecursion (λ y. y.count ≤ 16) (syms m xs)
  counts start [] n m g = tt
  counts start (x ∷ xs) n m g = (g.0.few, counts start xs (suc n) (m + length x.attributes) g.1)

  abbrev pub vocabulary_of : ℕ → List SymbolPlaces → Vocabulary
  vocabulary_of start xs = record { start = start; symbols = syms 1 xs; attributes = attrs 1 xs }

  pub lawful_vocabulary : (start : ℕ) (xs : List SymbolPlaces) → length xs ≤ 48 → total xs ≤ 64 → GoodSymbols bytes start 1 xs
      → is_inner (vocabulary_of start xs) start ≡ true → LawfulVocabulary (vocabulary_of start xs)
  lawful_vocabulary start xs few fit good inner =
      let v = vocabulary_of start xs in
      let ls : length v.symbols ≡ length xs = length-syms xs 1 in
      let la : length v.attributes ≡ total xs = length-attrs xs 1 in
      record {
        few_symbols = omega arith;
        few_attributes = omega arith;
        few_of_one_symbol = λ s h. let n = named (length v.symbols) s h in All-get_or (λ y. y.count ≤ 16) v.symbols (s - 1) no_symbol (omega (arith, n.0, n.1)) (counts start xs 1 1 good);
        rows = rows xs 1 (suc (length v.attributes)) (omega arith);
        owned = λ s a h low high.
            let n = named (length v.symbols) s h in
            let p : 1 ≤ (get_or v.symbols (s - 1) no_symbol).first = first_low xs 1 (s - 1) (omega (arith, n.0, n.1)) in
            owned xs 1 1 (s - 1) (a - 1) (omega (arith, n.0, n.1)) (omega arith) (omega arith) ∙ (omega (arith, n.0));
        owner = λ a h.
            let n = named (length v.attributes) a h in
            let o = All-get_or (λ a. (1 ≤ a.symbol) × (a.symbol < 1 + length xs)) v.attributes (a - 1) no_attribute (omega (arith, n.0, n.1)) (owners xs 1) in
            name (length v.symbols) (attribute v a).symbol o.0 (omega (arith, o.1));
        kinds = λ a h.
            let n = named (length v.attributes) a h in
            All-get_or (Standing v) v.attributes (a - 1) no_attribute (omega (arith, n.0, n.1)) (standing_from v xs 1 (kinds_from v xs [] 1 1 refl refl (omega arith)) good);
        start = inner;
      }

  -- what the records write, in words
  pub symbol_words : (start : ℕ) (xs : List SymbolPlaces) (n m : ℕ) → GoodSymbols bytes start n xs → map (λ s. symbol_word s.kind) (syms m xs) ≡ map (λ s. word bytes s.place 1) xs
  symbol_words start [] n m g = refl
  symbol_words start (x ∷ xs) n m g = ap₂ (λ w ws. w ∷ ws) (symbol_known (word bytes x.place 1) _ g.0.known) (symbol_words start xs (suc n) (m + length x.attributes) g.1)

  pub symbol_counts : (xs : List SymbolPlaces) (m : ℕ) → map (λ s. s.count) (syms m xs) ≡ map (λ s. length s.attributes) xs
  symbol_counts [] m = refl
  symbol_counts (x ∷ xs) m = ap (λ ws. length x.attributes ∷ ws) (symbol_counts xs (m + length x.attributes))

  pub attribute_words : (start : ℕ) (xs : List SymbolPlaces) (n : ℕ) → GoodSymbols bytes start n xs
      → map (λ a. attribute_word a.kind) (attrs n xs) ≡ map (λ p. word bytes p 1) (joined (map symbol_attributes xs))
  attribute_words start [] n g = refl
  attribute_words start (x ∷ xs) n g =
      map-append (λ a. attribute_word a.kind) (map (attribute_at bytes n) x.attributes) (attrs (suc n) xs)
      ∙ ap₂ (λ l r. l ++ r) (each (kind_at bytes x.place) (eqb start n) x.attributes g.0.good) (attribute_words start xs (suc n) g.1)
      ∙ sym (map-append (λ p. word bytes p 1) x.attributes (joined (map symbol_attributes xs)))
    where
      each : (kind : SymbolKind) (starts : Bool) (ps : List ℕ) → AllByRecursion (GoodAttribute bytes kind starts) ps
          → map (λ a. attribute_word a.kind) (map (attribute_at bytes n) ps) ≡ map (λ p. word bytes p 1) ps
      each kind starts [] h = refl
      each kind starts (p ∷ ps) h = ap₂ (λ w ws. w ∷ ws) (attribute_known (word bytes p 1) _ h.0.0) (each kind starts ps h.1)

  pub symbol_chains : (start : ℕ) (xs : List SymbolPlaces) (n : ℕ) → GoodSymbols bytes start n xs → AllByRecursion (ChainedSymbol bytes) xs
  symbol_chains start [] n g = tt
  symbol_chains start (x ∷ xs) n g = (g.0.chain, symbol_chains start xs (suc n) g.1)
