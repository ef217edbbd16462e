-- Reading the symbols with their attributes.
use Rattle.std.proofs.Common.{◌≡◌, ℕ, suc, ◌+◌, ◌-◌, ◌<◌, ◌≤◌, Bool, true, eqb, leb, List, [], ◌∷◌, ◌++◌, map, length, Some, Ok, sym, refl, ap, ◌∙◌, ap₂, arith, length-append}
use lib.ListN.{length-map}
use Rattle.std.specs.List.{AllByRecursion}
use Rattle.std.proofs.lemmas.List.{append_assoc, append-nil, length_push}
use Rattle.std.proofs.lemmas.Bool.{cond-true, cond-false, leb-false, lt-leb}
use Rattle.refusal.specs.declared.Refusal.TheVariants.{BadKind}
use Rattle.grammar.specs.declared.vocabulary.SymbolKind.{SymbolKind}
use Rattle.grammar.specs.declared.vocabulary.Symbol.{Symbol}
use Rattle.grammar.specs.declared.vocabulary.Attribute.{Attribute}
use Rattle.grammar.specs.Lawful.{may_stand}
use Rattle.tables.specs.Chains.{Reading, and_then, word, record_at}
use Rattle.grammar.specs.Kinds.{symbol_kind, attribute_kind}
use Rattle.tables.specs.Reading.{Gathered, require, standing, attribute, attributes, symbol, symbols}
use Rattle.tables.specs.Tables.{Chain, SymbolPlaces, symbol_place, symbol_records, joined}
use Rattle.tables.proofs.Words.{symbol_kind_of, attribute_kind_of, symbol_kind_is, attribute_kind_is, standing_known}
use Rattle.tables.proofs.Outcomes.{same_value, test_failed, both_read, was_there}
use Rattle.grammar.proofs.Marks.{reach, Fresh}
use Rattle.tables.proofs.Readings.{gathered, Held, Took, Sound, Complete, chain_read, chain_goes}
use Rattle.tables.proofs.Leaves.{gathered_list, itself, nothing, leaf_took, leaves_read, leaves_go}

-- how many attributes there are in all
abbrev pub total : List SymbolPlaces → ℕ
total [] = 0
total (x ∷ xs) = length x.attributes + total xs

module _ (bytes : List ℕ) where
  abbrev pub attribute_at : ℕ → ℕ → Attribute
  attribute_at number p = record { symbol = number; kind = attribute_kind_of (word bytes p 1) }

  abbrev pub GoodAttribute : SymbolKind → Bool → ℕ → Type 0
  GoodAttribute symbol starts p = (attribute_kind (word bytes p 1) ≡ Some (attribute_kind_of (word bytes p 1))) × (may_stand symbol starts (attribute_kind_of (word bytes p 1)) ≡ true)

  abbrev pub kind_at : ℕ → SymbolKind
  kind_at p = symbol_kind_of (word bytes p 1)

  -- the symbols and attributes that records write, counted on from a symbol's number and an attribute's
  abbrev pub symbols_from : ℕ → List SymbolPlaces → List Symbol
  symbols_from m [] = []
  symbols_from m (x ∷ xs) = record { kind = kind_at x.place; first = m; count = length x.attributes } ∷ symbols_from (m + length x.attributes) xs

  abbrev pub attributes_from : ℕ → List SymbolPlaces → List Attribute
  attributes_from n [] = []
  attributes_from n (x ∷ xs) = map (attribute_at n) x.attributes ++ attributes_from (suc n) xs

  module _ (start : ℕ) where
    -- The symbol with the number n, whatever came before it.
    pub record GoodSymbol (n : ℕ) (x : SymbolPlaces) : Type 0 where
      pub known : symbol_kind (word bytes x.place 1) ≡ Some (kind_at x.place)
      pub chain : Chain bytes (word bytes x.place 2) x.attributes
      pub few : length x.attributes ≤ 16
      pub good : AllByRecursion (GoodAttribute (kind_at x.place) (eqb start n)) x.attributes

    abbrev pub GoodSymbols : ℕ → List SymbolPlaces → Type 0
    GoodSymbols n [] = Unit {0}
    GoodSymbols n (x ∷ xs) = GoodSymbol n x × GoodSymbols (suc n) xs

module _ (bytes : List ℕ) (small : length bytes ≤ 49152) where
  -- attributes
  module _ (number : ℕ) (symbol : SymbolKind) (starts : Bool) where
    abbrev may_be_attribute : List Attribute → ℕ → Type 0
    may_be_attribute b p = GoodAttribute bytes symbol starts p × (length b < 64)

    abbrev one_attribute : List Attribute → ℕ → List Attribute
    one_attribute b p = b ++ attribute_at bytes number p ∷ []

    attribute_sound : Sound itself nothing may_be_attribute one_attribute bytes small (attribute bytes number symbol starts)
    attribute_sound b p s b' s' e =
        let h = test_failed (leb 64 (length b)) _ _ e in
        let g = both_read (require (standing symbol starts (attribute_kind (word bytes p 1))) (BadKind p) s) (λ kind s₁. Ok (b ++ record { symbol = number; kind = kind } ∷ [], s₁)) h.1 in
        let w = was_there (standing symbol starts (attribute_kind (word bytes p 1))) (BadKind p) s g.2 in
        let k = standing_known symbol starts (attribute_kind (word bytes p 1)) g.0 w.0 in
        let i = attribute_kind_is (word bytes p 1) g.0 k.0 in
        leaf_took may_be_attribute one_attribute p b s b' s'
        ((k.0 ∙ ap Some i, sym (ap (may_stand symbol starts) i) ∙ k.1), leb-false 64 (length b) h.0)
        (sym (ap₂ (λ kind s₁. Ok (b ++ record { symbol = number; kind = kind } ∷ [], s₁)) i (sym w.1)) ∙ g.3)

    attribute_complete : Complete itself nothing may_be_attribute one_attribute bytes small (attribute bytes number symbol starts)
    attribute_complete b p s h f =
        cond-false (leb 64 (length b)) _ _ (lt-leb 64 (length b) h.1)
        ∙ ap (λ o. and_then (require (standing symbol starts o) (BadKind p) s) (λ kind s₁. Ok (b ++ record { symbol = number; kind = kind } ∷ [], s₁))) h.0.0
        ∙ ap (λ o. and_then (require o (BadKind p) s) (λ kind s₁. Ok (b ++ record { symbol = number; kind = kind } ∷ [], s₁))) (cond-true (may_stand symbol starts (attribute_kind_of (word bytes p 1))) _ _ h.0.1)

    -- at most 64 in all
    good_from_held : (ps : List ℕ) (b : List Attribute) → length b ≤ 64 → Held itself nothing may_be_attribute one_attribute ps b → AllByRecursion (GoodAttribute bytes symbol starts) ps × (length b + length ps ≤ 64)
    good_from_held [] b l h = (tt, omega arith)
    good_from_held (p ∷ ps) b l h =
        let n = length_push b (attribute_at bytes number p) in
        let i = good_from_held ps (one_attribute b p) (omega (arith, n, h.0.1)) h.1 in
        ((h.0.0, i.0), omega (arith, n, i.1))

    held_from_good : (ps : List ℕ) (b : List Attribute) → length b + length ps ≤ 64 → AllByRecursion (GoodAttribute bytes symbol starts) ps → Held itself nothing may_be_attribute one_attribute ps b
    held_from_good [] b l h = tt
    held_from_good (p ∷ ps) b l h =
        let n = length_push b (attribute_at bytes number p) in
        ((h.0, omega arith), held_from_good ps (one_attribute b p) (omega (arith, n)) h.1)

  -- symbols
  abbrev pub own_attributes : SymbolPlaces → List ℕ
  own_attributes x = x.attributes

  module _ (start : ℕ) where
    record MayFollow (before : Gathered) (x : SymbolPlaces) : Type 0 where
      known : symbol_kind (word bytes x.place 1) ≡ Some (kind_at bytes x.place)
      chain : Chain bytes (word bytes x.place 2) x.attributes
      few : length x.attributes ≤ 16
      held : Held itself nothing (may_be_attribute (suc (length before.symbols)) (kind_at bytes x.place) (eqb start (suc (length before.symbols))))
          (one_attribute (suc (length before.symbols)) (kind_at bytes x.place) (eqb start (suc (length before.symbols)))) x.attributes before.attributes

    abbrev one_symbol : Gathered → SymbolPlaces → Gathered
    one_symbol before x = record {
      symbols = before.symbols ++ record { kind = kind_at bytes x.place; first = suc (length before.attributes); count = length x.attributes } ∷ [];
      attributes = before.attributes ++ map (attribute_at bytes (suc (length before.symbols))) x.attributes;
    }

    -- what is gathered, once the attributes are read
    abbrev with_attributes : Gathered → SymbolKind → List Attribute → Gathered
    with_attributes before kind after = record {
      symbols = before.symbols ++ record { kind = kind; first = suc (length before.attributes); count = length after - length before.attributes } ∷ [];
      attributes = after;
    }

    counted : (before : Gathered) (x : SymbolPlaces) → with_attributes before (kind_at bytes x.place) (before.attributes ++ map (attribute_at bytes (suc (length before.symbols))) x.attributes) ≡ one_symbol before x
    counted before x =
        let own = map (attribute_at bytes (suc (length before.symbols))) x.attributes in
        let n : length (before.attributes ++ own) - length before.attributes ≡ length x.attributes = simp (length-append, length-map) (omega arith) in
        ap (λ c. record {
          symbols = before.symbols ++ record { kind = kind_at bytes x.place; first = suc (length before.attributes); count = c } ∷ [];
          attributes = before.attributes ++ own;
        }) n

    abbrev reads_attributes : Gathered → ℕ → SymbolKind → Reading Gathered
    reads_attributes before p kind s =
        and_then (attributes bytes (suc (length before.symbols)) kind (eqb start (suc (length before.symbols))) before.attributes (record_at bytes p) s) (λ after s₁.
        Ok (with_attributes before kind after, s₁))

    symbol_from : (b : Gathered) (p : ℕ) (s : List Bool) (b' : Gathered) (s' : List Bool) → symbol_kind (word bytes p 1) ≡ Some (kind_at bytes p) → reads_attributes b p (kind_at bytes p) s ≡ Ok (b', s')
        → Took symbol_place own_attributes MayFollow one_symbol p b s b' s'
    symbol_from b p s b' s' known e =
        let n = suc (length b.symbols) in
        let k = kind_at bytes p in
        let g = both_read (attributes bytes n k (eqb start n) b.attributes (record_at bytes p) s) (λ after s₁. Ok (with_attributes b k after, s₁)) e in
        let w = leaves_read (may_be_attribute n k (eqb start n)) (one_attribute n k (eqb start n)) bytes small (attribute bytes n k (eqb start n)) (attribute_sound n k (eqb start n)) 16 b.attributes p (word bytes p 2) s g.0 g.1 g.2 in
        let x : SymbolPlaces = record { place = p; attributes = w.places } in
        record {
          item = x;
          at = refl;
          holds = record { known = known; chain = w.chain; few = w.few; held = w.holds };
          fresh = w.fresh;
          gives = sym (ap (λ y. y.0) (same_value g.3)) ∙ ap (with_attributes b k) (w.gives ∙ gathered_list itself nothing (may_be_attribute n k (eqb start n)) (attribute_at bytes n) w.places b.attributes) ∙ counted b x;
          marks = sym (ap (λ y. y.1) (same_value g.3)) ∙ w.marks;
        }

    symbol_sound : Sound symbol_place own_attributes MayFollow one_symbol bytes small (symbol bytes start)
    symbol_sound b p s b' s' e =
        let g = both_read (require (symbol_kind (word bytes p 1)) (BadKind p) s) (reads_attributes b p) e in
        let w = was_there (symbol_kind (word bytes p 1)) (BadKind p) s g.2 in
        let i = symbol_kind_is (word bytes p 1) g.0 w.0 in
        symbol_from b p s b' s' (w.0 ∙ ap Some i) (sym (ap₂ (reads_attributes b p) i (sym w.1)) ∙ g.3)

    symbol_complete : Complete symbol_place own_attributes MayFollow one_symbol bytes small (symbol bytes start)
    symbol_complete b x s h f =
        let p = x.place in
        let n = suc (length b.symbols) in
        let k = kind_at bytes p in
        ap (λ o. and_then (require o (BadKind p) s) (reads_attributes b p)) h.known
        ∙ ap (λ r. and_then r (λ after s₁. Ok (with_attributes b k after, s₁)))
        (leaves_go (may_be_attribute n k (eqb start n)) (one_attribute n k (eqb start n)) bytes small (attribute bytes n k (eqb start n)) (attribute_complete n k (eqb start n)) x.attributes 16 b.attributes p (word bytes p 2) s h.chain h.few h.held f)
        ∙ ap (λ a. Ok (with_attributes b k a, reach x.attributes s)) (gathered_list itself nothing (may_be_attribute n k (eqb start n)) (attribute_at bytes n) x.attributes b.attributes)
        ∙ ap (λ g. Ok (g, reach x.attributes s)) (counted b x)

    good_symbols : (xs : List SymbolPlaces) (b : Gathered) → length b.attributes ≤ 64 → Held symbol_place own_attributes MayFollow one_symbol xs b → GoodSymbols bytes start (suc (length b.symbols)) xs × (length b.attributes + total xs ≤ 64)
    good_symbols [] b l h = (tt, omega arith)
    good_symbols (x ∷ xs) b l h =
        let m = h.0 in
        let n = suc (length b.symbols) in
        let g = good_from_held n (kind_at bytes x.place) (eqb start n) x.attributes b.attributes l m.held in
        let k : length (one_symbol b x).attributes ≡ length b.attributes + length x.attributes = simp (length-append, length-map) in
        let j : length (one_symbol b x).symbols ≡ n = length_push b.symbols _ ∙ (omega arith) in
        let i = good_symbols xs (one_symbol b x) (omega (arith, k, g.1)) h.1 in
        ((record { known = m.known; chain = m.chain; few = m.few; good = g.0 }, rw j at i.0), omega (arith, k, i.1))

    held_symbols : (xs : List SymbolPlaces) (b : Gathered) → length b.attributes + total xs ≤ 64 → GoodSymbols bytes start (suc (length b.symbols)) xs → Held symbol_place own_attributes MayFollow one_symbol xs b
    held_symbols [] b l h = tt
    held_symbols (x ∷ xs) b l h =
        let m = h.0 in
        let n = suc (length b.symbols) in
        let k : length (one_symbol b x).attributes ≡ length b.attributes + length x.attributes = simp (length-append, length-map) in
        let j : length (one_symbol b x).symbols ≡ n = length_push b.symbols _ ∙ (omega arith) in (
          record { known = m.known; chain = m.chain; few = m.few; held = held_from_good n (kind_at bytes x.place) (eqb start n) x.attributes b.attributes (omega arith) m.good },
          held_symbols xs (one_symbol b x) (omega (arith, k)) (rw j h.1),
        )

  module _ (start : ℕ) where
    gathered_symbols : (xs : List SymbolPlaces) (b : Gathered)
        → gathered symbol_place own_attributes (MayFollow start) (one_symbol start) xs b
        ≡ record { symbols = b.symbols ++ symbols_from bytes (suc (length b.attributes)) xs; attributes = b.attributes ++ attributes_from bytes (suc (length b.symbols)) xs }
    gathered_symbols [] b = rw (append-nil b.symbols, append-nil b.attributes) refl
    gathered_symbols (x ∷ xs) b =
        let n = suc (length b.symbols) in
        let y : Symbol = record { kind = kind_at bytes x.place; first = suc (length b.attributes); count = length x.attributes } in
        let own = map (attribute_at bytes n) x.attributes in
        let k : suc (length (b.attributes ++ own)) ≡ suc (length b.attributes) + length x.attributes = simp (length-append, length-map) (omega arith) in
        let j : length (b.symbols ++ y ∷ []) ≡ n = length_push b.symbols y ∙ (omega arith) in
        let p : (b.symbols ++ y ∷ []) ++ symbols_from bytes (suc (length (b.attributes ++ own))) xs ≡ b.symbols ++ symbols_from bytes (suc (length b.attributes)) (x ∷ xs)
        = rw k (append_assoc b.symbols (y ∷ []) _) in
        let q : (b.attributes ++ own) ++ attributes_from bytes (suc (length (b.symbols ++ y ∷ []))) xs ≡ b.attributes ++ attributes_from bytes n (x ∷ xs)
        = rw j (append_assoc b.attributes own _) in
        gathered_symbols xs (one_symbol start b x) ∙ ap₂ (λ s a. record { symbols = s; attributes = a }) p q

    abbrev none : Gathered
    none = record { symbols = []; attributes = [] }

    abbrev pub written : List SymbolPlaces → Gathered
    written xs = record { symbols = symbols_from bytes 1 xs; attributes = attributes_from bytes 1 xs }

    pub record Named (index : ℕ) (s : List Bool) (found : Gathered) (s' : List Bool) : Type 0 where
      pub places : List SymbolPlaces
      pub chain : Chain bytes index (map symbol_place places)
      pub few : length places ≤ 48
      pub holds : GoodSymbols bytes start 1 places
      pub fit : total places ≤ 64
      pub fresh : Fresh (joined (map symbol_records places)) s
      pub gives : found ≡ written places
      pub marks : s' ≡ reach (joined (map symbol_records places)) s

    pub symbols_read : (index : ℕ) (s : List Bool) (found : Gathered) (s' : List Bool) → symbols bytes start index s ≡ Ok (found, s') → Named index s found s'
    symbols_read index s found s' e =
        let w = chain_read symbol_place own_attributes (MayFollow start) (one_symbol start) bytes small (symbol bytes start) (symbol_sound start) 48 none 0 index s found s' e in
        let g = good_symbols start w.items none (omega arith) w.holds in
        record {
          places = w.items;
          chain = w.chain;
          few = w.few;
          fresh = w.fresh;
          marks = w.marks;
          holds = g.0;
          fit = omega (arith, g.1);
          gives = w.gives ∙ gathered_symbols w.items none;
        }

    pub symbols_go : (xs : List SymbolPlaces) (index : ℕ) (s : List Bool) → Chain bytes index (map symbol_place xs) → length xs ≤ 48 → GoodSymbols bytes start 1 xs → total xs ≤ 64 → Fresh (joined (map symbol_records xs)) s
        → symbols bytes start index s ≡ Ok (written xs, reach (joined (map symbol_records xs)) s)
    symbols_go xs index s c few h t f =
        chain_goes symbol_place own_attributes (MayFollow start) (one_symbol start) bytes small (symbol bytes start) (symbol_complete start) xs 48 none 0 index s c few (held_symbols start xs none (omega arith) h) f
        ∙ ap (λ g. Ok (g, reach (joined (map symbol_records xs)) s)) (gathered_symbols xs none)
