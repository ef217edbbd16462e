-- A lawful vocabulary that the table stands for is the one that its records write.
use Rattle.std.proofs.Common.{◌≡◌, ℕ, suc, ◌+◌, ◌-◌, ◌<◌, ◌≤◌, eqb, List, [], ◌∷◌, ◌++◌, map, length, get_or, Some, sym, refl, ap, ◌∙◌, subst, ap₂, arith}
use Rattle.std.specs.List.{AllByRecursion}
use Rattle.std.proofs.lemmas.List.{map-append}
use Rattle.std.proofs.ByRecursion.{All-from_get_or}
use Rattle.grammar.specs.declared.vocabulary.SymbolKind.{SymbolKind}
use Rattle.grammar.specs.declared.vocabulary.AttributeKind.{AttributeKind}
use Rattle.grammar.specs.declared.vocabulary.Symbol.{Symbol}
use Rattle.grammar.specs.declared.vocabulary.Attribute.{Attribute}
use Rattle.grammar.specs.Grammar.{Vocabulary, no_symbol, no_attribute, symbol, attribute}
use Rattle.grammar.specs.Lawful.{Rows, LawfulVocabulary}
use Rattle.tables.specs.Chains.{word}
use Rattle.grammar.specs.Kinds.{symbol_kind, attribute_kind}
use Rattle.tables.specs.Tables.{SymbolPlaces, ChainedSymbol, symbol_word, attribute_word, symbol_attributes, joined}
use Rattle.tables.proofs.Elements.{all_unmap, all_left, all_right, all_with}
use Rattle.tables.proofs.Words.{symbol_word_known, attribute_word_known, symbol_kind_of, attribute_kind_of, symbol_kind_is, attribute_kind_is}
use Rattle.tables.proofs.Symbols.{total, attribute_at, GoodAttribute, kind_at, GoodSymbols, symbols_from, attributes_from}
use Rattle.tables.proofs.Vocabularies.{name, Standing, length-syms, row_of, KindsFrom, kinds_from, vocabulary_of}

heads : {A : Type 0} {x y : A} {xs ys : List A} → ◌≡◌ {A = List A} (x ∷ xs) (y ∷ ys) → x ≡ y
heads e = cc

tails : {A : Type 0} {x y : A} {xs ys : List A} → ◌≡◌ {A = List A} (x ∷ xs) (y ∷ ys) → xs ≡ ys
tails e = cc

-- a kind's word is known, and gives the kind
symbol_again : (k : SymbolKind) (w : ℕ) → symbol_word k ≡ w → k ≡ symbol_kind_of w
symbol_again k w e = symbol_kind_is w k (ap symbol_kind (sym e) ∙ symbol_word_known k)

attribute_again : (k : AttributeKind) (w : ℕ) → attribute_word k ≡ w → k ≡ attribute_kind_of w
attribute_again k w e = attribute_kind_is w k (ap attribute_kind (sym e) ∙ attribute_word_known k)

symbol_there : (k : SymbolKind) (w : ℕ) → symbol_word k ≡ w → symbol_kind w ≡ Some (symbol_kind_of w)
symbol_there k w e = ap symbol_kind (sym e) ∙ symbol_word_known k ∙ ap Some (symbol_again k w e)

attribute_there : (k : AttributeKind) (w : ℕ) → attribute_word k ≡ w → attribute_kind w ≡ Some (attribute_kind_of w)
attribute_there k w e = ap attribute_kind (sym e) ∙ attribute_word_known k ∙ ap Some (attribute_again k w e)

module _ (bytes : List ℕ) where
  -- the symbols
  symbols_are : (ys : List Symbol) (xs : List SymbolPlaces) (m end : ℕ) → Rows m ys end
      → map (λ s. symbol_word s.kind) ys ≡ map (λ s. word bytes s.place 1) xs → map (λ s. s.count) ys ≡ map (λ s. length s.attributes) xs
      → (ys ≡ symbols_from bytes m xs) × (m + total xs ≡ end)
  symbols_are [] [] m end r k c = (refl, omega arith)
  symbols_are [] (x ∷ xs) m end r k c = cc
  symbols_are (y ∷ ys) [] m end r k c = cc
  symbols_are (y ∷ ys) (x ∷ xs) m end r k c =
      let n : y.count ≡ length x.attributes = heads c in
      let i = symbols_are ys xs (m + length x.attributes) end (rw n at r.1) (tails k) (tails c) in
      let q : y ≡ record { kind = kind_at bytes x.place; first = m; count = length x.attributes }
      = λ j. record { kind = symbol_again y.kind (word bytes x.place 1) (heads k) j; first = r.0 j; count = n j } in
      (ap₂ (λ z zs. z ∷ zs) q i.0, omega (arith, i.1))

  -- the attributes
  kinds_are : (ys : List Attribute) (ps : List ℕ) → map (λ a. attribute_word a.kind) ys ≡ map (λ p. word bytes p 1) ps → map (λ a. a.kind) ys ≡ map (λ p. attribute_kind_of (word bytes p 1)) ps
  kinds_are [] [] e = refl
  kinds_are [] (p ∷ ps) e = cc
  kinds_are (y ∷ ys) [] e = cc
  kinds_are (y ∷ ys) (p ∷ ps) e = ap₂ (λ z zs. z ∷ zs) (attribute_again y.kind (word bytes p 1) (heads e)) (kinds_are ys ps (tails e))

  kinds_written : (xs : List SymbolPlaces) (n : ℕ) → map (λ a. a.kind) (attributes_from bytes n xs) ≡ map (λ p. attribute_kind_of (word bytes p 1)) (joined (map symbol_attributes xs))
  kinds_written [] n = refl
  kinds_written (x ∷ xs) n =
      map-append (λ a. a.kind) (map (attribute_at bytes n) x.attributes) (attributes_from bytes (suc n) xs)
      ∙ ap₂ (λ l r. l ++ r) (each x.attributes) (kinds_written xs (suc n))
      ∙ sym (map-append (λ p. attribute_kind_of (word bytes p 1)) x.attributes (joined (map symbol_attributes xs)))
    where
      each : (ps : List ℕ) → map (λ a. a.kind) (map (attribute_at bytes n) ps) ≡ map (λ p. attribute_kind_of (word bytes p 1)) ps
      each [] = refl
      each (p ∷ ps) = ap (λ l. attribute_kind_of (word bytes p 1) ∷ l) (each ps)

  attributes_same : (ys zs : List Attribute) → map (λ a. a.kind) ys ≡ map (λ a. a.kind) zs
      → ((a : ℕ) → a < length ys → (get_or ys a no_attribute).symbol ≡ (get_or zs a no_attribute).symbol) → ys ≡ zs
  attributes_same [] [] k h = refl
  attributes_same [] (z ∷ zs) k h = cc
  attributes_same (y ∷ ys) [] k h = cc
  attributes_same (y ∷ ys) (z ∷ zs) k h =
      let q : y ≡ z = λ j. record { symbol = h 0 (omega arith) j; kind = heads k j } in
      ap₂ (λ x xs. x ∷ xs) q (attributes_same ys zs (tails k) (λ a l. h (suc a) (omega arith)))

  owner_is : (v : Vocabulary) (xs : List SymbolPlaces) → LawfulVocabulary v → v.symbols ≡ symbols_from bytes 1 xs → (a : ℕ) → a < total xs
      → (get_or v.attributes a no_attribute).symbol ≡ (get_or (attributes_from bytes 1 xs) a no_attribute).symbol
  owner_is v xs law e a l =
      let r = row_of bytes xs 1 1 a l in
      let k = r.0 in
      let is : symbol v (1 + k) ≡ get_or (symbols_from bytes 1 xs) k no_symbol = ap₂ (λ ys i. get_or ys i no_symbol) e (omega arith) in
      let f = ap (λ y. y.first) is in
      let c = ap (λ y. y.count) is in
      let n : length v.symbols ≡ length xs = ap length e ∙ length-syms bytes xs 1 in
      let o : (attribute v (1 + a)).symbol ≡ 1 + k = law.owned (1 + k) (1 + a) (name (length v.symbols) (1 + k) (omega arith) (omega (arith, r.1))) (omega (arith, r.3)) (omega (arith, r.4)) in
      let i : 1 + a - 1 ≡ a = omega arith in
      ap (λ i. (get_or v.attributes i no_attribute).symbol) (sym i) ∙ o ∙ sym r.2

  pub vocabulary_is : (v : Vocabulary) (xs : List SymbolPlaces) → LawfulVocabulary v → v.start ≡ word bytes 0 2
      → map (λ s. symbol_word s.kind) v.symbols ≡ map (λ s. word bytes s.place 1) xs → map (λ s. s.count) v.symbols ≡ map (λ s. length s.attributes) xs
      → map (λ a. attribute_word a.kind) v.attributes ≡ map (λ p. word bytes p 1) (joined (map symbol_attributes xs))
      → (v ≡ vocabulary_of bytes (word bytes 0 2) xs) × (length v.attributes ≡ total xs)
  vocabulary_is v xs law s k c a =
      let i = symbols_are v.symbols xs 1 (suc (length v.attributes)) law.rows k c in
      let n : length v.attributes ≡ total xs = omega (arith, i.1) in
      let q = attributes_same v.attributes (attributes_from bytes 1 xs) (kinds_are v.attributes (joined (map symbol_attributes xs)) a ∙ sym (kinds_written xs 1))
      (λ b l. owner_is v xs law i.0 b (omega arith)) in
      ((λ j. record { start = s j; symbols = i.0 j; attributes = q j }), n)

  -- what the words of a lawful vocabulary's records are
  symbols_known : (ys : List Symbol) (xs : List SymbolPlaces) → map (λ s. symbol_word s.kind) ys ≡ map (λ s. word bytes s.place 1) xs
      → AllByRecursion (λ x. symbol_kind (word bytes x.place 1) ≡ Some (kind_at bytes x.place)) xs
  symbols_known ys [] e = tt
  symbols_known [] (x ∷ xs) e = cc
  symbols_known (y ∷ ys) (x ∷ xs) e = (symbol_there y.kind (word bytes x.place 1) (heads e), symbols_known ys xs (tails e))

  attributes_known : (ys : List Attribute) (ps : List ℕ) → map (λ a. attribute_word a.kind) ys ≡ map (λ p. word bytes p 1) ps
      → AllByRecursion (λ p. attribute_kind (word bytes p 1) ≡ Some (attribute_kind_of (word bytes p 1))) ps
  attributes_known ys [] e = tt
  attributes_known [] (p ∷ ps) e = cc
  attributes_known (y ∷ ys) (p ∷ ps) e = (attribute_there y.kind (word bytes p 1) (heads e), attributes_known ys ps (tails e))

  few_each : (xs : List SymbolPlaces) (m : ℕ) → AllByRecursion (λ y. y.count ≤ 16) (symbols_from bytes m xs) → AllByRecursion (λ x. length x.attributes ≤ 16) xs
  few_each [] m h = tt
  few_each (x ∷ xs) m h = (h.0, few_each xs (m + length x.attributes) h.1)

  abbrev Known : SymbolPlaces → Type 0
  Known x = symbol_kind (word bytes x.place 1) ≡ Some (kind_at bytes x.place)

  abbrev KnownAttribute : ℕ → Type 0
  KnownAttribute p = attribute_kind (word bytes p 1) ≡ Some (attribute_kind_of (word bytes p 1))

  good_from : (v : Vocabulary) (xs : List SymbolPlaces) (n : ℕ) → KindsFrom bytes v n xs → AllByRecursion (Standing v) (attributes_from bytes n xs)
      → AllByRecursion Known xs → AllByRecursion KnownAttribute (joined (map symbol_attributes xs)) → AllByRecursion (ChainedSymbol bytes) xs → AllByRecursion (λ x. length x.attributes ≤ 16) xs
      → GoodSymbols bytes v.start n xs
  good_from v [] n k s w a c f = tt
  good_from v (x ∷ xs) n k s w a c f =
      let own = map (attribute_at bytes n) x.attributes in
      let rest = attributes_from bytes (suc n) xs in
      let mine = all_unmap (Standing v) (attribute_at bytes n) x.attributes (all_left (Standing v) own rest s) in (
        record {
          known = w.0;
          chain = c.0;
          few = f.0;
          good = all_with KnownAttribute (λ p. Standing v (attribute_at bytes n p)) (GoodAttribute bytes (kind_at bytes x.place) (eqb v.start n))
              (λ p known stands. (known, rw k.0 at stands)) x.attributes (all_left KnownAttribute x.attributes (joined (map symbol_attributes xs)) a) mine;
        },
        good_from v xs (suc n) k.1 (all_right (Standing v) own rest s) w.1 (all_right KnownAttribute x.attributes (joined (map symbol_attributes xs)) a) c.1 f.1,
      )

  pub good_symbols : (start : ℕ) (xs : List SymbolPlaces) → LawfulVocabulary (vocabulary_of bytes start xs)
      → map (λ s. symbol_word s.kind) (symbols_from bytes 1 xs) ≡ map (λ s. word bytes s.place 1) xs
      → map (λ a. attribute_word a.kind) (attributes_from bytes 1 xs) ≡ map (λ p. word bytes p 1) (joined (map symbol_attributes xs))
      → AllByRecursion (ChainedSymbol bytes) xs → GoodSymbols bytes start 1 xs
  good_symbols start xs law k a c =
      let v = vocabulary_of bytes start xs in
      good_from v xs 1 (kinds_from bytes v xs [] 1 1 refl refl (omega arith))
      (All-from_get_or (Standing v) v.attributes no_attribute (λ i l.
      let n : 1 + i - 1 ≡ i = omega arith in
      subst (λ j. Standing v (get_or v.attributes j no_attribute)) n (law.kinds (1 + i) (name (length v.attributes) (1 + i) (omega arith) (omega arith)))))
      (symbols_known v.symbols xs k) (attributes_known v.attributes (joined (map symbol_attributes xs)) a) c
      (few_each xs 1 (All-from_get_or (λ y. y.count ≤ 16) v.symbols no_symbol (λ i l.
      let n : 1 + i - 1 ≡ i = omega arith in
      subst (λ j. (get_or v.symbols j no_symbol).count ≤ 16) n (law.few_of_one_symbol (1 + i) (name (length v.symbols) (1 + i) (omega arith) (omega arith))))))
