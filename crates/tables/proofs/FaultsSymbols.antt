-- Reading symbols and their attributes: the vocabulary that the table writes, or a fault.
use Rattle.std.proofs.Common.{◌≡◌, ℕ, suc, ◌+◌, ◌-◌, ◌≤◌, Bool, eqb, leb, List, [], ◌∷◌, ◌++◌, map, length, replicate, Some, sym, refl, ap, ◌∙◌, subst, arith}
use Rattle.std.specs.List.{AllByRecursion}
use Rattle.std.proofs.lemmas.List.{append-nil, append_assoc, map-append, length-map, length-append, length_push, map_push, replicate_more, length-replicate}
use Rattle.std.proofs.lemmas.Bool.{leb-true, leb-false}
use Rattle.refusal.specs.declared.Refusal.TheVariants.{BadKind}
use Rattle.grammar.specs.declared.vocabulary.SymbolKind.{SymbolKind}
use Rattle.grammar.specs.declared.vocabulary.Attribute.{Attribute}
use Rattle.tables.specs.Chains.{word, record_at}
use Rattle.grammar.specs.Kinds.{symbol_kind, attribute_kind}
use Rattle.tables.specs.Reading.{require, standing, Gathered, attribute, attributes, symbol, symbols}
use Rattle.tables.specs.Tables.{Chain, SymbolPlaces, symbol_place, symbol_attributes, ChainedSymbol, joined, symbol_word, attribute_word}
use Rattle.tables.specs.Faults.{Names, Onward, at_symbol, at_attribute, SymbolRecord, Fault, many_symbols, many_of_one_symbol, many_attributes, wrong_symbol, wrong_attribute, firsts, owners, Written}
use Rattle.tables.proofs.Words.{symbol_known, attribute_known, standing_known}
use Rattle.tables.proofs.FaultsComes.{Comes, comes_then, comes_cond, comes_require}
use Rattle.tables.proofs.FaultsChains.{Marks, marks_onward, nth_to, along_comes}
use Rattle.tables.proofs.FaultsSpots.{deeper, under, further, next_one}

-- the attributes of one symbol, after those of the symbols before it
record Added (bytes : List ℕ) (n : ℕ) (before : List Attribute) (ps : List ℕ) (b : List Attribute) : Type 0 where
  kinds : map (λ a. attribute_word a.kind) b ≡ map (λ a. attribute_word a.kind) before ++ map (λ p. word bytes p 1) ps
  symbols : map (λ a. a.symbol) b ≡ map (λ a. a.symbol) before ++ replicate (length ps) n
  few : length b ≤ 64

added_length : (bytes : List ℕ) (n : ℕ) (before : List Attribute) (ps : List ℕ) (b : List Attribute) → Added bytes n before ps b → length b ≡ length before + length ps
added_length bytes n before ps b a = simp (length-map, length-append, length-replicate) at (ap length a.symbols)

module _ (bytes : List ℕ) (admitted : ℕ → ℕ → ℕ → Bool) (short : length bytes ≤ 49152)
    (places : List SymbolPlaces) (chains : AllByRecursion (ChainedSymbol bytes) places)
    (n p : ℕ) (base : ℕ) (on : Onward bytes (word bytes 0 0) (map symbol_place places) p) (here : Names bytes p)
    (count : n ≡ length places)
    (kind : SymbolKind) (is_kind : symbol_kind (word bytes p 1) ≡ Some kind)
    (before : List Attribute) (written : length before ≡ length (joined (map symbol_attributes places))) where
  this_symbol : SymbolRecord bytes (suc n) p
  this_symbol = let e : length (map symbol_place places) ≡ n = length-map places symbol_place ∙ sym count in
      rw e at (nth_to bytes 0 0 (map symbol_place places) p on here)

  attribute_comes : (ps : List ℕ) (b : List Attribute) (s : List Bool) (i : ℕ) → Onward bytes (word bytes p 2) ps i → Names bytes i
      → Marks bytes (at_attribute (suc n) (suc (suc (length ps)))) (base + suc (length ps)) s → Added bytes (suc n) before ps b
      → Comes (Fault bytes admitted) (λ b' s'. Marks bytes (at_attribute (suc n) (suc (suc (length ps)))) (base + suc (length ps)) s' × Added bytes (suc n) before (ps ++ i ∷ []) b')
      (attribute bytes (suc n) kind (eqb (word bytes 0 2) (suc n)) b (record_at bytes i) s)
  attribute_comes ps b s i way there a h =
      let l = added_length bytes (suc n) before ps b h in
      let few : length b ≤ 64 = h.few in
      comes_cond (Fault bytes admitted) _ (leb 64 (length b)) _ _
      (λ full. let f = leb-true 64 (length b) full in many_attributes (record {
        before = places;
        chains = chains;
        symbol = p;
        onward = on;
        here = here;
        number = suc (length ps);
        attribute = nth_to bytes p 2 ps i way there;
        count = omega arith;
      }))
      (λ free. let f = leb-false 64 (length b) free in
      comes_then (Fault bytes admitted) (λ k s'. (standing kind (eqb (word bytes 0 2) (suc n)) (attribute_kind (word bytes i 1)) ≡ Some k) × Marks bytes (at_attribute (suc n) (suc (suc (length ps)))) (base + suc (length ps)) s') _
      (require (standing kind (eqb (word bytes 0 2) (suc n)) (attribute_kind (word bytes i 1))) (BadKind i) s) _
      (comes_require (Fault bytes admitted) _ _ (BadKind i) s
      (λ k e. (e, a))
      (λ none. wrong_attribute (suc n) p (suc (length ps)) kind this_symbol is_kind (nth_to bytes p 2 ps i way there) none))
      (λ k s' g.
      let w = attribute_known (word bytes i 1) k (standing_known kind (eqb (word bytes 0 2) (suc n)) (attribute_kind (word bytes i 1)) k g.0).0 in (
        g.1,
        record {
          kinds = simp (map_push, h.kinds, append_assoc, w);
          symbols = let r : replicate (length (ps ++ i ∷ [])) (suc n) ≡ replicate (length ps) (suc n) ++ suc n ∷ [] = rw length_push (sym (replicate_more (length ps) (suc n))) in simp (map_push, h.symbols, append_assoc, r);
          few = simp length_push (omega arith);
        },
      )))

  attributes_come : (s : List Bool) → Marks bytes (at_attribute (suc n) 1) base s → length before ≤ 64
      → Comes (Fault bytes admitted) (λ b' s'. (ps : List ℕ) × Chain bytes (word bytes p 2) ps × Marks bytes (at_attribute (suc n) (suc (length ps))) (base + length ps) s' × Added bytes (suc n) before ps b')
      (attributes bytes (suc n) kind (eqb (word bytes 0 2) (suc n)) before (record_at bytes p) s)
  attributes_come s a few =
      along_comes bytes admitted short (attribute bytes (suc n) kind (eqb (word bytes 0 2) (suc n))) 16 p 2 base
      (at_attribute (suc n)) (λ m. at_attribute (suc n) (suc m)) (Added bytes (suc n) before)
      (λ m h i link. (p, this_symbol, link)) (λ m. further (0 ∷ suc n ∷ []) (suc m) [] []) (λ m. next_one (0 ∷ suc n ∷ []) (suc m) [] [])
      attribute_comes
      (λ ps s' i way there a' full. many_of_one_symbol p (suc n, this_symbol) (rw full at (nth_to bytes p 2 ps i way there)))
      before s a
      (record { kinds = sym (append-nil _); symbols = sym (append-nil _); few = few })

all_more : {A : Type 0} (P : A → Type 0) (xs : List A) (y : A) → AllByRecursion P xs → P y → AllByRecursion P (xs ++ y ∷ [])
all_more P [] y h e = (e, tt)
all_more P (x ∷ xs) y h e = (h.0, all_more P xs y h.1 e)

joined_more : (places : List SymbolPlaces) (s : SymbolPlaces) → joined (map symbol_attributes (places ++ s ∷ [])) ≡ joined (map symbol_attributes places) ++ s.attributes
joined_more [] s = append-nil s.attributes
joined_more (p ∷ places) s = rw (joined_more places s) (sym (append_assoc p.attributes (joined (map symbol_attributes places)) s.attributes))

firsts_more : (a : ℕ) (places : List SymbolPlaces) (s : SymbolPlaces) → firsts a (places ++ s ∷ []) ≡ firsts a places ++ (a + length (joined (map symbol_attributes places))) ∷ []
firsts_more a [] s = let e : a ≡ a + 0 = omega arith in ap (λ n. n ∷ []) e
firsts_more a (p ∷ places) s =
    let e : a + length p.attributes + length (joined (map symbol_attributes places)) ≡ a + length (p.attributes ++ joined (map symbol_attributes places)) = simp length-append (omega arith) in
    ap (λ l. a ∷ l) (firsts_more (a + length p.attributes) places s ∙ ap (λ n. firsts (a + length p.attributes) places ++ n ∷ []) e)

owners_more : (n : ℕ) (places : List SymbolPlaces) (s : SymbolPlaces) → owners n (places ++ s ∷ []) ≡ owners n places ++ replicate (length s.attributes) (n + length places)
owners_more n [] s = let e : n ≡ n + 0 = omega arith in append-nil (replicate (length s.attributes) n) ∙ ap (λ m. replicate (length s.attributes) m) e
owners_more n (p ∷ places) s =
    let e : suc n + length places ≡ n + suc (length places) = omega arith in
    rw (owners_more (suc n) places s) (rw e (sym (append_assoc (replicate (length p.attributes) n) (owners (suc n) places) (replicate (length s.attributes) (n + suc (length places))))))

-- the symbols that were read, with their attributes
pub record Gathers (bytes : List ℕ) (ps : List ℕ) (found : Gathered) : Type 0 where
  pub places : List SymbolPlaces
  pub are : map symbol_place places ≡ ps
  pub chains : AllByRecursion (ChainedSymbol bytes) places
  pub written : Written bytes places found.symbols found.attributes
  pub few : length found.attributes ≤ 64

gathers_more : (bytes : List ℕ) (ps : List ℕ) (found : Gathered) (g : Gathers bytes ps found) (i : ℕ) (kind : SymbolKind) → symbol_word kind ≡ word bytes i 1 → (qs : List ℕ) (after : List Attribute)
    → Chain bytes (word bytes i 2) qs → Added bytes (suc (length found.symbols)) found.attributes qs after
    → Gathers bytes (ps ++ i ∷ []) (record {
      symbols = found.symbols ++ record { kind = kind; first = suc (length found.attributes); count = length after - length found.attributes } ∷ [];
      attributes = after;
    })
gathers_more bytes ps found g i kind w qs after chain added =
    let old = g.written in
    let s : SymbolPlaces = record { place = i; attributes = qs } in
    let places = g.places in
    let l = added_length bytes (suc (length found.symbols)) found.attributes qs after added in
    let c : length after - length found.attributes ≡ length qs = omega arith in
    let m : length found.attributes ≡ length (joined (map symbol_attributes places)) = simp length-map at (ap length old.attribute_kinds) in
    let f : suc (length found.attributes) ≡ 1 + length (joined (map symbol_attributes places)) = omega arith in
    let k : length found.symbols ≡ length places = simp length-map at (ap length old.symbol_kinds) in
    let o : 1 + length places ≡ suc (length found.symbols) = omega arith in
    record {
      places = places ++ s ∷ [];
      are = map_push symbol_place places s ∙ ap (λ l. l ++ i ∷ []) g.are;
      chains = all_more (ChainedSymbol bytes) places s g.chains chain;
      written = record {
        symbol_kinds = simp (map_push, old.symbol_kinds, w);
        first_attributes = simp (map_push, old.first_attributes, firsts_more, f);
        counts = simp (map_push, old.counts, c);
        attribute_kinds = rw (joined_more places s) (simp (map-append, added.kinds, old.attribute_kinds));
        attribute_symbols = simp (owners_more, added.symbols, old.attribute_symbols, o);
      };
      few = added.few;
    }

gathered_count : (bytes : List ℕ) (ps : List ℕ) (found : Gathered) (g : Gathers bytes ps found) → length found.symbols ≡ length g.places
gathered_count bytes ps found g = simp length-map at (ap length g.written.symbol_kinds)

module _ (bytes : List ℕ) (admitted : ℕ → ℕ → ℕ → Bool) (short : length bytes ≤ 49152) where
  symbol_comes : (ps : List ℕ) (found : Gathered) (s : List Bool) (i : ℕ) → Onward bytes (word bytes 0 0) ps i → Names bytes i
      → Marks bytes (at_attribute (suc (length ps)) 1) (0 + suc (length ps)) s → Gathers bytes ps found
      → Comes (Fault bytes admitted) (λ found' s'. Marks bytes (at_symbol (suc (suc (length ps)))) (0 + suc (length ps)) s' × Gathers bytes (ps ++ i ∷ []) found') (symbol bytes (word bytes 0 2) found (record_at bytes i) s)
  symbol_comes ps found s i way there a g =
      let n = length found.symbols in
      let count : n ≡ length g.places = gathered_count bytes ps found g in
      let same : length ps ≡ n = sym (ap length g.are) ∙ length-map g.places symbol_place ∙ sym count in
      let on : Onward bytes (word bytes 0 0) (map symbol_place g.places) i = rw g.are way in
      let old : length found.attributes ≡ length (joined (map symbol_attributes g.places)) = simp length-map at (ap length g.written.attribute_kinds) in
      comes_then (Fault bytes admitted) (λ k s'. (symbol_kind (word bytes i 1) ≡ Some k) × Marks bytes (at_attribute (suc n) 1) (0 + suc (length ps)) s') _
      (require (symbol_kind (word bytes i 1)) (BadKind i) s) _
      (comes_require (Fault bytes admitted) _ (symbol_kind (word bytes i 1)) (BadKind i) s
      (λ k e. (e, subst (λ m. Marks bytes (at_attribute (suc m) 1) (0 + suc (length ps)) s) same a))
      (λ none. wrong_symbol (suc (length ps), nth_to bytes 0 0 ps i way there) none))
      (λ k s' h. comes_then (Fault bytes admitted) _ _
      (attributes bytes (suc n) k (eqb (word bytes 0 2) (suc n)) found.attributes (record_at bytes i) s') _
      (attributes_come bytes admitted short g.places g.chains n i (0 + suc (length ps)) on there count k h.0 found.attributes old s' h.1 g.few)
      (λ after s'' end. (
        subst (λ m. Marks bytes (at_symbol (suc (suc m))) (0 + suc (length ps)) s'') (sym same)
            (marks_onward (at_attribute (suc n) (suc (length end.0))) (at_symbol (suc (suc n))) (further (0 ∷ []) (suc n) (suc (length end.0) ∷ []) []) (omega arith) end.2),
        gathers_more bytes ps found g i k (symbol_known (word bytes i 1) k h.0) end.0 after end.1 end.3,
      )))

  pub symbols_come : (s : List Bool) → Marks bytes (at_symbol 1) 0 s
      → Comes (Fault bytes admitted) (λ found s'. (ps : List ℕ) × Chain bytes (word bytes 0 0) ps × Marks bytes (at_symbol (suc (length ps))) (0 + length ps) s' × Gathers bytes ps found)
      (symbols bytes (word bytes 0 2) (word bytes 0 0) s)
  symbols_come s a =
      along_comes bytes admitted short (symbol bytes (word bytes 0 2)) 48 0 0 0
      at_symbol (λ n. at_attribute n 1) (Gathers bytes)
      (λ n h i link. link) (λ n. deeper (0 ∷ suc n ∷ []) 1 []) (λ n. under (0 ∷ suc n ∷ []) 1 [])
      symbol_comes
      (λ ps s' i way there a' full. many_symbols (rw full at (nth_to bytes 0 0 ps i way there)))
      (record { symbols = []; attributes = [] }) s a
      (record {
        places = [];
        are = refl;
        chains = tt;
        few = omega arith;
        written = record { symbol_kinds = refl; first_attributes = refl; counts = refl; attribute_kinds = refl; attribute_symbols = refl };
      })
