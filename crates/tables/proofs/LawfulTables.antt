-- A table that stands for a lawful grammar whose operations are admitted is accepted, as that grammar.
use Rattle.std.proofs.Common.{◌≡◌, ℕ, ◌<◌, ◌≤◌, Bool, false, List, [], ◌∷◌, ◌++◌, map, length, get_or, replicate, Ok, sym, ap, ◌∙◌, subst, ap₂, arith, length-append}
use lib.ListN.{length-map, length-replicate}
use Rattle.std.specs.List.{AllByRecursion}
use Rattle.std.proofs.lemmas.List.{map_push, get_or_default}
use Rattle.std.proofs.ByRecursion.{All-append, All-map, All-get_or}
use Rattle.std.proofs.lemmas.Bool.{cond-true}
use Rattle.grammar.specs.Grammar.{Vocabulary, Rule, Production, Grammar, is_inner}
use Rattle.grammar.specs.Lawful.{target, Defined, LawfulRule, LawfulProduction, Lawful}
use Rattle.tables.specs.Chains.{Sized, sized, and_then, word}
use Rattle.tables.specs.Reading.{after_symbols, value, reading}
use Rattle.tables.specs.Tables.{Chain, SymbolPlaces, RulePlaces, ProductionPlaces, Outline, ChainedSymbol, ChainedRule, ChainedProduction, symbol_place, rule_place, production_place, symbol_records, rule_records, production_records, all_records, rule_at, production_at, occurrence_at, joined, Stands, AdmittedRule, AdmittedProduction, Admitted}
use Rattle.tables.specs.Theorems.{LawfulIsAccepted}
use Rattle.tables.proofs.Free.{free_most}
use Rattle.tables.proofs.Elements.{all_unmap, all_with}
use Rattle.grammar.proofs.Marks.{reach, Fresh, fresh_left, fresh_right, fresh_from_apart, unmarked}
use Rattle.tables.proofs.Marks.{fresh_few}
use Rattle.tables.proofs.Readings.{Held}
use Rattle.tables.proofs.Rules.{rule_rest, GoodRule, may_follow, one_rule_more}
use Rattle.tables.proofs.Productions.{left_of, right_of, GoodProduction, productions_go}
use Rattle.tables.proofs.Symbols.{total, symbols_go}
use Rattle.tables.proofs.Vocabularies.{vocabulary_of}
use Rattle.tables.proofs.Sizes.{is_sized}
use Rattle.tables.proofs.Targets.{Unique, New, new_from_unique, completed, has_from_one}
use Rattle.tables.proofs.Written.{vocabulary_is, good_symbols}

-- every record of the outline is one of the table's
abbrev Low : ℕ → Type 0
Low p = p < 4096

module _ (bytes : List ℕ) (small : length bytes ≤ 49152) where
  low_chain : (ps : List ℕ) (index : ℕ) → Chain bytes index ps → AllByRecursion Low ps
  low_chain [] index c = tt
  low_chain (p ∷ ps) index c = (omega (arith, c.2), low_chain ps (word bytes p 0) c.3)

  low_symbols : (xs : List SymbolPlaces) → AllByRecursion Low (map symbol_place xs) → AllByRecursion (ChainedSymbol bytes) xs → AllByRecursion Low (joined (map symbol_records xs))
  low_symbols [] l c = tt
  low_symbols (x ∷ xs) l c =
      (l.0, All-append Low x.attributes (joined (map symbol_records xs)) (low_chain x.attributes (word bytes x.place 2) c.0) (low_symbols xs l.1 c.1))

  low_rules : (rs : List RulePlaces) → AllByRecursion Low (map rule_place rs) → AllByRecursion (ChainedRule bytes) rs → AllByRecursion Low (joined (map rule_records rs))
  low_rules [] l c = tt
  low_rules (r ∷ rs) l c =
      (l.0, All-append Low r.arguments (joined (map rule_records rs)) (low_chain r.arguments (word bytes r.place 3) c.0) (low_rules rs l.1 c.1))

  low_productions : (xs : List ProductionPlaces) → AllByRecursion Low (map production_place xs) → AllByRecursion (ChainedProduction bytes) xs → AllByRecursion Low (joined (map production_records xs))
  low_productions [] l c = tt
  low_productions (x ∷ xs) l c =
      let rs = joined (map rule_records x.rules) in (
        l.0,
        All-append Low (x.positions ++ rs) (joined (map production_records xs))
            (All-append Low x.positions rs (low_chain x.positions (word bytes x.place 2) c.0.0)
            (low_rules x.rules (low_chain (map rule_place x.rules) (word bytes x.place 3) c.0.1) c.0.2))
            (low_productions xs l.1 c.1),
      )

  all_fresh : (o : Outline) (g : Grammar) → Stands bytes o g → Fresh (all_records o) (replicate 4096 false)
  all_fresh o g s =
      fresh_from_apart (all_records o) (replicate 4096 false)
      (All-append Low (joined (map symbol_records o.symbols)) (joined (map production_records o.productions))
      (low_symbols o.symbols (low_chain (map symbol_place o.symbols) (word bytes 0 0) s.symbol_chain) s.attribute_chains)
      (low_productions o.productions (low_chain (map production_place o.productions) (word bytes 0 1) s.production_chain) s.production_chains))
      s.apart (λ x m. unmarked 4096 x)

-- there is room for every chain of rules
rules_of : (rs : List RulePlaces) → length rs ≤ length (joined (map rule_records rs))
rules_of [] = omega arith
rules_of (r ∷ rs) = simp length-append (omega (arith, rules_of rs))

few_in : (n : ℕ) (xs : List ProductionPlaces) → length (joined (map production_records xs)) ≤ n → AllByRecursion (λ x. length x.rules ≤ n) xs
few_in n [] l = tt
few_in n (x ∷ xs) l =
    let rs = joined (map rule_records x.rules) in
    let a = length-append (x.positions ++ rs) (joined (map production_records xs)) in
    let b = length-append x.positions rs in
    (omega (arith, rules_of x.rules), few_in n xs (omega arith))

few_rules : (o : Outline) → Fresh (all_records o) (replicate 4096 false) → AllByRecursion (λ x. length x.rules ≤ 4096) o.productions
few_rules o f =
    let n = length-replicate 4096 false in
    let all = all_records o in
    few_in 4096 o.productions (omega (arith, length-append (joined (map symbol_records o.symbols)) (joined (map production_records o.productions)), fresh_few all (replicate 4096 false) n f, free_most (replicate 4096 false)))

-- no two rules of a lawful production have one target
unique_targets : (v : Vocabulary) (p : Production) → LawfulProduction v p → Unique (map target p.rules)
unique_targets v p law i j d li lj e =
    let ts = map target p.rules in
    let n = length-map p.rules target in
    let t = get_or ts i d in
    let defined : Defined v p t = All-get_or (Defined v p) ts i d li (All-map (Defined v p) target p.rules (all_defined p.rules law.rules)) in
    let one = law.one_rule t defined in
    let x = one.only i (omega arith) (get_or_default ts i t d li) in
    let y = one.only j (omega arith) (get_or_default ts j t d lj ∙ sym e) in
    x ∙ sym y
  where
    all_defined : (rs : List Rule) → AllByRecursion (LawfulRule v p) rs → AllByRecursion (λ r. Defined v p (target r)) rs
    all_defined [] h = tt
    all_defined (r ∷ rs) h = (h.0.defines, all_defined rs h.1)

module _ (bytes : List ℕ) (small : length bytes ≤ 49152) (v : Vocabulary) (admitted : ℕ → ℕ → ℕ → Bool) where
  module _ (left : ℕ) (right : List ℕ) where
    held_rules : (rs : List RulePlaces) (before : List Rule) → AllByRecursion (GoodRule bytes v admitted left right) rs → New (map target before) (map target (map (rule_at bytes) rs))
        → Held rule_place rule_rest (may_follow bytes v admitted left right) (one_rule_more bytes) rs before
    held_rules [] before g n = tt
    held_rules (r ∷ rs) before g n =
        ((g.0, n.0), held_rules rs (before ++ rule_at bytes r ∷ []) g.1 (subst (λ ts. New ts (map target (map (rule_at bytes) rs))) (sym (map_push target before (rule_at bytes r))) n.1))

  good_rule : (x : ProductionPlaces) (r : RulePlaces) → LawfulRule v (production_at bytes x) (rule_at bytes r) → ChainedRule bytes r → AdmittedRule admitted (rule_at bytes r)
      → GoodRule bytes v admitted (left_of bytes x) (right_of bytes x) r
  good_rule x r law c a = record {
    there = law.defines.0;
    defines = law.defines.1;
    chain = c;
    few = omega (arith, length-map r.arguments (occurrence_at bytes), law.few_arguments);
    uses = law.uses;
    admits = a;
  }

  good_production : (x : ProductionPlaces) → LawfulProduction v (production_at bytes x) → ChainedProduction bytes x → AdmittedProduction admitted (production_at bytes x)
      → length x.rules ≤ 4096 → GoodProduction bytes v admitted x
  good_production x law c a few =
      let l = left_of bytes x in
      let r = right_of bytes x in
      let p = production_at bytes x in
      let rs = map (rule_at bytes) x.rules in
      let lawful = all_unmap (LawfulRule v p) (rule_at bytes) x.rules law.rules in
      let admits = all_unmap (AdmittedRule admitted) (rule_at bytes) x.rules a in
      let good = all_with (λ y. LawfulRule v p (rule_at bytes y) × ChainedRule bytes y) (λ y. AdmittedRule admitted (rule_at bytes y)) (GoodRule bytes v admitted l r)
      (λ y h b. good_rule x y h.0 h.1 b) x.rules
      (all_with (λ y. LawfulRule v p (rule_at bytes y)) (ChainedRule bytes) (λ y. LawfulRule v p (rule_at bytes y) × ChainedRule bytes y) (λ y h k. (h, k)) x.rules lawful c.2) admits in
      record {
        left = law.left;
        position_chain = c.0;
        few_positions = omega (arith, length-map x.positions (λ q. word bytes q 1), law.few_positions);
        right = law.right;
        rule_chain = c.1;
        few_rules = few;
        rules = held_rules l r x.rules [] good (new_from_unique (map target rs) [] (unique_targets v p law));
        completes = completed v l r (map target rs) (λ o h d. has_from_one rs o (law.one_rule o (h, d)));
      }

  good_productions : (xs : List ProductionPlaces) → AllByRecursion (LawfulProduction v) (map (production_at bytes) xs) → AllByRecursion (ChainedProduction bytes) xs → AllByRecursion (AdmittedProduction admitted) (map (production_at bytes) xs)
      → AllByRecursion (λ x. length x.rules ≤ 4096) xs → AllByRecursion (GoodProduction bytes v admitted) xs
  good_productions [] l c a f = tt
  good_productions (x ∷ xs) l c a f = (good_production x l.0 c.0 a.0 f.0, good_productions xs l.1 c.1 a.1 f.1)

module _ (bytes : List ℕ) (admitted : ℕ → ℕ → ℕ → Bool) (o : Outline) (size : Sized bytes) where
  abbrev written_vocabulary : Vocabulary
  written_vocabulary = vocabulary_of bytes (word bytes 0 2) o.symbols

  abbrev written_grammar : Grammar
  written_grammar = record { vocabulary = written_vocabulary; productions = map (production_at bytes) o.productions }

  is_written : (g : Grammar) → Stands bytes o g → Lawful g → (g ≡ written_grammar) × (length g.vocabulary.attributes ≡ total o.symbols)
  is_written g s law =
      let i = vocabulary_is bytes g.vocabulary o.symbols law.vocabulary s.start s.symbol_kinds s.counts s.attribute_kinds in
      (ap₂ (λ v ps. record { vocabulary = v; productions = ps }) i.0 s.productions, i.1)

  accepted : Stands bytes o written_grammar → Lawful written_grammar → Admitted admitted written_grammar → total o.symbols ≤ 64 → length o.symbols ≤ 48 → reading bytes admitted ≡ Ok written_grammar
  accepted s law a fit few =
      let small = size.2 in
      let start = word bytes 0 2 in
      let v = written_vocabulary in
      let blank = replicate 4096 false in
      let sr = joined (map symbol_records o.symbols) in
      let pr = joined (map production_records o.productions) in
      let fresh = all_fresh bytes small o written_grammar s in
      let e₁ = symbols_go bytes small start o.symbols (word bytes 0 0) blank s.symbol_chain few
      (good_symbols bytes start o.symbols law.vocabulary s.symbol_kinds s.attribute_kinds s.attribute_chains) fit (fresh_left sr pr blank fresh) in
      let e₂ = productions_go bytes small v admitted o.productions (word bytes 0 1) (reach sr blank) s.production_chain
      (omega (arith, length-map o.productions (production_at bytes), law.few_productions))
      (good_productions bytes small v admitted o.productions law.productions s.production_chains a (few_rules o fresh)) (fresh_right sr pr blank fresh) in
      cond-true (sized bytes) _ _ (is_sized bytes size)
      ∙ ap (λ r. value (and_then r (after_symbols bytes admitted))) e₁
      ∙ ap value (cond-true (is_inner v start) _ _ law.vocabulary.start)
      ∙ ap (λ r. value (and_then r (λ ps s₁. Ok (record { vocabulary = v; productions = ps }, s₁)))) e₂

pub lawful_is_accepted : LawfulIsAccepted
lawful_is_accepted bytes admitted g o size s law a =
    let i = is_written bytes admitted o size g s law in
    let few : length o.symbols ≤ 48 = omega (arith, length-map g.vocabulary.symbols (λ y. y.count), ap length s.counts, length-map o.symbols (λ x. length x.attributes), law.vocabulary.few_symbols) in
    accepted bytes admitted o size (subst (Stands bytes o) i.0 s) (subst Lawful i.0 law) (subst (Admitted admitted) i.0 a) (omega (arith, i.1, law.vocabulary.few_attributes)) few
    ∙ ap Ok (sym i.0)
