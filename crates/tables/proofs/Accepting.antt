-- A grammar that is read is lawful and admitted, and the table stands for it.
use Rattle.std.proofs.Common.{◌≡◌, ℕ, ◌≤◌, Bool, true, false, List, [], ◌∷◌, ◌++◌, map, length, replicate, Ok, sym, refl, ap, ◌∙◌, subst, arith}
use lib.ListN.{length-map, length-replicate}
use Rattle.std.specs.List.{AllByRecursion}
use Rattle.refusal.specs.declared.Refusal.TheVariants.{TableSize, NoSuch}
use Rattle.std.proofs.lemmas.List.{map_push}
use Rattle.std.proofs.ByRecursion.{All-map, All-weaker}
use Rattle.grammar.specs.Grammar.{Vocabulary, Rule, Production, Grammar, is_inner}
use Rattle.grammar.specs.Lawful.{target, LawfulRule, LawfulProduction, Lawful}
use Rattle.tables.specs.Chains.{Sized, sized, and_then, word}
use Rattle.tables.specs.Reading.{Gathered, symbols, productions, after_symbols, whole, value}
use Rattle.tables.specs.Tables.{RulePlaces, ProductionPlaces, Outline, ChainedRule, ChainedProduction, rule_place, rule_at, production_at, production_records, symbol_records, occurrence_at, joined, all_records, Stands, AdmittedRule, AdmittedProduction, Admitted}
use Rattle.tables.specs.Theorems.{AcceptedIsLawful}
use Rattle.tables.proofs.Sizes.{sized_is}
use Rattle.tables.proofs.Outcomes.{same_value, test_held, both_read, had_value}
use Rattle.grammar.proofs.Marks.{Fresh, fresh_append, apart_from_fresh}
use Rattle.tables.proofs.Readings.{Held}
use Rattle.tables.proofs.Rules.{rule_rest, GoodRule, may_follow, one_rule_more}
use Rattle.tables.proofs.Productions.{left_of, right_of, GoodProduction, Produced, productions_read}
use Rattle.tables.proofs.Symbols.{written, Named, symbols_read}
use Rattle.tables.proofs.Vocabularies.{vocabulary_of, lawful_vocabulary, symbol_words, symbol_counts, attribute_words, symbol_chains}
use Rattle.tables.proofs.Targets.{New, unique_from_new, all_set, one_rule}

module _ (bytes : List ℕ) (small : length bytes ≤ 49152) (v : Vocabulary) (admitted : ℕ → ℕ → ℕ → Bool) where
  -- the rules of a production
  module _ (left : ℕ) (right : List ℕ) where
    good_rules : (rs : List RulePlaces) (before : List Rule)
        → Held rule_place rule_rest (may_follow bytes v admitted left right) (one_rule_more bytes) rs before
        → AllByRecursion (GoodRule bytes v admitted left right) rs
    good_rules [] before h = tt
    good_rules (r ∷ rs) before h = (h.0.0, good_rules rs (before ++ rule_at bytes r ∷ []) h.1)

    new_targets : (rs : List RulePlaces) (before : List Rule)
        → Held rule_place rule_rest (may_follow bytes v admitted left right) (one_rule_more bytes) rs before
        → New (map target before) (map target (map (rule_at bytes) rs))
    new_targets [] before h = tt
    new_targets (r ∷ rs) before h =
        (h.0.1, subst (λ ts. New ts (map target (map (rule_at bytes) rs))) (map_push target before (rule_at bytes r)) (new_targets rs (before ++ rule_at bytes r ∷ []) h.1))

  lawful_rule : (x : ProductionPlaces) (r : RulePlaces) → GoodRule bytes v admitted (left_of bytes x) (right_of bytes x) r → LawfulRule v (production_at bytes x) (rule_at bytes r)
  lawful_rule x r g = record {
    defines = (g.there, g.defines);
    few_arguments = omega (arith, length-map r.arguments (occurrence_at bytes), g.few);
    uses = g.uses;
  }

  lawful_production : (x : ProductionPlaces) → GoodProduction bytes v admitted x → LawfulProduction v (production_at bytes x)
  lawful_production x g =
      let l = left_of bytes x in
      let r = right_of bytes x in
      let rs = map (rule_at bytes) x.rules in
      record {
        left = g.left;
        few_positions = omega (arith, length-map x.positions (λ q. word bytes q 1), g.few_positions);
        right = g.right;
        rules = All-map (LawfulRule v (production_at bytes x)) (rule_at bytes) x.rules
            (All-weaker (GoodRule bytes v admitted l r) (λ y. LawfulRule v (production_at bytes x) (rule_at bytes y)) (lawful_rule x) x.rules (good_rules l r x.rules [] g.rules));
        one_rule = λ o d. one_rule rs o (unique_from_new (map target rs) (new_targets l r x.rules [] g.rules)) (all_set v l r (map target rs) g.completes o d.0 d.1);
      }

  admitted_production : (x : ProductionPlaces) → GoodProduction bytes v admitted x → AdmittedProduction admitted (production_at bytes x)
  admitted_production x g =
      let l = left_of bytes x in
      let r = right_of bytes x in
      All-map (AdmittedRule admitted) (rule_at bytes) x.rules
      (All-weaker (GoodRule bytes v admitted l r) (λ y. AdmittedRule admitted (rule_at bytes y)) (λ y h. h.admits) x.rules (good_rules l r x.rules [] g.rules))

  chained_production : (x : ProductionPlaces) → GoodProduction bytes v admitted x → ChainedProduction bytes x
  chained_production x g =
      let l = left_of bytes x in
      let r = right_of bytes x in (
        g.position_chain,
        g.rule_chain,
        All-weaker (GoodRule bytes v admitted l r) (ChainedRule bytes) (λ y h. h.chain) x.rules (good_rules l r x.rules [] g.rules),
      )

abbrev Outcome : List ℕ → (ℕ → ℕ → ℕ → Bool) → Grammar → Type 0
Outcome bytes admitted g = Sized bytes × Lawful g × Admitted admitted g × ((o : Outline) × Stands bytes o g)

module _ (bytes : List ℕ) (admitted : ℕ → ℕ → ℕ → Bool) (size : Sized bytes) where
  abbrev start_of : ℕ
  start_of = word bytes 0 2

  abbrev blank : List Bool
  blank = replicate 4096 false

  abbrev small : length bytes ≤ 49152
  small = size.2

  -- the grammar that the records write
  module _ (found : Gathered) (s : List Bool) (y : Named bytes small start_of (word bytes 0 0) blank found s) where
    abbrev names_of : Vocabulary
    names_of = vocabulary_of bytes start_of y.places

    module _ (ps : List Production) (s' : List Bool) (p : Produced bytes small names_of admitted (word bytes 0 1) s ps s') where
      abbrev outline : Outline
      outline = record { symbols = y.places; productions = p.places }

      abbrev grammar : Grammar
      grammar = record { vocabulary = names_of; productions = map (production_at bytes) p.places }

      all_fresh : Fresh (all_records outline) blank
      all_fresh =
          let sr = joined (map symbol_records y.places) in
          let pr = joined (map production_records p.places) in
          fresh_append sr pr blank y.fresh (subst (Fresh pr) y.marks p.fresh)

      lawful : is_inner names_of start_of ≡ true → Lawful grammar
      lawful inner = record {
        vocabulary = lawful_vocabulary bytes start_of y.places y.few y.fit y.holds inner;
        few_productions = omega (arith, length-map p.places (production_at bytes), p.few);
        productions = All-map (LawfulProduction names_of) (production_at bytes) p.places
            (All-weaker (GoodProduction bytes names_of admitted) (λ x. LawfulProduction names_of (production_at bytes x)) (lawful_production bytes small names_of admitted) p.places p.holds);
      }

      admits : Admitted admitted grammar
      admits = All-map (AdmittedProduction admitted) (production_at bytes) p.places
          (All-weaker (GoodProduction bytes names_of admitted) (λ x. AdmittedProduction admitted (production_at bytes x)) (admitted_production bytes small names_of admitted) p.places p.holds)

      stands : Stands bytes outline grammar
      stands = record {
        symbol_chain = y.chain;
        attribute_chains = symbol_chains bytes start_of y.places 1 y.holds;
        production_chain = p.chain;
        production_chains = All-weaker (GoodProduction bytes names_of admitted) (ChainedProduction bytes) (chained_production bytes small names_of admitted) p.places p.holds;
        apart = apart_from_fresh (all_records outline) blank (length-replicate 4096 false) all_fresh;
        start = refl;
        symbol_kinds = symbol_words bytes start_of y.places 1 1 y.holds;
        counts = symbol_counts bytes y.places 1;
        attribute_kinds = attribute_words bytes start_of y.places 1 y.holds;
        productions = refl;
      }

      outcome_of : (g : Grammar) → is_inner names_of start_of ≡ true → record { vocabulary = names_of; productions = ps } ≡ g → Outcome bytes admitted g
      outcome_of g inner e =
          let is : grammar ≡ g = ap (λ qs. record { vocabulary = names_of; productions = qs }) (sym p.gives) ∙ e in
          subst (Outcome bytes admitted) is (size, lawful inner, admits, (outline, stands))

    after : (g : Grammar) (s' : List Bool) → after_symbols bytes admitted (written bytes small start_of y.places) s ≡ Ok (g, s') → Outcome bytes admitted g
    after g s' e =
        let h = test_held (is_inner names_of start_of) (and_then (productions bytes names_of admitted (word bytes 0 1) s) (λ ps s₁. Ok (record { vocabulary = names_of; productions = ps }, s₁))) (NoSuch 0) e in
        let b = both_read (productions bytes names_of admitted (word bytes 0 1) s) (λ ps s₁. Ok (record { vocabulary = names_of; productions = ps }, s₁)) h.1 in
        outcome_of b.0 b.1 (productions_read bytes small names_of admitted (word bytes 0 1) s b.0 b.1 b.2) g h.0 (ap (λ z. z.0) (same_value b.3))

  rest_read : (g : Grammar) (s' : List Bool) (found : Gathered) (s : List Bool)
      → symbols bytes start_of (word bytes 0 0) blank ≡ Ok (found, s) → after_symbols bytes admitted found s ≡ Ok (g, s') → Outcome bytes admitted g
  rest_read g s' found s e₁ e₂ =
      let y = symbols_read bytes small start_of (word bytes 0 0) blank found s e₁ in
      after found s y g s' (sym (ap (λ f. after_symbols bytes admitted f s) y.gives) ∙ e₂)

pub accepted_is_lawful : AcceptedIsLawful
accepted_is_lawful bytes admitted g e =
    let h = test_held (sized bytes) (value (whole bytes admitted (replicate 4096 false))) TableSize e in
    let w = had_value (whole bytes admitted (replicate 4096 false)) h.1 in
    let b = both_read (symbols bytes (word bytes 0 2) (word bytes 0 0) (replicate 4096 false)) (after_symbols bytes admitted) w.1 in
    rest_read bytes admitted (sized_is bytes h.0) g w.0 b.0 b.1 b.2 b.3
