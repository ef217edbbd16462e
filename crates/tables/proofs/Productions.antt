-- Reading the productions.
use Rattle.std.proofs.Common.{◌≡◌, ℕ, ◌≤◌, Bool, true, List, [], ◌∷◌, ◌++◌, map, length, Ok, sym, refl, ap, ◌∙◌, ap₂}
use Rattle.std.specs.List.{AllByRecursion}
use Rattle.std.proofs.lemmas.Bool.{cond-true}
use Rattle.grammar.specs.Grammar.{Vocabulary, Production, is_inner, complete}
use Rattle.grammar.specs.Lawful.{target, Inside}
use Rattle.tables.specs.Chains.{and_then, word, record_at, along}
use Rattle.tables.specs.Reading.{position, rule, production, finished_production, productions}
use Rattle.tables.specs.Tables.{Chain, ProductionPlaces, production_place, production_records, rule_place, rule_records, rule_at, production_at, joined}
use Rattle.tables.proofs.Outcomes.{same_value, test_held, both_read}
use Rattle.grammar.proofs.Marks.{reach, Fresh, reach_append, fresh_append, fresh_left, fresh_right}
use Rattle.tables.proofs.Readings.{Held, Took, Sound, Complete, chain_read, chain_goes}
use Rattle.tables.proofs.Leaves.{gathered_list, all_from_held, held_from_all}
use Rattle.tables.proofs.Rules.{positions_read, positions_go, rule_rest, may_follow, one_rule_more, rule_sound, rule_complete}

abbrev pub production_rest : ProductionPlaces → List ℕ
production_rest x = x.positions ++ joined (map rule_records x.rules)

module _ (bytes : List ℕ) where
  abbrev pub left_of : ProductionPlaces → ℕ
  left_of x = word bytes x.place 1

  abbrev pub right_of : ProductionPlaces → List ℕ
  right_of x = map (λ q. word bytes q 1) x.positions

  module _ (v : Vocabulary) (admitted : ℕ → ℕ → ℕ → Bool) where
    pub record GoodProduction (x : ProductionPlaces) : Type 0 where
      pub left : is_inner v (left_of x) ≡ true
      pub position_chain : Chain bytes (word bytes x.place 2) x.positions
      pub few_positions : length x.positions ≤ 8
      pub right : AllByRecursion (Inside v) (right_of x)
      pub rule_chain : Chain bytes (word bytes x.place 3) (map rule_place x.rules)
      pub few_rules : length x.rules ≤ 4096
      pub rules : Held rule_place rule_rest (may_follow bytes v admitted (left_of x) (right_of x)) (one_rule_more bytes) x.rules []
      pub completes : complete v (left_of x) (right_of x) (map target (map (rule_at bytes) x.rules)) ≡ true

module _ (bytes : List ℕ) (small : length bytes ≤ 49152) (v : Vocabulary) (admitted : ℕ → ℕ → ℕ → Bool) where
  abbrev may_be_production : List Production → ProductionPlaces → Type 0
  may_be_production b x = GoodProduction bytes v admitted x

  abbrev one_production : List Production → ProductionPlaces → List Production
  one_production b x = b ++ production_at bytes x ∷ []

  production_sound : Sound production_place production_rest may_be_production one_production bytes small (production bytes v admitted)
  production_sound b p s b' s' e =
      let l = word bytes p 1 in
      let h = test_held (is_inner v l) _ _ e in
      let g = both_read (along bytes (position bytes v admitted) 8 [] p (word bytes p 2) s)
      (λ right s₁. and_then (along bytes (rule bytes v admitted l right) 4096 [] p (word bytes p 3) s₁) (finished_production bytes v admitted b (record_at bytes p) right)) h.1 in
      let q = positions_read bytes small v admitted p (word bytes p 2) s g.0 g.1 g.2 in
      from b p s b' s' h.0 q.places q.chain q.few q.fresh q.holds
      (sym (ap₂ (λ right s₁. and_then (along bytes (rule bytes v admitted l right) 4096 [] p (word bytes p 3) s₁) (finished_production bytes v admitted b (record_at bytes p) right)) q.gives q.marks) ∙ g.3)
    where
      from : (b : List Production) (p : ℕ) (s : List Bool) (b' : List Production) (s' : List Bool) → is_inner v (word bytes p 1) ≡ true
          → (ps : List ℕ) → Chain bytes (word bytes p 2) ps → length ps ≤ 8 → Fresh ps s → AllByRecursion (Inside v) (map (λ q. word bytes q 1) ps)
          → and_then (along bytes (rule bytes v admitted (word bytes p 1) (map (λ q. word bytes q 1) ps)) 4096 [] p (word bytes p 3) (reach ps s)) (finished_production bytes v admitted b (record_at bytes p) (map (λ q. word bytes q 1) ps)) ≡ Ok (b', s')
          → Took production_place production_rest may_be_production one_production p b s b' s'
      from b p s b' s' inner ps chain few fresh inside e =
          let l = word bytes p 1 in
          let right = map (λ q. word bytes q 1) ps in
          let g = both_read (along bytes (rule bytes v admitted l right) 4096 [] p (word bytes p 3) (reach ps s)) (finished_production bytes v admitted b (record_at bytes p) right) e in
          let w = chain_read rule_place rule_rest (may_follow bytes v admitted l right) (one_rule_more bytes) bytes small (rule bytes v admitted l right)
          (rule_sound bytes small v admitted l right) 4096 [] p (word bytes p 3) (reach ps s) g.0 g.1 g.2 in
          let j = test_held (complete v l right (map target g.0)) _ _ g.3 in
          let rules : g.0 ≡ map (rule_at bytes) w.items = w.gives ∙ gathered_list rule_place rule_rest (may_follow bytes v admitted l right) (rule_at bytes) w.items [] in
          record {
            item = record { place = p; positions = ps; rules = w.items };
            at = refl;
            holds = record {
              left = inner;
              position_chain = chain;
              few_positions = few;
              right = inside;
              rule_chain = w.chain;
              few_rules = w.few;
              rules = w.holds;
              completes = rw rules at j.0;
            };
            fresh = fresh_append ps (joined (map rule_records w.items)) s fresh w.fresh;
            gives = sym (ap (λ y. y.0) (same_value j.1)) ∙ ap (λ rs. b ++ record { left = l; right = right; rules = rs } ∷ []) rules;
            marks = sym (ap (λ y. y.1) (same_value j.1)) ∙ w.marks ∙ sym (reach_append ps (joined (map rule_records w.items)) s);
          }

  production_complete : Complete production_place production_rest may_be_production one_production bytes small (production bytes v admitted)
  production_complete b x s h f =
      let p = x.place in
      let l = left_of bytes x in
      let right = right_of bytes x in
      let ps = x.positions in
      let rs = joined (map rule_records x.rules) in
      cond-true (is_inner v l) _ _ h.left
      ∙ ap (λ r. and_then r (λ right' s₁. and_then (along bytes (rule bytes v admitted l right') 4096 [] p (word bytes p 3) s₁) (finished_production bytes v admitted b (record_at bytes p) right')))
      (positions_go bytes small v admitted ps p (word bytes p 2) s h.position_chain h.few_positions h.right (fresh_left ps rs s f))
      ∙ ap (λ r. and_then r (finished_production bytes v admitted b (record_at bytes p) right))
      (chain_goes rule_place rule_rest (may_follow bytes v admitted l right) (one_rule_more bytes) bytes small (rule bytes v admitted l right)
      (rule_complete bytes small v admitted l right) x.rules 4096 [] p (word bytes p 3) (reach ps s) h.rule_chain h.few_rules h.rules (fresh_right ps rs s f)
      ∙ ap (λ g. Ok (g, reach rs (reach ps s))) (gathered_list rule_place rule_rest (may_follow bytes v admitted l right) (rule_at bytes) x.rules []))
      ∙ cond-true (complete v l right (map target (map (rule_at bytes) x.rules))) _ _ h.completes
      ∙ ap (λ m. Ok (b ++ production_at bytes x ∷ [], m)) (sym (reach_append ps rs s))

  pub record Produced (index : ℕ) (s : List Bool) (ps : List Production) (s' : List Bool) : Type 0 where
    pub places : List ProductionPlaces
    pub chain : Chain bytes index (map production_place places)
    pub few : length places ≤ 128
    pub holds : AllByRecursion (GoodProduction bytes v admitted) places
    pub fresh : Fresh (joined (map production_records places)) s
    pub gives : ps ≡ map (production_at bytes) places
    pub marks : s' ≡ reach (joined (map production_records places)) s

  pub productions_read : (index : ℕ) (s : List Bool) (ps : List Production) (s' : List Bool) → productions bytes v admitted index s ≡ Ok (ps, s') → Produced index s ps s'
  productions_read index s ps s' e =
      let w = chain_read production_place production_rest may_be_production one_production bytes small (production bytes v admitted) production_sound 128 [] 0 index s ps s' e in
      record {
        places = w.items;
        chain = w.chain;
        few = w.few;
        fresh = w.fresh;
        marks = w.marks;
        gives = w.gives ∙ gathered_list production_place production_rest may_be_production (production_at bytes) w.items [];
        holds = all_from_held production_place production_rest (GoodProduction bytes v admitted) one_production w.items [] w.holds;
      }

  pub productions_go : (xs : List ProductionPlaces) (index : ℕ) (s : List Bool) → Chain bytes index (map production_place xs) → length xs ≤ 128 → AllByRecursion (GoodProduction bytes v admitted) xs → Fresh (joined (map production_records xs)) s
      → productions bytes v admitted index s ≡ Ok (map (production_at bytes) xs, reach (joined (map production_records xs)) s)
  productions_go xs index s c few h f =
      chain_goes production_place production_rest may_be_production one_production bytes small (production bytes v admitted) production_complete xs 128 [] 0 index s c few
      (held_from_all production_place production_rest (GoodProduction bytes v admitted) one_production xs [] h) f
      ∙ ap (λ g. Ok (g, reach (joined (map production_records xs)) s)) (gathered_list production_place production_rest may_be_production (production_at bytes) xs [])
