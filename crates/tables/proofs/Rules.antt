-- Reading the positions and the rules of a production.
use Rattle.std.proofs.Common.{◌≡◌, ℕ, ◌≤◌, Bool, true, false, not, ◌&&◌, eqb, List, [], ◌∷◌, ◌++◌, map, length, Ok, sym, refl, ap, ◌∙◌}
use Rattle.std.specs.List.{AllByRecursion}
use Rattle.std.proofs.ByRecursion.{All-map}
use Rattle.std.proofs.lemmas.Bool.{and_parts, and_from, not-true, not_from_false, cond-true, cond-false}
use Rattle.grammar.specs.declared.production.Occurrence.{Occurrence}
use Rattle.grammar.specs.Rules.{has_rule}
use Rattle.grammar.specs.Grammar.{Vocabulary, Rule, is_symbol, occurs, defined}
use Rattle.grammar.specs.Lawful.{target, Inside}
use Rattle.tables.specs.Chains.{and_then, word, record_at, along}
use Rattle.tables.specs.Reading.{position, argument, rule, wants_rule, finished_rule}
use Rattle.tables.specs.Tables.{Chain, RulePlaces, rule_place, occurrence_at, rule_at}
use Rattle.tables.proofs.Elements.{all_unmap}
use Rattle.tables.proofs.Outcomes.{same_value, test_held, test_failed, both_read}
use Rattle.grammar.proofs.Marks.{reach, Fresh}
use Rattle.tables.proofs.Readings.{Sound, Complete}
use Rattle.tables.proofs.Leaves.{gathered_list, all_from_held, held_from_all, itself, nothing, leaf_took, leaves_read, leaves_go}

abbrev pub rule_rest : RulePlaces → List ℕ
rule_rest r = r.arguments

module _ (bytes : List ℕ) where
  abbrev pub stands_at : ℕ → ℕ
  stands_at p = word bytes p 1

  abbrev pub one_rule_more : List Rule → RulePlaces → List Rule
  one_rule_more before r = before ++ rule_at bytes r ∷ []

  -- a list that is read, with the places it is read from
  pub record Listed {Y : Type 0} (f : ℕ → Y) (Q : Y → Type 0) (room index : ℕ) (s : List Bool) (ys : List Y) (s' : List Bool) : Type 0 where
    pub places : List ℕ
    pub chain : Chain bytes index places
    pub few : length places ≤ room
    pub fresh : Fresh places s
    pub gives : ys ≡ map f places
    pub holds : AllByRecursion Q (map f places)
    pub marks : s' ≡ reach places s

  -- Over a vocabulary and the operations that are admitted: the rules of a production with these symbols.
  module _ (v : Vocabulary) (admitted : ℕ → ℕ → ℕ → Bool) (left : ℕ) (right : List ℕ) where
    abbrev pub Usable : Occurrence → Type 0
    Usable o = (occurs v left right o ≡ true) × (defined v o ≡ false)

    pub record GoodRule (r : RulePlaces) : Type 0 where
      pub there : occurs v left right (occurrence_at bytes r.place) ≡ true
      pub defines : defined v (occurrence_at bytes r.place) ≡ true
      pub chain : Chain bytes (word bytes r.place 3) r.arguments
      pub few : length r.arguments ≤ 8
      pub uses : AllByRecursion Usable (map (occurrence_at bytes) r.arguments)
      pub admits : admitted (word bytes r.place 4) (word bytes r.place 5) (length (map (occurrence_at bytes) r.arguments)) ≡ true

    abbrev pub may_follow : List Rule → RulePlaces → Type 0
    may_follow before r = GoodRule r × (has_rule (map target before) (occurrence_at bytes r.place) ≡ false)

module _ (bytes : List ℕ) (small : length bytes ≤ 49152) (v : Vocabulary) (admitted : ℕ → ℕ → ℕ → Bool) where
  -- positions
  abbrev may_be_inside : List ℕ → ℕ → Type 0
  may_be_inside b p = Inside v (stands_at bytes p)

  abbrev one_position : List ℕ → ℕ → List ℕ
  one_position b p = b ++ stands_at bytes p ∷ []

  position_sound : Sound itself nothing may_be_inside one_position bytes small (position bytes v admitted)
  position_sound b p s b' s' e =
      let h = test_held (is_symbol v (word bytes p 1) && not (eqb (word bytes p 1) v.start)) _ _ e in
      let i = and_parts (is_symbol v (word bytes p 1)) (not (eqb (word bytes p 1) v.start)) h.0 in
      leaf_took may_be_inside one_position p b s b' s' (i.0, not-true _ i.1) h.1

  position_complete : Complete itself nothing may_be_inside one_position bytes small (position bytes v admitted)
  position_complete b p s h f = cond-true (is_symbol v (word bytes p 1) && not (eqb (word bytes p 1) v.start)) _ _ (and_from _ _ h.0 (not_from_false _ h.1))

  pub positions_read : (holder index : ℕ) (s : List Bool) (right : List ℕ) (s' : List Bool)
      → along bytes (position bytes v admitted) 8 [] holder index s ≡ Ok (right, s') → Listed bytes (stands_at bytes) (Inside v) 8 index s right s'
  positions_read holder index s right s' e =
      let w = leaves_read may_be_inside one_position bytes small (position bytes v admitted) position_sound 8 [] holder index s right s' e in
      record {
        places = w.places;
        chain = w.chain;
        few = w.few;
        fresh = w.fresh;
        gives = w.gives ∙ gathered_list itself nothing may_be_inside (stands_at bytes) w.places [];
        holds = All-map (Inside v) (stands_at bytes) w.places (all_from_held itself nothing (λ p. Inside v (stands_at bytes p)) one_position w.places [] w.holds);
        marks = w.marks;
      }

  pub positions_go : (ps : List ℕ) (holder index : ℕ) (s : List Bool) → Chain bytes index ps → length ps ≤ 8 → AllByRecursion (Inside v) (map (stands_at bytes) ps) → Fresh ps s
      → along bytes (position bytes v admitted) 8 [] holder index s ≡ Ok (map (stands_at bytes) ps, reach ps s)
  positions_go ps holder index s c few h f =
      leaves_go may_be_inside one_position bytes small (position bytes v admitted) position_complete ps 8 [] holder index s c few
      (held_from_all itself nothing (λ p. Inside v (stands_at bytes p)) one_position ps [] (all_unmap (Inside v) (stands_at bytes) ps h)) f
      ∙ ap (λ l. Ok (l, reach ps s)) (gathered_list itself nothing may_be_inside (stands_at bytes) ps [])

  module _ (left : ℕ) (right : List ℕ) where
    -- arguments
    abbrev may_be_argument : List Occurrence → ℕ → Type 0
    may_be_argument b p = Usable bytes v admitted left right (occurrence_at bytes p)

    abbrev one_argument : List Occurrence → ℕ → List Occurrence
    one_argument b p = b ++ occurrence_at bytes p ∷ []

    argument_sound : Sound itself nothing may_be_argument one_argument bytes small (argument bytes v admitted left right)
    argument_sound b p s b' s' e =
        let h = test_held (occurs v left right (occurrence_at bytes p)) _ _ e in
        let i = test_failed (defined v (occurrence_at bytes p)) _ _ h.1 in
        leaf_took may_be_argument one_argument p b s b' s' (h.0, i.0) i.1

    argument_complete : Complete itself nothing may_be_argument one_argument bytes small (argument bytes v admitted left right)
    argument_complete b p s h f =
        cond-true (occurs v left right (occurrence_at bytes p)) _ _ h.0 ∙ cond-false (defined v (occurrence_at bytes p)) _ _ h.1

    arguments_read : (holder index : ℕ) (s : List Bool) (os : List Occurrence) (s' : List Bool)
        → along bytes (argument bytes v admitted left right) 8 [] holder index s ≡ Ok (os, s') → Listed bytes (occurrence_at bytes) (Usable bytes v admitted left right) 8 index s os s'
    arguments_read holder index s os s' e =
        let w = leaves_read may_be_argument one_argument bytes small (argument bytes v admitted left right) argument_sound 8 [] holder index s os s' e in
        record {
          places = w.places;
          chain = w.chain;
          few = w.few;
          fresh = w.fresh;
          gives = w.gives ∙ gathered_list itself nothing may_be_argument (occurrence_at bytes) w.places [];
          holds = All-map (Usable bytes v admitted left right) (occurrence_at bytes) w.places (all_from_held itself nothing (λ p. Usable bytes v admitted left right (occurrence_at bytes p)) one_argument w.places [] w.holds);
          marks = w.marks;
        }

    arguments_go : (ps : List ℕ) (holder index : ℕ) (s : List Bool) → Chain bytes index ps → length ps ≤ 8 → AllByRecursion (Usable bytes v admitted left right) (map (occurrence_at bytes) ps) → Fresh ps s
        → along bytes (argument bytes v admitted left right) 8 [] holder index s ≡ Ok (map (occurrence_at bytes) ps, reach ps s)
    arguments_go ps holder index s c few h f =
        leaves_go may_be_argument one_argument bytes small (argument bytes v admitted left right) argument_complete ps 8 [] holder index s c few
        (held_from_all itself nothing (λ p. Usable bytes v admitted left right (occurrence_at bytes p)) one_argument ps [] (all_unmap (Usable bytes v admitted left right) (occurrence_at bytes) ps h)) f
        ∙ ap (λ l. Ok (l, reach ps s)) (gathered_list itself nothing may_be_argument (occurrence_at bytes) ps [])

    pub rule_sound : Sound rule_place rule_rest (may_follow bytes v admitted left right) (one_rule_more bytes) bytes small (rule bytes v admitted left right)
    rule_sound b p s b' s' e =
        let o = occurrence_at bytes p in
        let h = test_held (occurs v left right o) _ _ e in
        let i = test_held (wants_rule bytes v admitted b o) _ _ h.1 in
        let d = and_parts (defined v o) (not (has_rule (map target b) o)) i.0 in
        let g = both_read (along bytes (argument bytes v admitted left right) 8 [] p (word bytes p 3) s) (finished_rule bytes v admitted b (record_at bytes p)) i.1 in
        let a = arguments_read p (word bytes p 3) s g.0 g.1 g.2 in
        let j = test_held (admitted (word bytes p 4) (word bytes p 5) (length g.0)) _ _ g.3 in
        record {
          item = record { place = p; arguments = a.places };
          at = refl;
          holds = (record { there = h.0; defines = d.0; chain = a.chain; few = a.few; uses = a.holds; admits = rw a.gives at j.0 }, not-true _ d.1);
          fresh = a.fresh;
          gives = sym (ap (λ y. y.0) (same_value j.1)) ∙ ap (λ os. b ++ record { target = o; operation = word bytes p 4; constant = word bytes p 5; arguments = os } ∷ []) a.gives;
          marks = sym (ap (λ y. y.1) (same_value j.1)) ∙ a.marks;
        }

    pub rule_complete : Complete rule_place rule_rest (may_follow bytes v admitted left right) (one_rule_more bytes) bytes small (rule bytes v admitted left right)
    rule_complete b r s h f =
        let p = r.place in
        let o = occurrence_at bytes p in
        let g = h.0 in
        cond-true (occurs v left right o) _ _ g.there
        ∙ cond-true (wants_rule bytes v admitted b o) _ _ (and_from _ _ g.defines (not_from_false _ h.1))
        ∙ ap (λ x. and_then x (finished_rule bytes v admitted b (record_at bytes p))) (arguments_go r.arguments p (word bytes p 3) s g.chain g.few g.uses f)
        ∙ cond-true (admitted (word bytes p 4) (word bytes p 5) (length (map (occurrence_at bytes) r.arguments))) _ _ g.admits
