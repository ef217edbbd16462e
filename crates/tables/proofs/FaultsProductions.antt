-- Reading productions with their positions, rules and arguments: what is refused is a fault.
use Rattle.std.proofs.Common.{◌≡◌, ℕ, suc, ◌+◌, ◌≤◌, Bool, true, false, not, ◌&&◌, eqb, List, [], ◌∷◌, ◌++◌, map, length, refl, inl, inr, ⊎_elim, arith}
use Rattle.std.proofs.lemmas.List.{length_push, map_push}
use Rattle.std.proofs.lemmas.Bool.{and_cases, not-false, eqb-true}
use Rattle.grammar.specs.declared.production.Occurrence.{Occurrence}
use Rattle.grammar.specs.Rules.{has_rule}
use Rattle.grammar.specs.Grammar.{Vocabulary, Rule, Production, is_symbol, is_inner, occurs, defined, complete}
use Rattle.grammar.specs.Lawful.{target}
use Rattle.tables.specs.Chains.{word, record_at, along}
use Rattle.tables.specs.Reading.{position, argument, wants_rule, finished_rule, rule, finished_production, production, productions}
use Rattle.tables.specs.Tables.{Chain, occurrence_at}
use Rattle.tables.specs.Faults.{Names, Onward, at_production, at_position, at_rule, at_argument, ProductionRecord, RuleRecord, RightSide, Writes, Fault, many_productions, many_positions, many_arguments, wrong_left, wrong_position, wrong_target, wrong_argument, WrongRule, not_defined, second_rule, no_rule}
use Rattle.tables.proofs.FaultsComes.{Comes, comes_then, comes_cond}
use Rattle.tables.proofs.FaultsChains.{Marks, marks_onward, nth_to, along_comes}
use Rattle.tables.proofs.FaultsSpots.{deeper, under, further, next_one}
use Rattle.tables.proofs.FaultsRules.{has_rule_in, earlier, lacks_rule}

module _ (bytes : List ℕ) (admitted : ℕ → ℕ → ℕ → Bool) (short : length bytes ≤ 49152) (v : Vocabulary) (writes : Writes bytes v)
    (n q : ℕ) (this : ProductionRecord bytes (suc n) q) where
  abbrev Right : List ℕ → List ℕ → Type 0
  Right ps right = right ≡ map (λ p. word bytes p 1) ps

  position_comes : (base : ℕ) (ps right : List ℕ) (s : List Bool) (i : ℕ) → Onward bytes (word bytes q 2) ps i → Names bytes i
      → Marks bytes (at_position (suc n) (suc (suc (length ps)))) (base + suc (length ps)) s → Right ps right
      → Comes (Fault bytes admitted) (λ right' s'. Marks bytes (at_position (suc n) (suc (suc (length ps)))) (base + suc (length ps)) s' × Right (ps ++ i ∷ []) right') (position bytes v admitted right (record_at bytes i) s)
  position_comes base ps right s i way there a h =
      comes_cond (Fault bytes admitted) _ (is_symbol v (word bytes i 1) && not (eqb (word bytes i 1) v.start)) _ _
      (λ _. (a, simp (map_push, h)))
      (λ f. (
        v,
        writes,
        wrong_position q (suc (length ps)) (suc n, this) (nth_to bytes q 2 ps i way there)
            (⊎_elim (λ no. inl no) (λ starts. inr (eqb-true (word bytes i 1) v.start (not-false _ starts)))
            (and_cases (is_symbol v (word bytes i 1)) (not (eqb (word bytes i 1) v.start)) f)),
      ))

  positions_come : (base : ℕ) (s : List Bool) → Marks bytes (at_position (suc n) 1) base s
      → Comes (Fault bytes admitted) (λ right s'. (ps : List ℕ) × Chain bytes (word bytes q 2) ps × Marks bytes (at_position (suc n) (suc (length ps))) (base + length ps) s' × Right ps right)
      (along bytes (position bytes v admitted) 8 [] q (word bytes q 2) s)
  positions_come base s a =
      along_comes bytes admitted short (position bytes v admitted) 8 q 2 base
      (at_position (suc n)) (λ m. at_position (suc n) (suc m)) Right
      (λ m h i link. (q, this, link)) (λ m. further (1 ∷ suc n ∷ 0 ∷ []) (suc m) [] []) (λ m. next_one (1 ∷ suc n ∷ 0 ∷ []) (suc m) [] [])
      (position_comes base)
      (λ ps s' i way there a' full. many_positions q (suc n, this) (rw full at (nth_to bytes q 2 ps i way there)))
      [] s a refl

  -- the rules, over the right side
  module _ (right : List ℕ) (side : RightSide bytes q right) where
    module _ (m r : ℕ) (that : RuleRecord bytes q (suc m) r) where
      abbrev Counted : List ℕ → List Occurrence → Type 0
      Counted ps before = length before ≡ length ps

      argument_comes : (base : ℕ) (ps : List ℕ) (before : List Occurrence) (s : List Bool) (i : ℕ) → Onward bytes (word bytes r 3) ps i → Names bytes i
          → Marks bytes (at_argument (suc n) (suc m) (suc (suc (length ps)))) (base + suc (length ps)) s → Counted ps before
          → Comes (Fault bytes admitted) (λ before' s'. Marks bytes (at_argument (suc n) (suc m) (suc (suc (length ps)))) (base + suc (length ps)) s' × Counted (ps ++ i ∷ []) before')
          (argument bytes v admitted (word bytes q 1) right before (record_at bytes i) s)
      argument_comes base ps before s i way there a h =
          comes_cond (Fault bytes admitted) _ (occurs v (word bytes q 1) right (occurrence_at bytes i)) _ _
          (λ o. comes_cond (Fault bytes admitted) _ (defined v (occurrence_at bytes i)) _ _
          (λ d. (
            v,
            writes,
            record {
              production = q;
              right = right;
              side = side;
              rule = r;
              in_production = (suc m, that);
              number = suc (length ps);
              in_rule = nth_to bytes r 3 ps i way there;
              occurs = o;
              is_defined = d;
            },
          ))
          (λ _. (a, simp length_push (omega arith))))
          (λ f. (v, writes, wrong_argument q r (suc (length ps)) right side (suc m, that) (nth_to bytes r 3 ps i way there) f))

      arguments_come : (base : ℕ) (s : List Bool) → Marks bytes (at_argument (suc n) (suc m) 1) base s
          → Comes (Fault bytes admitted) (λ before s'. (ps : List ℕ) × Chain bytes (word bytes r 3) ps × Marks bytes (at_argument (suc n) (suc m) (suc (length ps))) (base + length ps) s' × Counted ps before)
          (along bytes (argument bytes v admitted (word bytes q 1) right) 8 [] r (word bytes r 3) s)
      arguments_come base s a =
          along_comes bytes admitted short (argument bytes v admitted (word bytes q 1) right) 8 r 3 base
          (at_argument (suc n) (suc m)) (λ l. at_argument (suc n) (suc m) (suc l)) Counted
          (λ l h i link. (q, r, this, that, link)) (λ l. further (1 ∷ suc n ∷ 1 ∷ suc m ∷ []) (suc l) [] []) (λ l. next_one (1 ∷ suc n ∷ 1 ∷ suc m ∷ []) (suc l) [] [])
          (argument_comes base)
          (λ ps s' i way there a' full. many_arguments q r (suc n, this) (suc m, that) (rw full at (nth_to bytes r 3 ps i way there)))
          [] s a refl

    abbrev Targets : List ℕ → List Rule → Type 0
    Targets ps rules = map target rules ≡ map (occurrence_at bytes) ps

    unwanted : (ps : List ℕ) (before : List Rule) (i : ℕ) → Onward bytes (word bytes q 3) ps i → Names bytes i → Targets ps before
        → occurs v (word bytes q 1) right (occurrence_at bytes i) ≡ true → wants_rule bytes v admitted before (occurrence_at bytes i) ≡ false → WrongRule bytes v i
    unwanted ps before i way there h o w = ⊎_elim
        (λ undefined. not_defined q right side (suc (length ps), nth_to bytes q 3 ps i way there) o undefined)
        (λ taken.
        let x = earlier bytes (word bytes q 3) ps i (occurrence_at bytes i) way (rw h at (has_rule_in (map target before) (occurrence_at bytes i) (not-false _ taken))) in
        let l = x.4 in
        second_rule q (suc (length x.1)) (suc (length ps)) x.0 right side (nth_to bytes q 3 x.1 x.0 x.2 x.3) (nth_to bytes q 3 ps i way there) (omega arith) o x.5)
        (and_cases (defined v (occurrence_at bytes i)) (not (has_rule (map target before) (occurrence_at bytes i))) w)

    rule_comes : (base : ℕ) (ps : List ℕ) (before : List Rule) (s : List Bool) (i : ℕ) → Onward bytes (word bytes q 3) ps i → Names bytes i
        → Marks bytes (at_argument (suc n) (suc (length ps)) 1) (base + suc (length ps)) s → Targets ps before
        → Comes (Fault bytes admitted) (λ before' s'. Marks bytes (at_rule (suc n) (suc (suc (length ps)))) (base + suc (length ps)) s' × Targets (ps ++ i ∷ []) before')
        (rule bytes v admitted (word bytes q 1) right before (record_at bytes i) s)
    rule_comes base ps before s i way there a h =
        let that = nth_to bytes q 3 ps i way there in
        comes_cond (Fault bytes admitted) _ (occurs v (word bytes q 1) right (occurrence_at bytes i)) _ _
        (λ o. comes_cond (Fault bytes admitted) _ (wants_rule bytes v admitted before (occurrence_at bytes i)) _ _
        (λ _. comes_then (Fault bytes admitted) _ _
        (along bytes (argument bytes v admitted (word bytes q 1) right) 8 [] i (word bytes i 3) s) (finished_rule bytes v admitted before (record_at bytes i))
        (arguments_come (length ps) i that (base + suc (length ps)) s a)
        (λ arguments s' end. comes_cond (Fault bytes admitted) _ (admitted (word bytes i 4) (word bytes i 5) (length arguments)) _ _
        (λ _. (marks_onward (at_argument (suc n) (suc (length ps)) (suc (length end.0))) (at_rule (suc n) (suc (suc (length ps)))) (further (1 ∷ suc n ∷ 1 ∷ []) (suc (length ps)) (suc (length end.0) ∷ []) []) (omega arith) end.2, simp (map_push, h)))
        (λ f. record { production = q; is_production = (suc n, this); in_production = (suc (length ps), that); arguments = end.0; chain = end.1; not_admitted = rw end.3 at f })))
        (λ w. (v, writes, unwanted ps before i way there h o w)))
        (λ f. (v, writes, wrong_target q right side (suc (length ps), that) f))

    rules_come : (base : ℕ) (s : List Bool) → Marks bytes (at_rule (suc n) 1) base s
        → Comes (Fault bytes admitted) (λ rules s'. (ps : List ℕ) × Chain bytes (word bytes q 3) ps × Marks bytes (at_rule (suc n) (suc (length ps))) (base + length ps) s' × Targets ps rules)
        (along bytes (rule bytes v admitted (word bytes q 1) right) 4096 [] q (word bytes q 3) s)
    rules_come base s a =
        along_comes bytes admitted short (rule bytes v admitted (word bytes q 1) right) 4096 q 3 base
        (at_rule (suc n)) (λ m. at_argument (suc n) m 1) Targets
        (λ m h i link. (q, this, link)) (λ m. deeper (1 ∷ suc n ∷ 1 ∷ suc m ∷ []) 1 []) (λ m. under (1 ∷ suc n ∷ 1 ∷ suc m ∷ []) 1 [])
        (rule_comes base)
        (λ ps s' i way there a' full. absurd (let l = a'.left in omega arith))
        [] s a refl

module _ (bytes : List ℕ) (admitted : ℕ → ℕ → ℕ → Bool) (short : length bytes ≤ 49152) (v : Vocabulary) (writes : Writes bytes v) where
  production_comes : (ps : List ℕ) (before : List Production) (s : List Bool) (i : ℕ) → Onward bytes (word bytes 0 1) ps i → Names bytes i
      → Marks bytes (at_position (suc (length ps)) 1) (0 + suc (length ps)) s → Unit {0}
      → Comes (Fault bytes admitted) (λ before' s'. Marks bytes (at_production (suc (suc (length ps)))) (0 + suc (length ps)) s' × Unit {0}) (production bytes v admitted before (record_at bytes i) s)
  production_comes ps before s i way there a h =
      let n = length ps in
      let this = nth_to bytes 0 1 ps i way there in
      comes_cond (Fault bytes admitted) _ (is_inner v (word bytes i 1)) _ _
      (λ _. comes_then (Fault bytes admitted) _ _ (along bytes (position bytes v admitted) 8 [] i (word bytes i 2) s) _
      (positions_come bytes admitted short v writes n i this (0 + suc n) s a)
      (λ right s' p.
      let side : RightSide bytes i right = record { production = (suc n, this); positions = p.0; chain = p.1; writes = p.3 } in
      comes_then (Fault bytes admitted) _ _ (along bytes (rule bytes v admitted (word bytes i 1) right) 4096 [] i (word bytes i 3) s') (finished_production bytes v admitted before (record_at bytes i) right)
      (rules_come bytes admitted short v writes n i this right side (0 + suc n) s' (marks_onward (at_position (suc n) (suc (length p.0))) (at_rule (suc n) 1) (further (1 ∷ suc n ∷ []) 0 (suc (length p.0) ∷ []) (1 ∷ [])) (omega arith) p.2))
      (λ rules s'' r. comes_cond (Fault bytes admitted) _ (complete v (word bytes i 1) right (map target rules)) _ _
      (λ _. (marks_onward (at_rule (suc n) (suc (length r.0))) (at_production (suc (suc n))) (further (1 ∷ []) (suc n) (1 ∷ suc (length r.0) ∷ []) []) (omega arith) r.2, tt))
      (λ f. let x = lacks_rule v (word bytes i 1) right (map (occurrence_at bytes) r.0) (rw r.3 at f) in
      (v, writes, no_rule right r.0 x.0 side r.1 x.1 x.2 x.3)))))
      (λ f. (v, writes, wrong_left (suc n, this) f))

  pub productions_come : (s : List Bool) → Marks bytes (at_production 1) 0 s
      → Comes (Fault bytes admitted) (λ _ s'. (ps : List ℕ) × Chain bytes (word bytes 0 1) ps × Marks bytes (at_production (suc (length ps))) (0 + length ps) s' × Unit {0}) (productions bytes v admitted (word bytes 0 1) s)
  productions_come s a =
      along_comes bytes admitted short (production bytes v admitted) 128 0 1 0
      at_production (λ n. at_position n 1) (λ _ _. Unit {0})
      (λ n h i link. link) (λ n. deeper (1 ∷ suc n ∷ []) 0 (1 ∷ [])) (λ n. under (1 ∷ suc n ∷ []) 0 (1 ∷ []))
      production_comes
      (λ ps s' i way there a' full. many_productions (rw full at (nth_to bytes 0 1 ps i way there)))
      [] s a tt
