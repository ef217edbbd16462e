-- The board by its bits: each argument, rule and production adds those of its own arcs.
use Rattle.std.proofs.Common.{◌≡◌, ℕ, ◌<◌, ◌≤◌, Bool, true, false, ◌⊎◌, List, [], ◌∷◌, length, get_or, set, replicate, sym, refl, ap, ◌∙◌, subst, inl, inr, ⊎_elim, arith, length-set, get_or-set_other, get_or-set_same}
use lib.Bits.{bit_or}
use lib.ListN.{get_or-replicate}
use Rattle.std.proofs.lemmas.Bool.{cases_Bool, cases_eq, both_ways, or_cases, or_left, or_right}
use Rattle.grammar.specs.declared.production.Occurrence.{Occurrence}
use Rattle.grammar.specs.Members.{◌∈◌}
use Rattle.grammar.specs.Grammar.{Vocabulary, Rule, Production, attribute, given}
use Rattle.grammar.specs.Arcs.{label, board_place, labelled, with_argument, with_arguments, with_rules, with_productions}
use Rattle.grammar.proofs.Bits.{marked, marked_join}

-- after a step a test holds of the board if it held before or the step has what adds to it
pub record Adds (test : List ℕ → Bool) (before after : List ℕ) (Added : Type 0) : Type 0 where
  pub long : length after ≡ 4096
  pub told : test after ≡ true → (test before ≡ true) ⊎ Added
  pub still : test before ≡ true → test after ≡ true
  pub added : Added → test after ≡ true

-- some member of a list adds
abbrev pub SomeAdds : {X : Type 0} → (X → Type 0) → List X → Type 0
SomeAdds {X} Added xs = (x : X) × (x ∈ xs) × Added x

-- steps along a list, where each member adds what it has
module _ {X : Type 0} (step : List ℕ → X → List ℕ) (steps : List X → List ℕ → List ℕ) (none : (board : List ℕ) → steps [] board ≡ board) (more : (x : X) (xs : List X) (board : List ℕ) → steps (x ∷ xs) board ≡ steps xs (step board x))
    (test : List ℕ → Bool) (Added : X → Type 0) where
  pub adds_along : (xs : List X) → ((x : X) → x ∈ xs → (board : List ℕ) → length board ≡ 4096 → Adds test board (step board x) (Added x))
      → (board : List ℕ) → length board ≡ 4096 → Adds test board (steps xs board) (SomeAdds Added xs)
  adds_along [] each board long = rw (none board) (record { long = long; told = inl; still = λ h. h; added = λ s. absurd s.1 })
  adds_along (x ∷ xs) each board long =
      let here = each x (inl refl) board long in
      let rest = adds_along xs (λ y m. each y (inr m)) (step board x) here.long in
      rw (more x xs board) (record {
        long = rest.long;
        told = λ h. ⊎_elim
            (λ (b : test (step board x) ≡ true). ⊎_elim inl (λ (s : Added x). inr (x, inl refl, s)) (here.told b))
            (λ (s : SomeAdds Added xs). inr (s.0, inr s.1, s.2))
            (rest.told h);
        still = λ h. rest.still (here.still h);
        added = λ s. elim s.1 [
          | inl e ↦ rest.still (here.added (subst Added e s.2))
          | inr m ↦ rest.added (s.0, m, s.2)
        ];
      })

-- a label joined at a place is joined to what stands there
set_joins : (board : List ℕ) (p q bits : ℕ) → p < length board → p ≡ q → get_or (set board q (bit_or (get_or board q 0) bits)) p 0 ≡ bit_or (get_or board p 0) bits
set_joins board p q bits h e = subst (λ n. get_or (set board n (bit_or (get_or board n 0) bits)) p 0 ≡ bit_or (get_or board p 0) bits) e (get_or-set_same board p _ 0 h)

-- an attribute number that the board has places for
abbrev pub OnBoard : ℕ → Type 0
OnBoard a = (1 ≤ a) × (a ≤ 64)

-- two attributes, and the bits that are looked for at their place
module _ (v : Vocabulary) (mark a b : ℕ) (a_on : OnBoard a) (b_on : OnBoard b) where
  -- one of the bits stands there
  abbrev pub test : List ℕ → Bool
  test board = labelled board mark a b

  -- an argument of a rule is an arc between the two that has such a bit
  pub record ArcAdds (target argument : Occurrence) : Type 0 where
    pub not_given : given (attribute v argument.attribute).kind ≡ false
    pub takes : argument.attribute ≡ a
    pub sets : target.attribute ≡ b
    pub bits : marked mark (label argument.position target.position) ≡ true

  -- some argument of a rule, or of a rule of a production, is such an arc
  abbrev pub RuleAdds : Rule → Type 0
  RuleAdds r = SomeAdds (ArcAdds r.target) r.arguments

  abbrev pub ProductionAdds : Production → Type 0
  ProductionAdds p = SomeAdds RuleAdds p.rules

  place_tells : (c d : ℕ) → OnBoard c → OnBoard d → board_place a b ≡ board_place c d → (c ≡ a) × (d ≡ b)
  place_tells c d c-on d-on e = (omega arith, omega arith)

  place_on : board_place a b < 4096
  place_on = omega (arith, a_on.0, a_on.1, b_on.0, b_on.1)

  pub blank : test (replicate 4096 0) ≡ false
  blank = ap (marked mark) (get_or-replicate 4096 (board_place a b) 0 0 place_on)

  -- an argument adds its own arc, which is none where it is given
  pub argument_adds : (t o : Occurrence) → OnBoard t.attribute → OnBoard o.attribute → (board : List ℕ) → length board ≡ 4096
      → Adds test board (with_argument v t board o) (ArcAdds t o)
  argument_adds t o t-on o-on board long = elim (cases_Bool (given (attribute v o.attribute).kind)) [
    | inl is_given ↦ rw is_given (record { long = long; told = inl; still = λ h. h; added = λ s. absurd (both_ways _ s.not_given is_given) })
    | inr not_given ↦ rw not_given (elim (cases_eq (board_place a b) (board_place o.attribute t.attribute)) [
      | inl same_place ↦
          let arc = place_tells o.attribute t.attribute o-on t-on same_place in
          let bits = label o.position t.position in
          let is = ap (marked mark) (set_joins board _ _ bits (omega (arith, place_on, long)) same_place) ∙ marked_join mark (get_or board (board_place a b) 0) bits in
          record {
            long = length-set board _ _ ∙ long;
            told = λ h. ⊎_elim inl (λ new. inr (record { not_given = not_given; takes = arc.0; sets = arc.1; bits = new })) (or_cases _ _ (sym is ∙ h));
            still = λ h. is ∙ or_left (test board) (marked mark bits) h;
            added = λ s. is ∙ or_right (test board) (marked mark bits) s.bits;
          }
      | inr elsewhere ↦
          let is = ap (marked mark) (get_or-set_other board _ _ _ 0 elsewhere) in
          record {
            long = length-set board _ _ ∙ long;
            told = λ h. inl (sym is ∙ h);
            still = λ h. is ∙ h;
            added = λ s. absurd (elsewhere (ap (λ n. board_place n b) (sym s.takes) ∙ ap (board_place o.attribute) (sym s.sets)));
          }
    ])
  ]

  pub rule_adds : (r : Rule) → OnBoard r.target.attribute → ((o : Occurrence) → o ∈ r.arguments → OnBoard o.attribute) → (board : List ℕ) → length board ≡ 4096
      → Adds test board (with_arguments v r.target r.arguments board) (RuleAdds r)
  rule_adds r target-on arguments-on =
      adds_along (with_argument v r.target) (with_arguments v r.target) (λ _. refl) (λ _ _ _. refl) test (ArcAdds r.target) r.arguments
      (λ o m. argument_adds r.target o target-on (arguments-on o m))

  -- the occurrences of rules are on the board
  abbrev pub RulesOnBoard : List Rule → Type 0
  RulesOnBoard rules = (r : Rule) → r ∈ rules → OnBoard r.target.attribute × ((o : Occurrence) → o ∈ r.arguments → OnBoard o.attribute)

  pub production_adds : (p : Production) → RulesOnBoard p.rules → (board : List ℕ) → length board ≡ 4096
      → Adds test board (with_rules v p.rules board) (ProductionAdds p)
  production_adds p on =
      adds_along (λ board r. with_arguments v r.target r.arguments board) (with_rules v) (λ _. refl) (λ _ _ _. refl) test RuleAdds p.rules
      (λ r m. rule_adds r (on r m).0 (on r m).1)

  pub productions_add : (ps : List Production) → ((p : Production) → p ∈ ps → RulesOnBoard p.rules) → (board : List ℕ) → length board ≡ 4096
      → Adds test board (with_productions v ps board) (SomeAdds ProductionAdds ps)
  productions_add ps on =
      adds_along (λ board p. with_rules v p.rules board) (with_productions v) (λ _. refl) (λ _ _ _. refl) test ProductionAdds ps
      (λ p m. production_adds p (on p m))
