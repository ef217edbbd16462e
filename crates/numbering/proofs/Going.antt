-- The numbering of attributes by places, pass by pass.
use Rattle.std.proofs.Common.{◌≡◌, ℕ, zero, suc, ◌+◌, ◌-◌, ◌<◌, ◌≤◌, Bool, true, false, cond, not, ◌&&◌, ltb, ◌⊎◌, List, [], ◌∷◌, ◌++◌, length, get_or, replicate, sym, refl, ap, ◌∙◌, subst, inl, inr, ⊎_elim, add-one, arith}
use lib.ListN.{get_or-replicate}
use Rattle.std.proofs.lemmas.Bool.{both_ways, cases_Bool, cases_lt, and_parts, and_from, and_left, and_right, lt-ltb, le-ltb, ltb-true, cond-true, cond-false, not-true, not-false}
use Rattle.bitset.specs.Sets.{has}
use Rattle.bitset.proofs.Digits.{has_none}
use Rattle.plans.specs.declared.Direction.{Direction}
use Rattle.plans.specs.declared.Direction.TheVariants.{Left}
use Rattle.grammar.specs.declared.vocabulary.Attribute.{Attribute}
use Rattle.grammar.specs.Grammar.{given, no_attribute}
use Rattle.grammar.specs.Arcs.{precedence, bar}
use Rattle.grammar.specs.Books.{first_numbers, unnumbered}
use Rattle.grammar.specs.Numberings.{direction}
use Rattle.numbering.specs.Graph.{Graph}
use Rattle.numbering.specs.Settled.{Stable, Settled}
use Rattle.numbering.specs.Places.{place_graph, wants_at, marked, holds, by, number_at, NumberedPlaces}
use Rattle.numbering.proofs.Stages.{Stage, next, finished}

-- relations that agree on what waits have the same stable sets
module _ (precedes precedes' barred barred' : ℕ → ℕ → Bool) (waiting : ℕ → Bool) where
  stable_like : ((a b : ℕ) → waiting a ≡ true → waiting b ≡ true → precedes' a b ≡ precedes a b)
      → ((a b : ℕ) → waiting a ≡ true → waiting b ≡ true → barred' a b ≡ barred a b)
      → (s : ℕ → Bool) → Stable precedes barred waiting s → Stable precedes' barred' waiting s
  stable_like same sameb s stable = record {
    within = stable.within;
    closed = λ a b pre sb wa. stable.closed a b (sym (same a b wa (stable.within b sb)) ∙ pre) sb wa;
    unbarred = λ a b pre sb wa. sameb a b wa (stable.within b sb) ∙ stable.unbarred a b (sym (same a b wa (stable.within b sb)) ∙ pre) sb wa;
  }

pub settled_like : (precedes precedes' barred barred' : ℕ → ℕ → Bool) (waiting : ℕ → Bool)
    → ((a b : ℕ) → waiting a ≡ true → waiting b ≡ true → precedes' a b ≡ precedes a b)
    → ((a b : ℕ) → waiting a ≡ true → waiting b ≡ true → barred' a b ≡ barred a b)
    → (s : ℕ → Bool) → Settled precedes barred waiting s → Settled precedes' barred' waiting s
settled_like p p' b b' w same sameb s h = record {
  stable = stable_like p p' b b' w same sameb s h.stable;
  greatest = λ t st. h.greatest t (stable_like p' p b' b w (λ x y wx wy. sym (same x y wx wy)) (λ x y wx wy. sym (sameb x y wx wy)) t st);
}

-- After some passes: the stage that is reached, the bytes, the greatest number so far, and the set of what waits.
pub record Going (g : Graph) (ds : List Direction) (count pass : ℕ) (numbers : List ℕ) (greatest waiting : ℕ) : Type 0 where
  pub stage : Stage g ds pass (number_at numbers) (has waiting)
  pub planned : pass ≤ length ds
  pub others : (a : ℕ) → a < 64 → g.wants a ≡ false → number_at numbers a ≡ cond (ltb a count) 0 255
  pub none : (a : ℕ) → has waiting a ≡ true → number_at numbers a ≡ 255
  pub upper : (a : ℕ) → g.wants a ≡ true → has waiting a ≡ false → number_at numbers a ≤ greatest
  pub attained : (greatest ≡ 0) ⊎ ((a : ℕ) × (g.wants a ≡ true) × (number_at numbers a ≡ greatest) × (greatest ≤ pass))

module _ (g : Graph) (ds : List Direction) (count pass : ℕ) (numbers : List ℕ) (greatest waiting : ℕ) (now : Going g ds count pass numbers greatest waiting) where
  pub numbered_places : ((b : ℕ) → has waiting b ≡ true → length ds ≤ pass) → NumberedPlaces g ds count numbers greatest waiting
  numbered_places over = record {
    least = finished g ds pass (number_at numbers) (has waiting) now.stage over;
    others = now.others;
    none = now.none;
    set = λ a. ⊎_elim
        (λ (e : has waiting a ≡ true). e ∙ sym (and_from (g.wants a) (ltb (length ds) (number_at numbers a)) (now.stage.wanted a e) (lt-ltb (length ds) (number_at numbers a) (now.stage.waits a e))))
        (λ (e : has waiting a ≡ false). e ∙ sym (⊎_elim
        (λ (w : g.wants a ≡ true). and_right (g.wants a) (ltb (length ds) (number_at numbers a)) (le-ltb (length ds) (number_at numbers a) (omega (arith, now.stage.so_far a w e, now.planned))))
        (λ (w : g.wants a ≡ false). and_left (g.wants a) (ltb (length ds) (number_at numbers a)) w)
        (cases_Bool (g.wants a))))
        (cases_Bool (has waiting a));
    upper = λ a w h. ⊎_elim
        (λ (e : has waiting a ≡ true). absurd (omega (arith, now.stage.waits a e)))
        (λ (e : has waiting a ≡ false). now.upper a w e)
        (cases_Bool (has waiting a));
    attained = ⊎_elim (λ (e : greatest ≡ 0). inl e) (λ (t : (a : ℕ) × (g.wants a ≡ true) × (number_at numbers a ≡ greatest) × (greatest ≤ pass)). inr (t.0, t.1, t.2, omega (arith, t.3, now.planned))) now.attained;
  }

  module _ (chosen : ℕ) (settled : Settled g.precedes (g.barred (direction ds (suc pass))) (has waiting) (has chosen)) (more : pass < length ds) (numbers' : List ℕ) (waiting' : ℕ)
      (given : (a : ℕ) → number_at numbers' a ≡ cond (has chosen a) (suc pass) (number_at numbers a))
      (left : (a : ℕ) → has waiting' a ≡ (has waiting a && not (has chosen a))) where
    now_set : (a : ℕ) → has chosen a ≡ true → number_at numbers' a ≡ suc pass
    now_set a h = given a ∙ cond-true (has chosen a) (suc pass) (number_at numbers a) h

    now_kept : (a : ℕ) → has chosen a ≡ false → number_at numbers' a ≡ number_at numbers a
    now_kept a h = given a ∙ cond-false (has chosen a) (suc pass) (number_at numbers a) h

    wants_chosen : (a : ℕ) → has chosen a ≡ true → g.wants a ≡ true
    wants_chosen a h = now.stage.wanted a (settled.stable.within a h)

    -- what does not wait now and was not chosen did not wait before
    before_now : (a : ℕ) → has waiting' a ≡ false → has chosen a ≡ false → has waiting a ≡ false
    before_now a h e = go (has waiting a) (has chosen a) (sym (left a) ∙ h) e
      where
        go : (x y : Bool) → (x && not y) ≡ false → y ≡ false → x ≡ false
        go true true h e = e
        go true false h e = h
        go false y h e = refl

    pub going_next : (greatest' : ℕ) → ((chosen ≡ 0) × (greatest' ≡ greatest)) ⊎ (((c : ℕ) × (has chosen c ≡ true)) × (greatest' ≡ suc pass))
        → Going g ds count (suc pass) numbers' greatest' waiting'
    going_next greatest' top = record {
      stage = next g ds pass (number_at numbers) (has waiting) now.stage (has chosen) settled more (number_at numbers') (has waiting') now_set now_kept left;
      planned = more;
      others = λ a l w. now_kept a (⊎_elim (λ (e : has chosen a ≡ true). absurd (both_ways (g.wants a) w (wants_chosen a e))) (λ (e : has chosen a ≡ false). e) (cases_Bool (has chosen a))) ∙ now.others a l w;
      none = λ a h. let p = and_parts (has waiting a) (not (has chosen a)) (sym (left a) ∙ h) in now_kept a (not-true (has chosen a) p.1) ∙ now.none a p.0;
      upper = λ a w h. ⊎_elim
          (λ (e : has chosen a ≡ true). ⊎_elim
          (λ (t : (chosen ≡ 0) × (greatest' ≡ greatest)). absurd (both_ways (has chosen a) (ap (λ x. has x a) t.0 ∙ has_none a) e))
          (λ (t : ((c : ℕ) × (has chosen c ≡ true)) × (greatest' ≡ suc pass)). omega (arith, now_set a e))
          top)
          (λ (e : has chosen a ≡ false). let old = before_now a h e in ⊎_elim
          (λ (t : (chosen ≡ 0) × (greatest' ≡ greatest)). omega (arith, now_kept a e, now.upper a w old))
          (λ (t : ((c : ℕ) × (has chosen c ≡ true)) × (greatest' ≡ suc pass)). omega (arith, now_kept a e, now.stage.so_far a w old))
          top)
          (cases_Bool (has chosen a));
      attained = ⊎_elim
          (λ (t : (chosen ≡ 0) × (greatest' ≡ greatest)). ⊎_elim
          (λ (z : greatest ≡ 0). inl (t.1 ∙ z))
          (λ (m : (a : ℕ) × (g.wants a ≡ true) × (number_at numbers a ≡ greatest) × (greatest ≤ pass)).
          inr (m.0, m.1, now_kept m.0 (ap (λ x. has x m.0) t.0 ∙ has_none m.0) ∙ m.2 ∙ sym t.1, omega (arith, m.3)))
          now.attained)
          (λ (t : ((c : ℕ) × (has chosen c ≡ true)) × (greatest' ≡ suc pass)).
          inr (t.0.0, wants_chosen t.0.0 t.0.1, now_set t.0.0 t.0.1 ∙ sym t.1, omega arith))
          top;
    }

-- before the first pass
unnumbered_at : (attributes : List Attribute) (rest : List ℕ) (p : ℕ) → p < length attributes → get_or (first_numbers attributes ++ rest) p 0 ≡ cond (given (get_or attributes p no_attribute).kind) 0 255
unnumbered_at [] rest p l = absurd (omega arith)
unnumbered_at (a ∷ attributes) rest zero l = refl
unnumbered_at (a ∷ attributes) rest (suc p) l = unnumbered_at attributes rest p (omega arith)

unnumbered_past : (attributes : List Attribute) (k p : ℕ) → length attributes ≤ p → p < length attributes + k → get_or (first_numbers attributes ++ replicate k 255) p 0 ≡ 255
unnumbered_past [] k p l h = get_or-replicate k p 255 0 (omega arith)
unnumbered_past (a ∷ attributes) k zero l h = absurd (omega arith)
unnumbered_past (a ∷ attributes) k (suc p) l h = unnumbered_past attributes k p (omega arith) (omega arith)

module _ (board : List ℕ) (attributes : List Attribute) (waiting : ℕ) (ds : List Direction) (numbers : List ℕ)
    (few : length attributes ≤ 64) (short : length ds ≤ 128)
    (waits : (p : ℕ) → has waiting p ≡ (ltb p 64 && wants_at attributes p))
    (begun : numbers ≡ unnumbered attributes) where
  wanting_is : (p : ℕ) → has waiting p ≡ wants_at attributes p
  unfolding wants_at
  wanting_is p = waits p ∙ few_are (ltb p 64) (not (given (get_or attributes p no_attribute).kind)) (λ l. lt-ltb p 64 (omega (arith, ltb-true p (length attributes) l)))
    where
      few_are : (x y : Bool) → (ltb p (length attributes) ≡ true → x ≡ true) → (x && (ltb p (length attributes) && y)) ≡ (ltb p (length attributes) && y)
      few_are true y h = refl
      few_are false y h = ⊎_elim
          (λ (e : ltb p (length attributes) ≡ true). absurd (both_ways false refl (h e)))
          (λ (e : ltb p (length attributes) ≡ false). sym (and_left (ltb p (length attributes)) y e))
          (cases_Bool (ltb p (length attributes)))

  begun_within : (p : ℕ) → p < length attributes → number_at numbers p ≡ cond (given (get_or attributes p no_attribute).kind) 0 255
  begun_within p l = ap (λ ns. get_or ns p 0) begun ∙ unnumbered_at attributes _ p l

  first_none : (p : ℕ) → wants_at attributes p ≡ true → number_at numbers p ≡ 255
  unfolding wants_at
  first_none p h =
      let parts = and_parts (ltb p (length attributes)) (not (given (get_or attributes p no_attribute).kind)) h in
      begun_within p (ltb-true p (length attributes) parts.0) ∙ cond-false _ 0 255 (not-true _ parts.1)

  first_others : (p : ℕ) → p < 64 → wants_at attributes p ≡ false → number_at numbers p ≡ cond (ltb p (length attributes)) 0 255
  unfolding wants_at
  first_others p l h = ⊎_elim
      (λ (within : p < length attributes).
      let is_given = not-false (given (get_or attributes p no_attribute).kind) (sym (ap (λ b. b && not (given (get_or attributes p no_attribute).kind)) (lt-ltb p (length attributes) within)) ∙ h) in
      begun_within p within ∙ cond-true _ 0 255 is_given ∙ sym (cond-true (ltb p (length attributes)) 0 255 (lt-ltb p (length attributes) within)))
      (λ (past : length attributes ≤ p). ap (λ ns. get_or ns p 0) begun ∙ unnumbered_past attributes (64 - length attributes) p past (omega arith) ∙ sym (cond-false (ltb p (length attributes)) 0 255 (le-ltb p (length attributes) past)))
      (cases_lt p (length attributes))

  pub going_start : Going (place_graph board attributes) ds (length attributes) 0 numbers 0 waiting
  going_start = record {
    stage = record {
      wanted = λ p h. sym (wanting_is p) ∙ h;
      waits = λ p h. omega (arith, first_none p (sym (wanting_is p) ∙ h));
      from_one = λ p h. omega (arith, first_none p h);
      so_far = λ p h e. absurd (both_ways (has waiting p) e (wanting_is p ∙ h));
      before = λ p q arc e. absurd (both_ways (has waiting q) e (wanting_is q ∙ arc.target));
      rises = λ p q arc e. absurd (both_ways (has waiting q) e (wanting_is q ∙ arc.target));
      clear = λ p q arc e. absurd (both_ways (has waiting q) e (wanting_is q ∙ arc.target));
      reached = λ w valid q h l. absurd (omega (arith, valid.starts q h));
      least = λ w valid q h l. absurd (omega (arith, valid.starts q h));
    };
    planned = omega arith;
    others = first_others;
    none = λ p h. first_none p (sym (wanting_is p) ∙ h);
    upper = λ p h e. absurd (both_ways (has waiting p) e (wanting_is p ∙ h));
    attained = inl refl;
  }

-- one pass over the board's columns
abbrev Top : ℕ → ℕ → ℕ → ℕ → Type 0
Top chosen greatest n greatest' = ((chosen ≡ 0) × (greatest' ≡ greatest)) ⊎ (((c : ℕ) × (has chosen c ≡ true)) × (greatest' ≡ n))

module _ (board : List ℕ) (attributes : List Attribute) (ds : List Direction) (pass : ℕ) (numbers : List ℕ) (greatest waiting : ℕ)
    (now : Going (place_graph board attributes) ds (length attributes) pass numbers greatest waiting)
    (predecessors left right : List ℕ)
    (predecessors_are : (a b : ℕ) → a < 64 → b < 64 → holds predecessors a b ≡ marked board precedence a b)
    (bars_are : (d : Direction) (a b : ℕ) → a < 64 → b < 64 → holds (by d left right) a b ≡ marked board (bar d) a b)
    (few : length attributes ≤ 64) where
  place : (a : ℕ) → has waiting a ≡ true → a < 64
  unfolding wants_at
  place a h = omega (arith, ltb-true a (length attributes) (and_parts (ltb a (length attributes)) _ (now.stage.wanted a h)).0)

  settled_board : (d : Direction) (chosen : ℕ) → Settled (holds predecessors) (holds (by d left right)) (has waiting) (has chosen)
      → Settled (marked board precedence) (marked board (bar d)) (has waiting) (has chosen)
  settled_board d chosen = settled_like (holds predecessors) (marked board precedence) (holds (by d left right)) (marked board (bar d)) (has waiting)
      (λ a b wa wb. sym (predecessors_are a b (place a wa) (place b wb)))
      (λ a b wa wb. sym (bars_are d a b (place a wa) (place b wb)))
      (has chosen)

  pub going_pass : (d : Direction) → pass < length ds → d ≡ get_or ds pass Left
      → (chosen : ℕ) → Settled (holds predecessors) (holds (by d left right)) (has waiting) (has chosen)
      → (numbers' : List ℕ) (waiting' greatest' : ℕ)
      → ((a : ℕ) → number_at numbers' a ≡ cond (has chosen a) (pass + 1) (number_at numbers a))
      → ((a : ℕ) → has waiting' a ≡ (has waiting a && not (has chosen a)))
      → Top chosen greatest (pass + 1) greatest'
      → Going (place_graph board attributes) ds (length attributes) (pass + 1) numbers' greatest' waiting'
  going_pass d more at chosen settled numbers' waiting' greatest' assigned rest top =
      let back : pass ≡ pass + 1 - 1 = omega arith in
      let here : d ≡ direction ds (pass + 1) = at ∙ ap (λ n. get_or ds n Left) back in
      subst (λ n. (d ≡ direction ds n) → ((a : ℕ) → number_at numbers' a ≡ cond (has chosen a) n (number_at numbers a)) → Top chosen greatest n greatest' → Going (place_graph board attributes) ds (length attributes) n numbers' greatest' waiting')
      (sym (add-one pass))
      (λ is set' top'. going_next (place_graph board attributes) ds (length attributes) pass numbers greatest waiting now chosen
      (subst (λ (x : Direction). Settled (marked board precedence) (marked board (bar x)) (has waiting) (has chosen)) is (settled_board d chosen settled))
      more numbers' waiting' set' rest greatest' top')
      here assigned top
