-- How one pass leads from a numbering so far to the next. Sets are tests on ℕ.
use Rattle.std.proofs.Common.{◌≡◌, ℕ, suc, ◌<◌, ◌≤◌, Bool, true, false, not, ◌&&◌, leb, ◌⊎◌, List, length, sym, refl, ap, ◌∙◌, subst, inl, inr, ⊎_elim, arith}
use Rattle.std.proofs.lemmas.Bool.{both_ways, cases_Bool, cases_lt, and_parts, and_from, and_left, and_right, le-leb, leb-true}
use Rattle.plans.specs.declared.Direction.{Direction}
use Rattle.numbering.specs.Settled.{Stable, Settled}
use Rattle.grammar.specs.Numberings.{direction}
use Rattle.numbering.specs.Graph.{Graph, Arc, ValidOn, LeastOn}

-- After m passes: what is numbered is numbered validly and least, and what waits has a number past the plan.
pub record Stage (g : Graph) (ds : List Direction) (m : ℕ) (v : ℕ → ℕ) (waiting : ℕ → Bool) : Type 0 where
  pub wanted : (a : ℕ) → waiting a ≡ true → g.wants a ≡ true
  pub waits : (a : ℕ) → waiting a ≡ true → length ds < v a
  pub from_one : (a : ℕ) → g.wants a ≡ true → 1 ≤ v a
  pub so_far : (a : ℕ) → g.wants a ≡ true → waiting a ≡ false → v a ≤ m
  pub before : (a b : ℕ) → Arc g a b → waiting b ≡ false → waiting a ≡ false
  pub rises : (a b : ℕ) → Arc g a b → waiting b ≡ false → v a ≤ v b
  pub clear : (a b : ℕ) → Arc g a b → waiting b ≡ false → v a ≡ v b → g.barred (direction ds (v b)) a b ≡ false
  pub reached : (w : ℕ → ℕ) → ValidOn g ds w → (b : ℕ) → g.wants b ≡ true → w b ≤ m → waiting b ≡ false
  pub least : (w : ℕ → ℕ) → ValidOn g ds w → (b : ℕ) → g.wants b ≡ true → w b ≤ m → v b ≤ w b

module _ (g : Graph) (ds : List Direction) (m : ℕ) (v : ℕ → ℕ) (waiting : ℕ → Bool) (now : Stage g ds m v waiting) where
  -- no valid numbering gives an attribute that waits a number up to m
  later : (w : ℕ → ℕ) → ValidOn g ds w → (b : ℕ) → waiting b ≡ true → m < w b
  later w valid b h =
      ⊎_elim (λ (l : m < w b). l) (λ (l : w b ≤ m). absurd (both_ways (waiting b) (now.reached w valid b (now.wanted b h) l) h)) (cases_lt m (w b))

  -- where nothing waits, or no pass is left
  pub finished : ((b : ℕ) → waiting b ≡ true → length ds ≤ m) → LeastOn g ds v
  finished over = record {
    valid = record {
      starts = now.from_one;
      rises = λ a b arc h. now.rises a b arc (settled b h);
      clear = λ a b arc h. now.clear a b arc (settled b h);
    };
    least = λ w valid b wants h. ⊎_elim
        (λ (l : m < w b). ⊎_elim
        (λ (e : waiting b ≡ true). absurd (omega (arith, over b e)))
        (λ (e : waiting b ≡ false). omega (arith, now.so_far b wants e))
        (cases_Bool (waiting b)))
        (λ (l : w b ≤ m). now.least w valid b wants l)
        (cases_lt m (w b));
  }
    where
      settled : (b : ℕ) → v b ≤ length ds → waiting b ≡ false
      settled b h = ⊎_elim (λ (e : waiting b ≡ true). absurd (omega (arith, now.waits b e))) (λ (e : waiting b ≡ false). e) (cases_Bool (waiting b))

  module _ (s : ℕ → Bool) (chosen : Settled g.precedes (g.barred (direction ds (suc m))) waiting s) (more : m < length ds) where
    arc_of : (a b : ℕ) → g.precedes a b ≡ true → waiting a ≡ true → waiting b ≡ true → Arc g a b
    arc_of a b pre ha hb = record { source = now.wanted a ha; target = now.wanted b hb; arc = pre }

    -- a valid numbering has a stable set in this pass: what it numbers up to here
    up_to : (w : ℕ → ℕ) → ℕ → Bool
    up_to w b = waiting b && leb (w b) (suc m)

    up_to_parts : (w : ℕ → ℕ) (b : ℕ) → up_to w b ≡ true → (waiting b ≡ true) × (w b ≤ suc m)
    unfolding up_to
    up_to_parts w b h = let p = and_parts (waiting b) (leb (w b) (suc m)) h in (p.0, leb-true (w b) (suc m) p.1)

    up_to_from : (w : ℕ → ℕ) (b : ℕ) → waiting b ≡ true → w b ≤ suc m → up_to w b ≡ true
    unfolding up_to
    up_to_from w b h l = and_from (waiting b) (leb (w b) (suc m)) h (le-leb (w b) (suc m) l)

    up_to_stable : (w : ℕ → ℕ) → ValidOn g ds w → Stable g.precedes (g.barred (direction ds (suc m))) waiting (up_to w)
    up_to_stable w valid = record {
      within = λ b h. (up_to_parts w b h).0;
      closed = λ a b pre h l. let p = up_to_parts w b h in up_to_from w a l (omega (arith, valid.rises a b (arc_of a b pre l p.0) (omega (arith, p))));
      unbarred = λ a b pre h l.
          let p = up_to_parts w b h in
          let arc = arc_of a b pre l p.0 in
          let wb : w b ≡ suc m = omega (arith, p, later w valid b p.0) in
          let wa : w a ≡ suc m = omega (arith, later w valid a l, valid.rises a b arc (omega arith)) in
          subst (λ t. g.barred (direction ds t) a b ≡ false) wb (valid.clear a b arc (omega arith) (wa ∙ sym wb));
    }

    chosen_in : (w : ℕ → ℕ) → ValidOn g ds w → (b : ℕ) → waiting b ≡ true → w b ≤ suc m → s b ≡ true
    chosen_in w valid b h l = chosen.greatest (up_to w) (up_to_stable w valid) b (up_to_from w b h l)

    not_chosen : (b : ℕ) → waiting b ≡ false → s b ≡ false
    not_chosen b h = ⊎_elim (λ (e : s b ≡ true). absurd (both_ways (waiting b) h (chosen.stable.within b e))) (λ (e : s b ≡ false). e) (cases_Bool (s b))

    module _ (v' : ℕ → ℕ) (rest : ℕ → Bool)
        (set : (b : ℕ) → s b ≡ true → v' b ≡ suc m) (kept : (b : ℕ) → s b ≡ false → v' b ≡ v b)
        (left : (b : ℕ) → rest b ≡ (waiting b && not (s b))) where
      rest_parts : (b : ℕ) → rest b ≡ true → (waiting b ≡ true) × (s b ≡ false)
      rest_parts b h = go (waiting b) (s b) (sym (left b) ∙ h)
        where
          go : (x y : Bool) → (x && not y) ≡ true → (x ≡ true) × (y ≡ false)
          go true true e = (refl, sym e)
          go true false e = (refl, refl)
          go false y e = absurd (both_ways false refl e)

      -- what does not wait any more was chosen now, or did not wait before
      rest_cases : (b : ℕ) → rest b ≡ false → (s b ≡ true) ⊎ ((s b ≡ false) × (waiting b ≡ false))
      rest_cases b h = go (waiting b) (s b) (sym (left b) ∙ h)
        where
          go : (x y : Bool) → (x && not y) ≡ false → (y ≡ true) ⊎ ((y ≡ false) × (x ≡ false))
          go x true e = inl refl
          go true false e = absurd (both_ways true e refl)
          go false false e = inr (refl, refl)

      rest_chosen : (b : ℕ) → s b ≡ true → rest b ≡ false
      rest_chosen b h = left b ∙ and_right (waiting b) (not (s b)) (ap not h)

      rest_old : (b : ℕ) → waiting b ≡ false → rest b ≡ false
      rest_old b h = left b ∙ and_left (waiting b) (not (s b)) h

      -- by which way b stopped waiting
      by_way : {P : Type 0} (b : ℕ) → rest b ≡ false → (s b ≡ true → v' b ≡ suc m → P) → (s b ≡ false → waiting b ≡ false → v' b ≡ v b → P) → P
      by_way b h f k = ⊎_elim (λ (e : s b ≡ true). f e (set b e)) (λ (e : (s b ≡ false) × (waiting b ≡ false)). k e.0 e.1 (kept b e.0)) (rest_cases b h)

      -- an arc into what was chosen now comes from what was chosen now or numbered before
      by_source : {P : Type 0} (a b : ℕ) → Arc g a b → s b ≡ true → (s a ≡ true → v' a ≡ suc m → waiting a ≡ true → P) → (waiting a ≡ false → v' a ≤ m → P) → P
      by_source a b arc h f k = ⊎_elim
          (λ (e : waiting a ≡ true). let c = chosen.stable.closed a b arc.arc h e in f c (set a c) e)
          (λ (e : waiting a ≡ false). k e (omega (arith, kept a (not_chosen a e), now.so_far a arc.source e)))
          (cases_Bool (waiting a))

      old : (a b : ℕ) → Arc g a b → waiting b ≡ false → v' a ≡ v a
      old a b arc h = kept a (not_chosen a (now.before a b arc h))

      next_clear : (a b : ℕ) → Arc g a b → rest b ≡ false → v' a ≡ v' b → g.barred (direction ds (v' b)) a b ≡ false
      next_clear a b arc h e = by_way b h
          (λ h' vb. by_source a b arc h'
          (λ sa va wa. subst (λ t. g.barred (direction ds t) a b ≡ false) (sym vb) (chosen.stable.unbarred a b arc.arc h' wa))
          (λ wa va. absurd (omega arith)))
          (λ h' wb vb. subst (λ t. g.barred (direction ds t) a b ≡ false) (sym vb) (now.clear a b arc wb (sym (old a b arc wb) ∙ e ∙ vb)))

      pub next : Stage g ds (suc m) v' rest
      next = record {
        wanted = λ a h. now.wanted a (rest_parts a h).0;
        waits = λ a h. omega (arith, kept a (rest_parts a h).1, now.waits a (rest_parts a h).0);
        from_one = λ a h. ⊎_elim (λ (e : s a ≡ true). omega (arith, set a e)) (λ (e : s a ≡ false). omega (arith, kept a e, now.from_one a h)) (cases_Bool (s a));
        so_far = λ a h l. by_way a l (λ _ e. omega arith) (λ _ w e. omega (arith, now.so_far a h w));
        before = λ a b arc h. by_way b h
            (λ h' _. by_source a b arc h' (λ sa _ _. rest_chosen a sa) (λ wa _. rest_old a wa))
            (λ _ wb _. rest_old a (now.before a b arc wb));
        rises = λ a b arc h. by_way b h
            (λ h' vb. by_source a b arc h' (λ _ va _. omega arith) (λ _ va. omega arith))
            (λ _ wb vb. omega (arith, old a b arc wb, now.rises a b arc wb));
        clear = next_clear;
        reached = λ w valid b wants h. ⊎_elim
            (λ (e : waiting b ≡ true). rest_chosen b (chosen_in w valid b e h))
            (λ (e : waiting b ≡ false). rest_old b e)
            (cases_Bool (waiting b));
        least = λ w valid b wants h. ⊎_elim
            (λ (e : waiting b ≡ true). omega (arith, set b (chosen_in w valid b e h), later w valid b e))
            (λ (e : waiting b ≡ false). ⊎_elim
            (λ (l : m < w b). omega (arith, kept b (not_chosen b e), now.so_far b wants e))
            (λ (l : w b ≤ m). omega (arith, kept b (not_chosen b e), now.least w valid b wants l))
            (cases_lt m (w b)))
            (cases_Bool (waiting b));
      }
