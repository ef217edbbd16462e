-- Start and width of S wait for each other behind bars of both directions, so no pass has them.
use Rattle.std.proofs.Common.{◌≡◌, ℕ, zero, suc, ◌<◌, ◌≤◌, Bool, false, ◌&&◌, List, [], ◌∷◌, length, get_or, sym, refl, ap, ◌∙◌, inl, inr, ⊎_elim, arith, lit≤}
use Rattle.std.proofs.lemmas.Bool.{cases_lt, lt-ltb, lt-leb}
use Rattle.bitset.specs.Sets.{has, many}
use Rattle.plans.specs.declared.Direction.{Direction}
use Rattle.plans.specs.declared.Direction.TheVariants.{Left, Right}
use Rattle.grammar.specs.Arcs.{Arc, Barred}
use Rattle.grammar.specs.Numberings.{Valid, Numbered, wants, direction, number_of}
use Rattle.numbering.specs.Deletion.{State, member, keep, none, delete, remaining, number, after, numbering}
use Rattle.numbering.specs.GrammarGraph.{graph_of, grammar_numbering}
use Rattle.examples.specs.Examples.{SNumbers}
use Rattle.examples.proofs.Sets.{same_places, seven_0, seven_1, seven_2, seven_past, seven_size}
use Rattle.examples.proofs.Grammars.{grammar_S, line, bar, at, start_by_second, start_by_first, sum_of_widths, width_from}

first_start : Arc grammar_S 3 2 2 1
first_start = record {
  production = line start_by_second;
  in_grammar = inl refl;
  rule = start_by_second;
  in_production = inl refl;
  argument = at 2 3;
  in_rule = inl refl;
  takes = refl;
  sets = refl;
  not_given = refl;
}

second_start : Arc grammar_S 3 2 1 2
second_start = record {
  production = line start_by_second;
  in_grammar = inl refl;
  rule = start_by_first;
  in_production = inr (inl refl);
  argument = at 1 3;
  in_rule = inl refl;
  takes = refl;
  sets = refl;
  not_given = refl;
}

width_takes : Arc grammar_S 2 3 0 0
width_takes = record {
  production = bar (at 0 2 ∷ []);
  in_grammar = inr (inl refl);
  rule = width_from (at 0 2 ∷ []);
  in_production = inl refl;
  argument = at 0 2;
  in_rule = inr (inl refl);
  takes = refl;
  sets = refl;
  not_given = refl;
}

total_takes : Arc grammar_S 3 1 1 0
total_takes = record {
  production = line start_by_second;
  in_grammar = inl refl;
  rule = sum_of_widths;
  in_production = inr (inr (inl refl));
  argument = at 1 3;
  in_rule = inl refl;
  takes = refl;
  sets = refl;
  not_given = refl;
}

barred : (d : Direction) → Barred grammar_S d 3 2
barred Left = (2, 1, first_start, (omega arith, omega arith))
barred Right = (1, 2, second_start, (omega arith, omega arith))

module _ (ds : List Direction) (v : ℕ → ℕ) (valid : Valid grammar_S ds v) where
  no_start : v 2 ≤ length ds → ⊥
  no_start h =
      let down : v 3 ≤ v 2 = valid.rises 3 2 (2, 1, first_start) h in
      let up : v 2 ≤ v 3 = valid.rises 2 3 (0, 0, width_takes) (omega arith) in
      valid.clear 3 2 (2, 1, first_start) h (omega arith) (barred (direction ds (v 2)))

  no_width : v 3 ≤ length ds → ⊥
  no_width h =
      let up : v 2 ≤ v 3 = valid.rises 2 3 (0, 0, width_takes) h in
      no_start (omega arith)

  no_total : v 1 ≤ length ds → ⊥
  no_total h =
      let up : v 3 ≤ v 1 = valid.rises 3 1 (1, 0, total_takes) h in
      no_width (omega arith)

  past : (a : ℕ) → (v a ≤ length ds → ⊥) → length ds < v a
  past a never = ⊎_elim (λ (h : length ds < v a). h) (λ (h : v a ≤ length ds). absurd (never h)) (cases_lt (length ds) (v a))

  none_valid : (a : ℕ) → 1 ≤ a → a ≤ 3 → length ds < v a
  none_valid zero l h = absurd (omega arith)
  none_valid (suc zero) l h = past 1 no_total
  none_valid (suc (suc zero)) l h = past 2 no_start
  none_valid (suc (suc (suc zero))) l h = past 3 no_width
  none_valid (suc (suc (suc (suc a)))) l h = absurd (omega arith)

-- what deletion begins with
abbrev waiting_all : ℕ → State
waiting_all n = record { numbers = λ _. n; waiting = 3 ∷ 2 ∷ 1 ∷ [] }

pass_has_none : (d : Direction) (pass n : ℕ) → number pass (remaining (graph_of grammar_S) d (3 ∷ 2 ∷ 1 ∷ [])) (waiting_all n) ≡ waiting_all n
unfolding member keep none delete remaining number
pass_has_none Left pass n = refl
pass_has_none Right pass n = refl

after_passes : (ds : List Direction) (m : ℕ) → after (graph_of grammar_S) ds (3 ∷ 2 ∷ 1 ∷ []) m ≡ waiting_all (suc (length ds))
unfolding after
after_passes ds zero = refl
after_passes ds (suc m) =
    ap (λ (s : State). number (suc m) (remaining (graph_of grammar_S) (direction ds (suc m)) s.waiting) s) (after_passes ds m)
    ∙ pass_has_none (direction ds (suc m)) (suc m) (suc (length ds))

deleted : (ds : List Direction) (a : ℕ) → grammar_numbering grammar_S ds a ≡ suc (length ds)
unfolding numbering keep
deleted ds a = ap (λ (s : State). s.numbers a) (after_passes ds (length ds))

none_numbered : (ds : List Direction) (a : ℕ) → length ds < grammar_numbering grammar_S ds a
none_numbered ds a = omega (arith, deleted ds a)

-- the note and what is no attribute want no number
wants_no_more : (p : ℕ) (b : Bool) → (wants grammar_S (suc (suc (suc (suc p)))) && b) ≡ false
wants_no_more zero b = refl
wants_no_more (suc p) b = rw (lt-ltb 0 (suc (suc (suc (suc (suc p))))) (omega arith), lt-leb (suc (suc (suc (suc (suc p))))) 4 (omega arith))

unnumbered_set : (ds : List Direction) (numbers : List ℕ) (passes unnumbered : ℕ) → Numbered grammar_S ds numbers passes unnumbered
    → (unnumbered ≡ 7) × (many (has unnumbered) 64 ≡ 3)
unnumbered_set ds numbers passes unnumbered numbered = (seven, ap (λ n. many (has n) 64) seven ∙ seven_size)
  where
    past_plan : (a : ℕ) → 1 ≤ a → a ≤ 3 → length ds < number_of numbers a
    past_plan = none_valid ds (number_of numbers) numbered.valid

    places : (p : ℕ) → has unnumbered p ≡ has 7 p
    places zero = numbered.set 0 ∙ lt-ltb (length ds) (get_or numbers 0 0) (past_plan 1 (lit≤ tt) (lit≤ tt)) ∙ sym seven_0
    places (suc zero) = numbered.set 1 ∙ lt-ltb (length ds) (get_or numbers 1 0) (past_plan 2 (lit≤ tt) (lit≤ tt)) ∙ sym seven_1
    places (suc (suc zero)) = numbered.set 2 ∙ lt-ltb (length ds) (get_or numbers 2 0) (past_plan 3 (lit≤ tt) (lit≤ tt)) ∙ sym seven_2
    places (suc (suc (suc p))) = numbered.set (suc (suc (suc p))) ∙ wants_no_more p _ ∙ sym (seven_past p)

    seven : unnumbered ≡ 7
    seven = same_places unnumbered 7 places

pub numbers_S : SNumbers grammar_S
numbers_S = record {
  none_valid = none_valid;
  none_by_deletion = λ ds. (none_numbered ds 1, none_numbered ds 2, none_numbered ds 3);
  set_of_three = unnumbered_set;
}
