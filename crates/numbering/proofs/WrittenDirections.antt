-- A plan's directions, written and read one after another.
use Rattle.std.proofs.Common.{◌≡◌, ℕ, zero, suc, ◌+◌, ◌-◌, ◌<◌, ◌≤◌, Bool, true, cond, List, [], ◌∷◌, ◌++◌, length, get_or, take, Some, None, Option, drop, sym, refl, ap, ◌∙◌, inl, inr, add-one, arith, length-take}
use Rattle.std.proofs.Math.ListN.{drop_of_length-le}
use Rattle.std.proofs.Math.Seq.{drop-cons}
use Rattle.std.proofs.lemmas.Bool.{cond-true, cases_lt}
use Rattle.std.proofs.lemmas.List.{take_more}
use Rattle.plans.specs.declared.Direction.{Direction}
use Rattle.plans.specs.declared.Direction.TheVariants.{Left}
use Rattle.plans.specs.Plans.{direction_at}

direction_is : (ds : List Direction) (k : ℕ) → k < length ds → direction_at ds (suc k) ≡ Some (get_or ds k Left)
unfolding direction_at
direction_is [] k h = absurd (omega arith)
direction_is (d ∷ ds) zero h = refl
direction_is (d ∷ ds) (suc k) h = direction_is ds k (omega arith)

module _ (ds : List Direction) (pass : ℕ) (low : 1 ≤ pass) (high : pass ≤ length ds) (answer : Option Direction) (is : answer ≡ direction_at ds pass) where
  answer_is : answer ≡ Some (get_or ds (pass - 1) Left)
  answer_is = let here : pass ≡ suc (pass - 1) = omega arith in is ∙ ap (direction_at ds) here ∙ direction_is ds (pass - 1) (omega arith)

  pub never_none : answer ≡ None → ⊥
  never_none e =
      let some = answer_is in
      let z : ◌≡◌ {A = ℕ} 0 1 = cc in
      omega arith

  pub one_more : (short : length ds ≤ 128) (d : Direction) (room : Bool) (old new : List Direction) → answer ≡ Some d → old ≡ take (pass - 1) ds → (length old < 128 → room ≡ true)
      → new ≡ cond room (old ++ d ∷ []) old → new ≡ take (pass + 1 - 1) ds
  one_more short d room old new e same fits pushed =
      let some = answer_is in
      let it : d ≡ get_or ds (pass - 1) Left = cc in
      let next : pass - 1 + 1 ≡ pass + 1 - 1 = omega arith in
      let free : length old < 128 = omega (arith, ap length same, length-take (pass - 1) ds) in
      pushed ∙ cond-true room (old ++ d ∷ []) old (fits free) ∙ ap (λ front. front ++ d ∷ []) same ∙ ap (λ x. take (pass - 1) ds ++ x ∷ []) it
      ∙ sym (take_more ds (pass - 1) Left (omega arith)) ∙ ap (λ n. take n ds) next

-- what is left of directions, one after another
pub next_direction : (ds : List Direction) (n : ℕ) (d : Direction) (rest : List Direction) → drop n ds ≡ d ∷ rest → (n < length ds) × (d ≡ get_or ds n Left) × (rest ≡ drop (n + 1) ds)
next_direction ds n d rest e = elim (cases_lt n (length ds)) [
  | inl l ↦
      let here = drop-cons ds n Left l in
      let it : d ≡ get_or ds n Left = cc in
      let left : rest ≡ drop (suc n) ds = cc in
      (l, it, left ∙ ap (λ k. drop k ds) (sym (add-one n)))
  | inr l ↦ let none = drop_of_length-le ds l in let z : ◌≡◌ {A = ℕ} 0 1 = cc in absurd (omega arith)
]

pub none_left : (ds : List Direction) (n : ℕ) → drop n ds ≡ [] → length ds ≤ n
none_left ds n e = elim (cases_lt n (length ds)) [
  | inl l ↦ let here = drop-cons ds n Left l in let z : ◌≡◌ {A = ℕ} 0 1 = cc in absurd (omega arith)
  | inr l ↦ l
]
