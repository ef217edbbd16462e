-- Whether every node of a row was reached, by the first place that is not marked.
use Rattle.std.proofs.Common.{◌≡◌, ℕ, zero, suc, ◌+◌, ◌<◌, ◌≤◌, Bool, false, not, List, length, get_or, drop, take, Option, Ok, Err, Result, refl, ap, ◌∙◌, inl, inr, arith, add-one, drop-cons}
use Rattle.std.specs.List.{position, position_from}
use Rattle.std.specs.Option.{option_map_or}
use Rattle.std.proofs.lemmas.Bool.{cases_Bool}
use Rattle.std.proofs.lemmas.Iterator.Adapters.{position_from-zero}
use Rattle.refusal.specs.declared.Refusal.{Refusal}
use Rattle.refusal.specs.declared.Refusal.TheVariants.{BadLink}
use Rattle.trees.specs.Checking.{all_reached}

-- what the first node that was not reached comes to
abbrev by_stray : Option ℕ → Result (Unit {0}) Refusal
by_stray stray = option_map_or (λ n. Err (BadLink n)) stray (Ok tt)

module _ (reached : List Bool) where
  from : (n count : ℕ) → n + count ≤ length reached → by_stray (position_from not n (take count (drop n reached))) ≡ all_reached n count reached
  from n zero h = refl
  from n (suc count) h =
      let here : n < length reached = omega arith in
      rw (drop-cons reached n false) (elim (cases_Bool (get_or reached n false)) [
        | inl there ↦ rw (there, add-one) (from (suc n) count (omega arith))
        | inr missing ↦ rw missing refl
      ])

  pub by_first_stray : (count : ℕ) (stray : Option ℕ) → count ≤ length reached → stray ≡ position not (take count reached) → by_stray stray ≡ all_reached 0 count reached
  by_first_stray count stray placed first =
      ap by_stray (first ∙ position_from-zero not (take count reached)) ∙ from 0 count (omega arith)
