-- The place that is written was the first of the unused ones.
use Rattle.std.proofs.Common.{◌≡◌, suc, ◌+◌, ◌-◌, drop, replicate, sym, ap, ◌∙◌, arith, length-set}
use Rattle.std.proofs.lemmas.List.{drop-set-lt, drop-drop}
use Rattle.plans.specs.declared.Direction.TheVariants.{Left}
use Rattle.grammar.proofs.directions.Directions.push.Goals as goal

pub invariant_of-self : goal.invariant_of-self
invariant_of-self c =
    let inside = c.self.inside in
    let inv = c.self.invariant in
    let one_less : 128 - inside.planned ≡ suc (128 - (inside.planned + 1)) = omega arith in (
      simp length-set inv.0,
      omega arith,
      drop-set-lt (inside.planned + 1) inside.passes inside.planned _ (omega arith) ∙ sym (drop-drop 1 inside.planned inside.passes)
          ∙ ap (λ ds. drop 1 ds) inv.2 ∙ ap (λ n. drop 1 (replicate n Left)) one_less,
    )
