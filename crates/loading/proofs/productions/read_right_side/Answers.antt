use Rattle.std.proofs.Common.{◌≡◌, ◌+◌, ◌<◌, ◌≤◌, [], ◌∷◌, ◌++◌, is_ok, vec_items, vec_len, sym, ap, ◌∙◌, inr, arith}
use Rattle.std.proofs.ResultArms.{chosen}
use Rattle.std.proofs.lemmas.Result.{err_from_is_err_and}
use Rattle.std.proofs.lemmas.Bool.{cond-true, cond-false}
use Rattle.tables.proofs.Along.{ended, halted, passed, stopped, more}
use Rattle.loading.proofs.productions.read_right_side.Goals as goal

pub returns-in_err-found : goal.returns-in_err-found
returns-in_err-found c =
    let p = err_from_is_err_and c.from_residual.result c.from_residual.ensures.1 in
    rw (p.1, p.2) (record { few = tt; value = λ admitted. inr (cond-true _ _ _ (sym c.if-not-is_inner.ensures) ∙ halted (c.positions.invariant.1 admitted) c.in_err-found.ensures.value) })

pub returns-then-len-eq-MOST_POSITIONS : goal.returns-then-len-eq-MOST_POSITIONS
returns-then-len-eq-MOST_POSITIONS c =
    let full : 8 ≤ vec_len c.positions.right = omega arith in
    record {
      few = tt;
      value = λ admitted. inr (cond-true _ _ _ (sym c.if-not-is_inner.ensures)
          ∙ passed (c.positions.invariant.1 admitted) c.in_ok-found.ensures.value c.in-Some.is full);
    }

pub returns-then-not-is_inside : goal.returns-then-not-is_inside
returns-then-not-is_inside c =
    let less : vec_len c.positions.right < 8 = omega arith in
    record {
      few = tt;
      value = λ admitted. inr (cond-true _ _ _ (sym c.if-not-is_inner.ensures)
          ∙ stopped (c.positions.invariant.1 admitted) c.in_ok-found.ensures.value c.in-Some.is less
          (cond-false _ _ _ (sym c.if-not-is_inside.ensures)));
    }

pub positions-preserved : goal.positions-preserved
positions-preserved c =
    let ok = ap is_ok c.in_ok-push.was in
    let less : vec_len c.positions.right < 8 = omega arith in
    let pushed : vec_items c.push.new.self ≡ vec_items c.positions.right ++ c.in-Some.found.w1 ∷ [] = chosen _ _ _ _ c.push.ensures.items ok in
    let one : vec_len c.push.new.self ≡ vec_len c.positions.right + 1 = chosen _ _ _ _ c.push.ensures.len ok in (
      omega arith,
      λ admitted.
          rw pushed (more (c.positions.invariant.1 admitted) c.in_ok-found.ensures.value c.in-Some.is less
          (cond-true _ _ _ (sym c.if-not-is_inside.ensures)) one c.next_link-link.ensures),
    )

pub returns : goal.returns
returns c = record {
  few = c.positions.invariant.0;
  value = λ admitted. cond-true _ _ _ (sym c.if-not-is_inner.ensures) ∙ ended (c.positions.invariant.1 admitted) c.in_ok-found.ensures.value c.in_default.is;
}
