-- Each exit of a subtree gives what the rest of its children give, and each turn checks one child more.
use Rattle.std.proofs.Common.{sym, refl, ◌∙◌}
use Rattle.std.proofs.lemmas.Bool.{and_left, and_right, ne_eqb}
use Rattle.std.proofs.lemmas.Result.{err_from_is_err_and}
use Rattle.trees.proofs.Children.{too_deep, missing, lost, refused, more, ended, over, by_children, unfit}
use Rattle.trees.proofs.check.Row.+check_subtree.Goals as goal
use Rattle.trees.proofs.check.Row.+check_subtree.Goals.{then-node-symbol-via-then-node-symbol, then-node-symbol-via-else-node-symbol+then-not-fits}

pub returns-then-room-eq0-clause-reached : goal.returns-then-room-eq0-clause-reached
returns-then-room-eq0-clause-reached t c = too_deep _ _ _ _ _ _ c.if-room-eq0.true

pub returns-then-node-symbol-clause-reached : goal.returns-then-node-symbol-clause-reached
returns-then-node-symbol-clause-reached t c = unfit _ _ _ _ _ _ c.if-room-eq0.false (elim c.then-node-symbol.branch [
  | then-node-symbol-via-then-node-symbol w ↦ and_left _ _ (ne_eqb _ _ w.if-node-symbol.true)
  | then-node-symbol-via-else-node-symbol+then-not-fits w ↦ and_right _ _ (sym w.if-not-fits.ensures)
])

pub loop-expected-init : goal.loop-expected-init
loop-expected-init t c = (
  refl,
  by_children _ _ _ _ _ _ _ c.if-room-eq0.false c.if-node-symbol.false c.if-not-fits.ensures c.right_side-right.ensures,
)

pub returns-then-index-eq0-clause-reached : goal.returns-then-index-eq0-clause-reached
returns-then-index-eq0-clause-reached t c =
    missing _ _ _ _ _ _ _ _ _ _ c.loop-expected.invariant.1 c.loop-expected-test.true c.if-index-eq0.true

pub returns-in_err-reach-clause-reached : goal.returns-in_err-reach-clause-reached
returns-in_err-reach-clause-reached t c =
    let p = err_from_is_err_and c.from_residual.result c.from_residual.ensures.1 in
    let reached = rw c.loop-expected.invariant.0 at c.in_err-reach.ensures.reached in
    rw (p.1, p.2) (lost _ _ _ _ _ _ _ _ _ _ c.loop-expected.invariant.1 c.loop-expected-test.true c.if-index-eq0.false _ reached)

pub returns-in_err-check_subtree-clause-reached : goal.returns-in_err-check_subtree-clause-reached
returns-in_err-check_subtree-clause-reached t c =
    let p = err_from_is_err_and c.from_residual-in_err-check_subtree.result c.from_residual-in_err-check_subtree.ensures.1 in
    let reached = rw c.loop-expected.invariant.0 at c.in_ok-reach.ensures.reached in
    let checked = rw (c.in_ok-reach.ensures.nodes, c.loop-expected.invariant.0) at c.in_err-check_subtree.ensures.reached in
    rw (p.1, p.2) (refused _ _ _ _ _ _ _ _ _ _ c.loop-expected.invariant.1 c.loop-expected-test.true c.if-index-eq0.false
    c.reach.new.self.reached reached _ checked)

pub loop-expected-preserved : goal.loop-expected-preserved
loop-expected-preserved t c =
    let same = c.in_ok-check_subtree.ensures.nodes ∙ c.in_ok-reach.ensures.nodes ∙ c.loop-expected.invariant.0 in
    let reached = rw c.loop-expected.invariant.0 at c.in_ok-reach.ensures.reached in
    let checked = rw (c.in_ok-reach.ensures.nodes, c.loop-expected.invariant.0) at c.in_ok-check_subtree.ensures.reached in (
      same,
      more _ _ _ _ _ _ _ _ _ _ c.loop-expected.invariant.1 c.loop-expected-test.true c.if-index-eq0.false
          c.reach.new.self.reached reached c.check_subtree.new.self.reached checked,
    )

pub returns-then-index-eq0-2-clause-reached : goal.returns-then-index-eq0-2-clause-reached
returns-then-index-eq0-2-clause-reached t c = ended _ _ _ _ _ _ _ _ _ _ c.loop-expected.invariant.1 c.loop-expected-test.false c.if-index-eq0-2.true

pub returns-else-index-eq0-2-clause-reached : goal.returns-else-index-eq0-2-clause-reached
returns-else-index-eq0-2-clause-reached t c = over _ _ _ _ _ _ _ _ _ _ c.loop-expected.invariant.1 c.loop-expected-test.false c.if-index-eq0-2.false
