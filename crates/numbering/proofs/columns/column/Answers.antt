-- Each turn looks at one label of the column.
use Rattle.std.proofs.Common.{◌<◌, length, ◌≡◌, ℕ, ◌+◌, ◌*◌, not, ◌&&◌, ◌||◌, eqb, ltb, get_or, sym, ap, ◌∙◌, arith}
use lib.Bits.{bit_and}
use Rattle.std.proofs.lemmas.Bool.{and_left, le-ltb, eq-eqb, ne_eqb}
use Rattle.bitset.specs.Sets.{has}
use Rattle.bitset.proofs.Digits.{has_none}
use Rattle.numbering.specs.Places.{marked}
use Rattle.numbering.proofs.Filling.{filled, passed, row_at, rest_at, rest_left}
use Rattle.numbering.proofs.columns.column.Goals as goal
use Rattle.numbering.proofs.columns.column.Goals.{In-Some}

pub loop-other-init : goal.loop-other-init
loop-other-init c =
    let begun = c.into_iter-other-iterator.ensures.into_iter_gives in
    let rows = c.enumerate-other-items.ensures.source in
    let count = c.enumerate-other-items.ensures.count in
    let all = c.chunks_exact.ensures.rest in
    rw (begun, count, rows, all, c.default-set.ensures) (
      c.chunks_exact.ensures.size,
      omega (arith, c.told-arcs),
      λ k. let first : k ≡ 0 + k = omega arith in ap (λ n. get_or c.args.arcs.now n 0) first,
      λ p. has_none p ∙ sym (and_left (ltb p 0) (marked c.args.arcs.now c.args.bit p c.args.place) (le-ltb p 0 (omega arith))),
    )

-- the rows behind the one that is looked at
behind : (c : In-Some) → let rows = c.next.new.self.iter in let seen = c.next.new.self.count in
    (rows.size ≡ 64) × (length rows.rest.now + 64 * seen ≡ 4096) × ((k : ℕ) → get_or rows.rest.now k 0 ≡ get_or c.args.arcs.now (64 * seen + k) 0)
    × (c.loop-other.other-iterator.count < 64) × (get_or c.in-Some.row.now c.args.place 0 ≡ get_or c.args.arcs.now (64 * c.loop-other.other-iterator.count + c.args.place) 0)
behind c =
    let steps = c.in-Some.ensures.steps in
    let rows = c.loop-other.other-iterator in
    let rest = c.next.new.self.iter.rest.now in
    let inv = c.loop-other.invariant in
    let long = steps.0.1.1 ∙ inv.0 in
    let left = rest_left c.args.arcs.now rows.iter.rest.now c.in-Some.row.now rest rows.count steps.0.1.0 long inv.2 in (
      steps.0.0 ∙ inv.0,
      omega (arith, inv.1, steps.2, left),
      λ k. rest_at c.args.arcs.now rows.iter.rest.now c.in-Some.row.now rest rows.count steps.0.1.0 long inv.2 k ∙ ap (λ n. get_or c.args.arcs.now (64 * n + k) 0) (sym steps.2),
      omega (arith, inv.1, left),
      row_at c.args.arcs.now rows.iter.rest.now c.in-Some.row.now rest rows.count steps.0.1.0 long inv.2 c.args.place c.requires,
    )

pub loop-other-preserved-then-row-place-ne0 : goal.loop-other-preserved-then-row-place-ne0
unfolding marked
loop-other-preserved-then-row-place-ne0 c =
    let more = behind (goal.at.loop-other-preserved-then-row-place-ne0 c).In-Some in
    let steps = c.in-Some.ensures.steps in
    let seen = c.loop-other.other-iterator.count in
    let test = λ (p : ℕ). marked c.args.arcs.now c.args.bit p c.args.place in (
      more.0,
      more.1,
      more.2,
      λ p. c.with-set.ensures p ∙ ap (λ n. has c.loop-other.set p || (ltb p 64 && eqb p n)) steps.1 ∙ ap (λ b. b || (ltb p 64 && eqb p seen)) (c.loop-other.invariant.3 p)
          ∙ filled test seen p more.3 (ap not (ne_eqb _ 0 (λ e. c.if-row-place-ne0.true (ap (λ x. bit_and x c.args.bit) more.4 ∙ e)))) ∙ ap (λ n. ltb p n && test p) (sym steps.2),
    )

pub loop-other-preserved : goal.loop-other-preserved
unfolding marked
loop-other-preserved c =
    let more = behind (goal.at.loop-other-preserved c).In-Some in
    let steps = c.in-Some.ensures.steps in
    let test = λ (p : ℕ). marked c.args.arcs.now c.args.bit p c.args.place in (
      more.0,
      more.1,
      more.2,
      λ p. c.loop-other.invariant.3 p ∙ passed test c.loop-other.other-iterator.count p (ap not (eq-eqb _ 0 (ap (λ x. bit_and x c.args.bit) (sym more.4) ∙ c.if-row-place-ne0.false)))
          ∙ ap (λ n. ltb p n && test p) (sym steps.2),
    )
