-- Each pass numbers what it can compute of the attributes that wait.
use Rattle.std.proofs.Common.{◌≡◌, ◌+◌, cond, length, get_or, sym, ap, ◌∙◌, inl, inr, arith}
use Rattle.std.proofs.lemmas.Bool.{both_ways}
use Rattle.std.proofs.lemmas.Bool.Decides.{when_true, when_false}
use Rattle.std.proofs.lemmas.List.{length_push, nil_from_length}
use Rattle.bitset.specs.Sets.{has}
use Rattle.bitset.proofs.Digits.{has_none}
use Rattle.numbering.specs.Places.{place_graph, wants_at}
use Rattle.numbering.proofs.Going.{going_start, going_pass, numbered_places}
use Rattle.numbering.proofs.WrittenDirections.{next_direction, none_left}
use Rattle.numbering.proofs.numbers.number_places.Goals as goal
use Rattle.numbering.proofs.numbers.number_places.Goals.{then-not-is_empty, else-not-is_empty, in-None, in-Some+then-is_empty}

pub loop-pass-init : goal.loop-pass-init
unfolding wants_at
loop-pass-init c =
    let begun = c.into_iter-pass-iterator.ensures.into_iter_gives in (
      going_start c.args.arcs.now c.args.attributes.now c.wanting-waiting.result c.args.directions.now c.unnumbered.result
          c.requires.attributes c.requires.directions c.wanting-waiting.ensures (c.unnumbered.ensures.whole c.requires.attributes),
      ap (λ z. z.a.start) begun ∙ ap (λ r. r.start) c.zip-pass-items.ensures.first,
      ap (λ z. z.b.rest.now) begun ∙ c.zip-pass-items.ensures.second.0,
    )

pub loop-pass-preserved : goal.loop-pass-preserved
loop-pass-preserved c =
    let steps = c.in-Some.ensures.steps in
    let inv = c.loop-pass.invariant in
    let more = length_push c.loop-pass.yielded (c.in-Some.pass, c.in-Some.direction) in
    let done = length c.loop-pass.yielded in
    let next = next_direction c.args.directions.now done c.in-Some.direction.now c.next.new.self.b.rest.now (sym inv.2 ∙ steps.1) in
    let pass : c.in-Some.pass ≡ done + 1 = steps.0.0 ∙ inv.1 in
    rw more (
      going_pass c.args.arcs.now c.args.attributes.now c.args.directions.now done c.loop-pass.numbers c.loop-pass.passes c.loop-pass.waiting
          inv.0 c.of-relations.result.predecessors c.of-relations.result.left_bars c.of-relations.result.right_bars
          c.of-relations.ensures.predecessors c.of-relations.ensures.bars c.requires.attributes
          c.in-Some.direction.now next.0 next.1 c.computed_in-chosen.result c.computed_in-chosen.ensures
          c.assign.new.numbers c.sub-waiting.result c.if-not-is_empty.passes
          (λ p. c.assign.ensures p ∙ ap (λ n. cond (has c.computed_in-chosen.result p) n (get_or c.loop-pass.numbers p 0)) pass) c.sub-waiting.ensures
          (elim c.if-not-is_empty.branch [
            | then-not-is_empty w ↦ inr (when_false _ _ w.if-not-is_empty.true c.is_empty-in-loop-pass.ensures, w.passes-is ∙ pass)
            | else-not-is_empty w ↦ inl (when_true _ _ w.if-not-is_empty.false c.is_empty-in-loop-pass.ensures, w.passes-is)
          ]),
      steps.0.1 ∙ ap (λ n. n + 1) pass,
      next.2,
    )

pub returns-clause-places : goal.returns-clause-places
returns-clause-places c =
    numbered_places (place_graph c.args.arcs.now c.args.attributes.now) c.args.directions.now _ (length c.loop-pass.yielded) c.loop-pass.numbers c.loop-pass.passes c.loop-pass.waiting c.loop-pass.invariant.0
    (λ p waits. elim c.match-next.branch [
      | in-None w ↦ elim w.in-None.ensures.steps [
        | inl past ↦ absurd (omega (arith, past.1, c.loop-pass.invariant.1, c.loop-pass.invariant.0.planned, c.requires.directions))
        | inr over ↦ none_left c.args.directions.now (length c.loop-pass.yielded) (sym c.loop-pass.invariant.2 ∙ nil_from_length _ over.1.0)
      ]
      | in-Some+then-is_empty w ↦ let z : c.loop-pass.waiting ≡ 0 = when_true _ _ w.if-is_empty.true w.is_empty.ensures in absurd (both_ways (has c.loop-pass.waiting p) (ap (λ x. has x p) z ∙ has_none p) waits)
    ])
