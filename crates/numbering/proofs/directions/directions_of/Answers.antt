-- Each turn writes one direction more.
use Rattle.std.proofs.Common.{◌+◌, ◌-◌, ◌≤◌, length, ◌∙◌, arith}
use Rattle.std.proofs.lemmas.List.{take_all}
use Rattle.numbering.proofs.WrittenDirections.{never_none, one_more}
use Rattle.numbering.proofs.directions.directions_of.Goals as goal
use Rattle.numbering.proofs.directions.directions_of.Goals.{in-Some, in_default}

pub loop-pass-preserved : goal.loop-pass-preserved
loop-pass-preserved g c =
    let ds = g.P.Plan.directions c.args.plan.now in
    let high : c.loop-pass.pass ≤ length ds = omega (arith, c.passes-pass-end.ensures) in
    elim c.match-direction.branch [
      | in-Some w ↦ w.directions-is ∙ one_more ds c.loop-pass.pass (omega arith) high c.direction.result c.direction.ensures (g.met.P.Plan.bounded c.args.plan.now).1 w.in-Some.direction
          w.push.result c.loop-pass.directions w.push.new.self w.in-Some.is c.loop-pass.invariant w.push.ensures.room.1 w.push.ensures.pushed
      | in_default w ↦ absurd (never_none ds c.loop-pass.pass (omega arith) high c.direction.result c.direction.ensures w.in_default.is)
    ]

pub returns-after-direction : goal.returns-after-direction
returns-after-direction g c =
    let ds = g.P.Plan.directions c.args.plan.now in
    let high : c.loop-pass.pass ≤ length ds = omega (arith, c.passes-pass-end.ensures) in
    let last : length ds ≤ c.loop-pass.pass + 1 - 1 = omega (arith, c.passes-pass-end.ensures) in
    elim c.match-direction.branch [
      | in-Some w ↦ w.directions-is ∙ one_more ds c.loop-pass.pass (omega arith) high c.direction.result c.direction.ensures (g.met.P.Plan.bounded c.args.plan.now).1 w.in-Some.direction
          w.push.result c.loop-pass.directions w.push.new.self w.in-Some.is c.loop-pass.invariant w.push.ensures.room.1 w.push.ensures.pushed ∙ take_all (c.loop-pass.pass + 1 - 1) ds last
      | in_default w ↦ absurd (never_none ds c.loop-pass.pass (omega arith) high c.direction.result c.direction.ensures w.in_default.is)
    ]
