-- Outside the plan there is no letter; inside, the letter of the pass tells the direction.
use Rattle.std.proofs.Common.{rules, arith, ◌≡◌, ◌<◌, length, ◌∙◌, sym, ap, take, get_or}
use Rattle.std.specs.Result.{result_ok}
use Rattle.std.proofs.lemmas.List.{length-take, get_or-take, get_or_default}
use Rattle.std.proofs.lemmas.Bool.Decides.{nat_tests}
use Rattle.plans.proofs.Plans.{outside, written_direction}
use Rattle.plans.proofs.written.WrittenPlan.direction.Goals as goal

pub returns-then-pass-passes : goal.returns-then-pass-passes
returns-then-pass-passes c = search (rules, nat_tests, outside)

pub returns-in_err-place : goal.returns-in_err-place
returns-in_err-place c = search (rules, outside)

pub returns : goal.returns
returns c =
    let plan = c.args.self.now in
    let place = c.in_ok-place.place in
    let letter = get_or plan.letters place 0 in
    let few : place < plan.count = omega arith in
    let long : length plan.letters ≡ 128 = search rules in
    let kept = get_or_default plan.letters place 0 letter (omega (arith, long, plan.bounds)) ∙ sym (get_or-take plan.count plan.letters place letter few) in
    c.ok.ensures.value ∙ ap result_ok c.try_from.ensures
    ∙ sym (written_direction (take plan.count plan.letters) _ place letter (omega arith, omega arith) (omega (arith, length-take plan.count plan.letters, long, few)) kept plan.lettered)
