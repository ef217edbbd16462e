-- Outside the plan there is no direction; inside, the directions take turns.
use Rattle.std.proofs.Common.{rules}
use Rattle.plans.proofs.Plans.{alternating_direction, outside}
use Rattle.plans.proofs.alternating.AlternatingPlan.direction.Goals as goal
use Rattle.plans.proofs.alternating.AlternatingPlan.direction.Goals.{then-pass-ge1, else-pass-ge1}

pub returns : goal.returns
returns c =
    elim c.if-pass-ge1.branch [
      | then-pass-ge1 w ↦ search (rules, alternating_direction, outside)
      | else-pass-ge1 w ↦ search (rules, alternating_direction, outside)
    ]
