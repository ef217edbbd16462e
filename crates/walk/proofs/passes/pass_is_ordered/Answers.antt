-- What a rule takes is set at an earlier step.
use Rattle.walk.proofs.Order.{pass_is_ordered}
use Rattle.walk.proofs.passes.pass_is_ordered.Goals as goal

pub returns : goal.returns
returns g c = pass_is_ordered _
