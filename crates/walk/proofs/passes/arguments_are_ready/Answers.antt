-- By number and by order.
use Rattle.walk.proofs.Readiness.{arguments_are_ready}
use Rattle.walk.proofs.passes.arguments_are_ready.Goals as goal

pub returns : goal.returns
returns g c = arguments_are_ready _
