-- The targets agree one after the other.
use Rattle.walk.proofs.Executions.{fulfilment_is_unique}
use Rattle.walk.proofs.programs.fulfilment_is_unique.Goals as goal

pub returns : goal.returns
returns g c = fulfilment_is_unique _
