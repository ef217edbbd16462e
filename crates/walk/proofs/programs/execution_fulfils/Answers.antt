-- What an assignment reads and sets is not set again.
use Rattle.walk.proofs.Executions.{execution_fulfils}
use Rattle.walk.proofs.programs.execution_fulfils.Goals as goal

pub returns : goal.returns
returns g c = execution_fulfils _
