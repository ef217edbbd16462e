-- What was executed, and where it stopped.
use Rattle.walk.proofs.Executions.{execution_stops_at_the_undefined}
use Rattle.walk.proofs.programs.execution_stops_at_the_undefined.Goals as goal

pub returns : goal.returns
returns g c = execution_stops_at_the_undefined _
