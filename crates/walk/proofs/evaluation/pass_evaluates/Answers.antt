-- The earlier numbers stay, and the pass fulfils its own.
use Rattle.walk.proofs.Evaluations.{pass_evaluates}
use Rattle.walk.proofs.evaluation.pass_evaluates.Goals as goal

pub returns : goal.returns
returns g c = pass_evaluates _
