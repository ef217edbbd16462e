-- One pass after the other.
use Rattle.walk.proofs.Evaluations.{passes_compose}
use Rattle.walk.proofs.evaluation.passes_compose.Goals as goal

pub returns : goal.returns
returns g c = passes_compose _
