-- Rules take no greater numbers.
use Rattle.walk.proofs.Evaluations.{evaluation_stays}
use Rattle.walk.proofs.evaluation.evaluation_stays.Goals as goal

pub returns : goal.returns
returns g c = evaluation_stays _
