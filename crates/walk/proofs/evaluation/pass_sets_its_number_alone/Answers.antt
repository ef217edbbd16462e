-- Other instances have other cells.
use Rattle.walk.proofs.Evaluations.{pass_sets_its_number_alone}
use Rattle.walk.proofs.evaluation.pass_sets_its_number_alone.Goals as goal

pub returns : goal.returns
returns g c = pass_sets_its_number_alone _
