-- No earlier rule takes what is rewritten.
use Rattle.walk.proofs.Evaluations.{rewriting_keeps_the_earlier}
use Rattle.walk.proofs.evaluation.rewriting_keeps_the_earlier.Goals as goal

pub returns : goal.returns
returns g c = rewriting_keeps_the_earlier _
