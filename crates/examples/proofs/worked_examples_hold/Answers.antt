-- The contract states the worked examples.
use Rattle.examples.proofs.Whole.{worked_examples}
use Rattle.examples.proofs.worked_examples_hold.Goals as goal

pub returns : goal.returns
returns c = worked_examples
