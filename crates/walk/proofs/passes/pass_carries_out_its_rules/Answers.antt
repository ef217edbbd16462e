-- Each rule at the step of its target.
use Rattle.walk.proofs.Steps.{pass_carries_out_its_rules}
use Rattle.walk.proofs.passes.pass_carries_out_its_rules.Goals as goal

pub returns : goal.returns
returns g c = pass_carries_out_its_rules _
