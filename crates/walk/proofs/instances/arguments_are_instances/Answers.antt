-- The arguments of a rule occur in its production.
use Rattle.walk.proofs.Rules.{arguments_are_instances}
use Rattle.walk.proofs.instances.arguments_are_instances.Goals as goal

pub returns : goal.returns
returns c = arguments_are_instances
