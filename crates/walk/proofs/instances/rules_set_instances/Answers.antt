-- The target of a rule occurs in its production.
use Rattle.walk.proofs.Rules.{rules_set_instances}
use Rattle.walk.proofs.instances.rules_set_instances.Goals as goal

pub returns : goal.returns
returns c = rules_set_instances
