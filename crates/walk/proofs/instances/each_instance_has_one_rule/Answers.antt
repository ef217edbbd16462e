-- At the node or at its parent.
use Rattle.walk.proofs.Rules.{each_instance_has_one_rule}
use Rattle.walk.proofs.instances.each_instance_has_one_rule.Goals as goal

pub returns : goal.returns
returns c = each_instance_has_one_rule
