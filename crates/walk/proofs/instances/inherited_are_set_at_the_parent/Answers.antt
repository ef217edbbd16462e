-- An inherited target is at a child.
use Rattle.walk.proofs.Rules.{inherited_are_set_at_the_parent}
use Rattle.walk.proofs.instances.inherited_are_set_at_the_parent.Goals as goal

pub returns : goal.returns
returns c = inherited_are_set_at_the_parent
