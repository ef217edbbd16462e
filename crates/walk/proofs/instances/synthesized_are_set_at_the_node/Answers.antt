-- A synthesized target is at position 0.
use Rattle.walk.proofs.Rules.{synthesized_are_set_at_the_node}
use Rattle.walk.proofs.instances.synthesized_are_set_at_the_node.Goals as goal

pub returns : goal.returns
returns c = synthesized_are_set_at_the_node
