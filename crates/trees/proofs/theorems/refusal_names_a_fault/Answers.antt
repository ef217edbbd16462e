-- The fault is met where the check stops.
use Rattle.trees.proofs.Refusing.{refusal_names_a_fault}
use Rattle.trees.proofs.theorems.refusal_names_a_fault.Goals as goal

pub returns : goal.returns
returns c = refusal_names_a_fault
