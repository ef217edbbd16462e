use Rattle.tables.proofs.FaultsWhole.{refusal_names_a_fault}
use Rattle.tables.proofs.theorems.refusal_names_a_fault.Goals as goal

pub returns : goal.returns
returns c = refusal_names_a_fault
