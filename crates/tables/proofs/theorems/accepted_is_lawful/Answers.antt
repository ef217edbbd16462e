use Rattle.tables.proofs.Accepting.{accepted_is_lawful}
use Rattle.tables.proofs.theorems.accepted_is_lawful.Goals as goal

pub returns : goal.returns
returns c = accepted_is_lawful
