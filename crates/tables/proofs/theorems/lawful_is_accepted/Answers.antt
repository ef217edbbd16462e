use Rattle.tables.proofs.LawfulTables.{lawful_is_accepted}
use Rattle.tables.proofs.theorems.lawful_is_accepted.Goals as goal

pub returns : goal.returns
returns c = lawful_is_accepted
