use Rattle.std.proofs.Common.{rules}
use Rattle.tables.proofs.Free.{free_reach}
use Rattle.tables.proofs.table.Table.follow.Goals as goal

pub returns : goal.returns
returns c = record { value = search rules; left = search (rules, free_reach) }
