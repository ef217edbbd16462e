-- The beginning of an ordered list is ordered.
use Rattle.walk.proofs.Executions.{beginnings_likewise}
use Rattle.walk.proofs.programs.beginnings_likewise.Goals as goal

pub returns : goal.returns
returns g c = beginnings_likewise _
