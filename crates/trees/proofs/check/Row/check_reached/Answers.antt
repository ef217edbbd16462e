-- The first place that is not marked is that of the first node that was not reached.
use Rattle.trees.proofs.Rows.{by_first_stray}
use Rattle.trees.proofs.check.Row.check_reached.Goals as goal

pub returns-in-Some : goal.returns-in-Some
returns-in-Some c = by_first_stray _ _ _ c.args.self.now.placed c.in-Some.ensures

pub returns-in-None : goal.returns-in-None
returns-in-None c = by_first_stray _ _ _ c.args.self.now.placed c.in-None.ensures
