-- Each entry has room for the levels below it.
use Rattle.walk.proofs.Machine.{path_is_within_the_depth}
use Rattle.walk.proofs.paths.path_is_within_the_depth.Goals as goal

pub returns : goal.returns
returns c = path_is_within_the_depth
