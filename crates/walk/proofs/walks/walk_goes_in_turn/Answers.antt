-- Down, up and across.
use Rattle.walk.proofs.Turning.{walk_goes_in_turn}
use Rattle.walk.proofs.walks.walk_goes_in_turn.Goals as goal

pub returns : goal.returns
returns c = walk_goes_in_turn
