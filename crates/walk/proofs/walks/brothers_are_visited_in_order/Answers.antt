-- The visits one after the other.
use Rattle.walk.proofs.Tours.{brothers_are_visited_in_order}
use Rattle.walk.proofs.walks.brothers_are_visited_in_order.Goals as goal

pub returns : goal.returns
returns c = brothers_are_visited_in_order
