-- The labels of the board, read as precedence and bars.
use Rattle.grammar.proofs.Relations.{labels_stand_for_relations}
use Rattle.grammar.proofs.theorems.labels_stand_for_relations.Goals as goal

pub returns : goal.returns
returns c = labels_stand_for_relations
