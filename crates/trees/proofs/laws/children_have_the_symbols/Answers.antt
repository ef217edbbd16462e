-- Down the forest, brother by brother.
use Rattle.trees.proofs.Symbols.{children_have_the_symbols}
use Rattle.trees.proofs.laws.children_have_the_symbols.Goals as goal

pub returns : goal.returns
returns c = children_have_the_symbols
