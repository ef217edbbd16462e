-- Along the right side, position by position.
use Rattle.trees.proofs.Symbols.{child_has_its_symbol}
use Rattle.trees.proofs.laws.child_has_its_symbol.Goals as goal

pub returns : goal.returns
returns c = child_has_its_symbol
