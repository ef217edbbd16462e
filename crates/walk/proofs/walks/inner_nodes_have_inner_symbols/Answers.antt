-- A node has a production exactly where its symbol is inner.
use Rattle.walk.proofs.InnerNodes.{inner_nodes_have_inner_symbols}
use Rattle.walk.proofs.walks.inner_nodes_have_inner_symbols.Goals as goal

pub returns : goal.returns
returns c = inner_nodes_have_inner_symbols
