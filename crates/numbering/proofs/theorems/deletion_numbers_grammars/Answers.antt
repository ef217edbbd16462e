-- The tests of a grammar's graph decide its relations.
use Rattle.numbering.proofs.GrammarDeletion.{deletion_numbers_grammars}
use Rattle.numbering.proofs.theorems.deletion_numbers_grammars.Goals as goal

pub returns : goal.returns
returns c = deletion_numbers_grammars
