-- Pass by pass, what remains is the greatest set that the pass can compute.
use Rattle.numbering.proofs.Deleting.{deletion_is_least}
use Rattle.numbering.proofs.theorems.deletion_is_least.Goals as goal

pub returns : goal.returns
returns c = deletion_is_least
