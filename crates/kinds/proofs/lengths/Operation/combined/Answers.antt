-- A difference, bounded, is what operation 4 makes.
use Rattle.std.proofs.Common.{arith}
use Rattle.std.proofs.lemmas.Int.{to_z-of_z}
use Rattle.std.proofs.lemmas.Bool.Decides.{nat_tests}
use Rattle.kinds.proofs.lengths.Operation.combined.Goals as goal

pub returns-in-Subtract : goal.returns-in-Subtract
returns-in-Subtract c = grind (arith, nat_tests, to_z-of_z)
