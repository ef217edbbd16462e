-- What the calls that check a row of nodes are about, and what they come to.
use Rattle.std.specs.Prelude.{ℕ, true, false, cond, ◌||◌, List, length, Ok, Err, Result, nat_le, slice_index_or, slice_set}
use Rattle.refusal.specs.declared.Refusal.{Refusal}
use Rattle.refusal.specs.declared.Refusal.TheVariants.{BadLink}
use Rattle.trees.specs.declared.node.Node.{Node}
use Rattle.trees.specs.Checking.{Check}

-- a call's answer with the nodes that are reached then, as the outcome of a check
abbrev pub outcome : Result (Unit {0}) Refusal → Check
outcome (Ok u) reached = Ok reached
outcome (Err e) reached = Err e

-- a link to a node that is there and not reached before reaches it; any other is a fault of its holder
abbrev pub reaching : List Node → ℕ → ℕ → Check
reaching nodes holder index reached =
    cond (nat_le (length nodes) index || slice_index_or reached index false) (Err (BadLink holder)) (Ok (slice_set reached index true))
