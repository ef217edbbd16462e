-- After the last turn all attributes were looked at, or the first 64.
use Rattle.std.proofs.Common.{arith}
use Rattle.grammar.proofs.FirstNumbers.{looked_at}
use Rattle.grammar.proofs.numbers.unnumbered.Goals as goal

pub returns-after-loop-place : goal.returns-after-loop-place
returns-after-loop-place c =
    let inv = c.loop-place.invariant in
    let both = looked_at c.args.attributes.now c.loop-place.place c.loop-place.numbers inv.0 inv.2 (omega arith) (λ _. omega arith) in
    record { first = both.0; whole = both.1 }

pub returns-then-place-eq-MOST_ATTRIBUTES : goal.returns-then-place-eq-MOST_ATTRIBUTES
returns-then-place-eq-MOST_ATTRIBUTES c =
    let inv = c.loop-place.invariant in
    let both = looked_at c.args.attributes.now c.loop-place.place c.loop-place.numbers inv.0 inv.2 (omega arith) (λ l. omega arith) in
    record { first = both.0; whole = both.1 }
