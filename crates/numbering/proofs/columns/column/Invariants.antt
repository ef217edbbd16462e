-- The rows that are looked at are the first of the board, and the set has what they say.
use Rattle.std.proofs.Common.{◌≡◌, ℕ, ◌+◌, ◌*◌, ◌&&◌, ltb, length, get_or}
use Rattle.bitset.specs.Sets.{has}
use Rattle.numbering.specs.Places.{marked}
use Rattle.numbering.proofs.columns.column.Given as goal

abbrev pub invariant-loop-other : goal.invariant-loop-other
invariant-loop-other l =
    let rows = l.other-iterator.iter in
    let seen = l.other-iterator.count in
    (rows.size ≡ 64) × (length rows.rest.now + 64 * seen ≡ 4096)
    × ((k : ℕ) → get_or rows.rest.now k 0 ≡ get_or l.arcs (64 * seen + k) 0)
    × ((p : ℕ) → has l.set p ≡ (ltb p seen && marked l.arcs l.bit p l.place))
