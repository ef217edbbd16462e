-- The passes that have come are done, and the next direction is that of the next pass.
use Rattle.std.proofs.Common.{◌≡◌, ◌+◌, length, drop}
use Rattle.numbering.specs.Places.{place_graph}
use Rattle.numbering.proofs.Going.{Going}
use Rattle.numbering.proofs.numbers.number_places.Given as goal

abbrev pub invariant-loop-pass : goal.invariant-loop-pass
invariant-loop-pass l =
    let done = length l.yielded in
    Going (place_graph l.arcs l.attributes) l.directions (length l.attributes) done l.numbers l.passes l.waiting
    × (l.pass-iterator.a.start ≡ done + 1) × (l.pass-iterator.b.rest.now ≡ drop done l.directions)
