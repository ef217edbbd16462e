-- A place past the word adds nothing.
use Rattle.std.proofs.Common.{◌^◌, ◌||◌, sym, ap, ◌∙◌}
use Rattle.bitset.specs.Sets.{has}
use Rattle.bitset.proofs.Digits.{has_or, has_one, place_within}
use lib.Bits.{or_lt}
use Rattle.std.proofs.lemmas.Nat.{one_shl, pow_below}
use Rattle.bitset.proofs.Places.with.Goals as goal

pub returns : goal.returns
returns c p =
    let within = c.if-place-ge-PLACES.false in
    let word = c.self.inside.word in
    rw (← c.self.view_is, one_shl c.args.place 64 within)
    (has_or word (2 ^ c.args.place) p ∙ ap (λ b. has word p || b) (has_one c.args.place p ∙ sym (place_within c.args.place p within)))

pub invariant_of-result-2 : goal.invariant_of-result-2
invariant_of-result-2 c =
    let within = c.if-place-ge-PLACES.false in
    rw (one_shl c.args.place 64 within) (or_lt 64 c.self.inside.word (2 ^ c.args.place) c.self.invariant (pow_below c.args.place 64 within))
