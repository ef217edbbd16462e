-- Lengths and directions of the two kinds of plan.
use Rattle.std.proofs.Common.{◌≡◌, ℕ, zero, suc, ◌-◌, ◌<◌, ◌≤◌, false, not, List, [], ◌∷◌, length, get_or, slice_get, option_map, Some, None, is_some, sym, refl, ap, ◌∙◌, arith, rules}
use Rattle.std.specs.Result.{result_ok}
use Rattle.std.proofs.lemmas.List.Sums.{fails_before_first}
use Rattle.std.proofs.lemmas.Option.{slice_get-map, slice_get_past, slice_get_read}
use Rattle.std.proofs.lemmas.Bool.Decides.{nat_tests}
use Rattle.plans.specs.declared.Direction.{Direction}
use Rattle.plans.specs.declared.Direction.TheVariants.{Left, Right}
use Rattle.plans.specs.Plans.{alternating, byte_direction, direction_at, first_wrong, in_turn, letter, letter_direction, opposite, written}

before_first : (ds : List Direction) → direction_at ds 0 ≡ None
unfolding direction_at
before_first [] = refl
before_first (d ∷ ds) = refl

-- the first pass goes by the direction at place 0
at_place : (ds : List Direction) (k : ℕ) → direction_at ds (suc k) ≡ slice_get ds k
unfolding direction_at
at_place [] k = sym (slice_get_past [] k (omega arith))
at_place (d ∷ ds) zero = refl
at_place (d ∷ ds) (suc k) = at_place ds k

pub outside : (ds : List Direction) (pass : ℕ) → (1 ≤ pass → length ds < pass) → direction_at ds pass ≡ None
outside ds zero h = before_first ds
outside ds (suc k) h = at_place ds k ∙ slice_get_past ds k (omega (arith, h (omega arith)))

pub length-alternating : (d : Direction) (n : ℕ) → length (alternating d n) ≡ n
unfolding alternating
length-alternating d zero = refl
length-alternating d (suc n) = ap suc (length-alternating (opposite d) n)

turned : (d : Direction) (pass : ℕ) → in_turn (opposite d) pass ≡ in_turn d (suc pass)
turned Left pass = grind (arith, nat_tests)
turned Right pass = grind (arith, nat_tests)

alternating_at : (d : Direction) (n k : ℕ) → k < n → direction_at (alternating d n) (suc k) ≡ Some (in_turn d (suc k))
unfolding alternating direction_at
alternating_at d zero k h = absurd (omega arith)
alternating_at d (suc n) zero h = refl
alternating_at d (suc n) (suc k) h = alternating_at (opposite d) n k (omega arith) ∙ ap Some (turned d (suc k))

pub alternating_direction : (d : Direction) (n pass : ℕ) → 1 ≤ pass → pass ≤ n → direction_at (alternating d n) pass ≡ Some (in_turn d pass)
alternating_direction d n zero h k = absurd (omega arith)
alternating_direction d n (suc pass) h k = alternating_at d n pass (omega arith)

-- where no byte is wrong, a pass takes the direction of the byte before it
pub written_direction : (bytes : List ℕ) (pass place byte : ℕ) → (1 ≤ pass) × (place ≡ pass - 1) → place < length bytes → byte ≡ get_or bytes place byte
    → is_some (first_wrong bytes) ≡ false → direction_at (written bytes) pass ≡ result_ok (byte_direction byte)
written_direction bytes zero place byte h l e w = absurd (omega arith)
written_direction bytes (suc k) place byte h l e w =
    let i : k ≡ place = omega arith in
    let there : slice_get bytes place ≡ Some byte = slice_get_read bytes _ place byte refl l e in
    let right : not (letter (get_or bytes place byte)) ≡ false = fails_before_first (λ b. not (letter b)) bytes place byte (grind (arith, nat_tests)) in
    at_place (written bytes) k ∙ ap (slice_get (written bytes)) i ∙ slice_get-map letter_direction bytes place ∙ ap (option_map letter_direction) there ∙ grind rules
