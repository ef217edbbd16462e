-- Plans: the directions of the passes, of a plan that alternates and of a plan written in letters.
use Rattle.std.specs.Prelude.{ℕ, zero, suc, ◌%◌, Bool, cond, not, ◌&&◌, ◌||◌, List, [], ◌∷◌, map, length, position, Some, None, Ok, Err, Option, Result, ◌==◌, nat_le}
use Rattle.refusal.specs.declared.Refusal.{Refusal}
use Rattle.refusal.specs.declared.Refusal.TheVariants.{BadPlan}
use Rattle.plans.specs.declared.Direction.{Direction}
use Rattle.plans.specs.declared.Direction.TheVariants.{Left, Right}
use Rattle.refusal.specs.declared.Unlisted.{Unlisted}

-- the direction of a pass, of which the first is 1; there is none at 0 and past the last pass
unfoldable pub direction_at : List Direction → ℕ → Option Direction
direction_at [] pass = None
direction_at (d ∷ ds) zero = None
direction_at (d ∷ ds) (suc zero) = Some d
direction_at (d ∷ ds) (suc (suc pass)) = direction_at ds (suc pass)

-- a plan has 1 to 128 passes
abbrev pub plan_length : ℕ → Bool
plan_length count = nat_le 1 count && nat_le count 128

-- the other direction
abbrev pub opposite : Direction → Direction
opposite Left = Right
opposite Right = Left

-- so many directions in turn, from the first
unfoldable pub alternating : Direction → ℕ → List Direction
alternating d zero = []
alternating d (suc n) = d ∷ alternating (opposite d) n

-- odd passes go in the first direction, even passes in the other
abbrev pub in_turn : Direction → ℕ → Direction
in_turn d pass = cond (pass % 2 == 1) d (opposite d)

-- the plan that alternates, or why there is none
abbrev pub alternating_plan : Direction → ℕ → Result (List Direction) Refusal
alternating_plan d n = cond (plan_length n) (Ok (alternating d n)) (Err (BadPlan 0))

-- 76, L, is the letter of a pass to the left, and 82, R, of one to the right
abbrev pub letter : ℕ → Bool
letter byte = byte == 76 || byte == 82

-- the direction that a letter stands for
abbrev pub letter_direction : ℕ → Direction
letter_direction byte = cond (byte == 76) Left Right

-- the direction of a byte, or the byte where it is no letter
abbrev pub byte_direction : ℕ → Result Direction Unlisted
byte_direction byte = cond (letter byte) (Ok (letter_direction byte)) (Err (record { 0 = byte }))

-- the directions that letters stand for, one for each pass
abbrev pub written : List ℕ → List Direction
written bytes = map letter_direction bytes

-- the place of the first byte that is no letter
abbrev pub first_wrong : List ℕ → Option ℕ
first_wrong bytes = position (λ byte. not (letter byte)) bytes

-- letters are read, if no byte is wrong
abbrev pub read : Option ℕ → List ℕ → Result (List Direction) Refusal
read None bytes = Ok (written bytes)
read (Some place) bytes = Err (BadPlan place)

-- the plan that bytes write, or why they write none: their number, and then the first that is no letter
abbrev pub written_plan : List ℕ → Result (List Direction) Refusal
written_plan bytes = cond (plan_length (length bytes)) (read (first_wrong bytes) bytes) (Err (BadPlan 0))
