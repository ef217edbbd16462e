-- Lengths as values of attributes: operation 1 gives the constant, 2 adds, 3 takes the greater, 4 subtracts.
use Rattle.std.specs.Prelude.{◌≡◌, ℕ, ◌<◌, Bool, cond, ◌&&◌, ◌⊎◌, ℤ, pos, negsuc, ◌+ℤ◌, ◌-ℤ◌, Some, None, Option, ◌==◌, int_le, nat_le, Result, MatchResult}
use Rattle.std.specs.Int.{int_max}
use Rattle.refusal.specs.declared.Unlisted.{Unlisted}
use Rattle.kinds.specs.declared.lengths.Operation.{Operation}
use Rattle.kinds.specs.declared.lengths.Operation.TheVariants.{Constant, Add, Greater, Subtract}

-- the number of an operation
abbrev pub length_operation : Operation → ℕ
length_operation Constant = 1
length_operation Add = 2
length_operation Greater = 3
length_operation Subtract = 4

-- the operation with this number, or the number where no operation has it
abbrev pub NamesLengthOperation : ℕ → Result Operation Unlisted → Type 0
NamesLengthOperation n r = MatchResult r (λ operation. length_operation operation ≡ n) (λ e. (e.0 ≡ n) × ((n < 1) ⊎ (4 < n)))

-- a rule may give its constant alone, or add, compare or subtract one or more arguments
abbrev pub length_admitted : ℕ → ℕ → ℕ → Bool
length_admitted operation constant count =
    cond (operation == 1) (count == 0) (nat_le 2 operation && nat_le operation 4 && nat_le 1 count)

-- a rule's value starts from its constant
abbrev pub length_starts : ℕ → ℕ → ℕ → Option ℤ
length_starts operation constant count = cond (length_admitted operation constant count) (Some (pos constant)) None

-- a number is a length where it lies within a thousand million of 0
abbrev pub within : ℤ → Option ℤ
within z = cond (int_le (negsuc 999_999_999) z && int_le z (pos 1_000_000_000)) (Some z) None

-- what an argument makes of the value so far; only the operations with arguments have such a step
abbrev pub length_steps : ℕ → ℤ → ℤ → Option ℤ
length_steps operation so_far argument =
    cond (operation == 2) (within (so_far +ℤ argument)) (cond (operation == 3) (within (int_max so_far argument)) (cond (operation == 4) (within (so_far -ℤ argument)) None))
