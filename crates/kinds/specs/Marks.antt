-- Marks as values of attributes, 0 to 255, of which 0 is no mark: operation 1 gives the constant, 2 keeps the latest mark, 3 wants agreement.
use Rattle.std.specs.Prelude.{◌≡◌, ℕ, ◌<◌, Bool, cond, ◌&&◌, ◌||◌, ◌⊎◌, Some, None, Option, ◌==◌, nat_le, Result, MatchResult}
use Rattle.refusal.specs.declared.Unlisted.{Unlisted}
use Rattle.kinds.specs.declared.marks.Operation.{Operation}
use Rattle.kinds.specs.declared.marks.Operation.TheVariants.{Constant, Latest, Agreement}

-- the number of an operation
abbrev pub mark_operation : Operation → ℕ
mark_operation Constant = 1
mark_operation Latest = 2
mark_operation Agreement = 3

-- the operation with this number, or the number where no operation has it
abbrev pub NamesMarkOperation : ℕ → Result Operation Unlisted → Type 0
NamesMarkOperation n r = MatchResult r (λ operation. mark_operation operation ≡ n) (λ e. (e.0 ≡ n) × ((n < 1) ⊎ (3 < n)))

-- a rule may give its constant alone, or join one or more arguments to it; the constant is a mark
abbrev pub mark_admitted : ℕ → ℕ → ℕ → Bool
mark_admitted operation constant count =
    nat_le constant 255 && cond (operation == 1) (count == 0) (nat_le 2 operation && nat_le operation 3 && nat_le 1 count)

-- a rule's value starts from its constant
abbrev pub mark_starts : ℕ → ℕ → ℕ → Option ℕ
mark_starts operation constant count = cond (mark_admitted operation constant count) (Some constant) None

-- the argument, unless it is no mark
abbrev pub latest : ℕ → ℕ → ℕ
latest so_far argument = cond (argument == 0) so_far argument

-- the one that is a mark, or the mark that both are; two unequal marks do not agree
abbrev pub agreed : ℕ → ℕ → Option ℕ
agreed so_far argument =
    cond (so_far == 0) (Some argument) (cond (argument == 0 || argument == so_far) (Some so_far) None)

-- what an argument makes of the value so far; only the operations with arguments have such a step
abbrev pub mark_steps : ℕ → ℕ → ℕ → Option ℕ
mark_steps operation so_far argument =
    cond (operation == 2) (Some (latest so_far argument)) (cond (operation == 3) (agreed so_far argument) None)
