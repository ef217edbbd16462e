-- The value of a rule, by the meaning of a value kind alone.
use Rattle.std.specs.Prelude.{◌≡◌, ℕ, Bool, false, List, [], ◌∷◌, length, Some, None, Option}
use Rattle.grammar.specs.Grammar.{Rule}

-- What a value kind means: which operations it admits, with which constant and how many arguments, which value an operation starts from,
-- and what it makes of the value so far and one argument.
pub record Meaning (V : Type 0) : Type 0 where
  pub admitted : ℕ → ℕ → ℕ → Bool
  pub starts : ℕ → ℕ → ℕ → Option V
  pub steps : ℕ → V → V → Option V

-- what is not admitted has no start
abbrev pub LawfulMeaning : {V : Type 0} → Meaning V → Type 0
LawfulMeaning m = (operation constant count : ℕ) → m.admitted operation constant count ≡ false → m.starts operation constant count ≡ None

module _ {V : Type 0} where
  -- one argument is taken in, where there is a value so far and the argument has one
  abbrev pub stepped : (V → V → Option V) → Option V → Option V → Option V
  stepped step None argument = None
  stepped step (Some so_far) None = None
  stepped step (Some so_far) (Some argument) = step so_far argument

  -- the arguments are taken in one after the other
  abbrev pub taken_in : (V → V → Option V) → Option V → List (Option V) → Option V
  taken_in step so_far [] = so_far
  taken_in step so_far (argument ∷ rest) = taken_in step (stepped step so_far argument) rest

  -- the value of a rule: its operation starts from the constant and takes in each argument
  abbrev pub rule_value : Meaning V → Rule → List (Option V) → Option V
  rule_value m r arguments = taken_in (m.steps r.operation) (m.starts r.operation r.constant (length arguments)) arguments

-- A rule whose operation is not admitted has no value.
abbrev pub UnadmittedRulesHaveNoValue : Type 0 → Type 0
UnadmittedRulesHaveNoValue V = (m : Meaning V) → LawfulMeaning m → (r : Rule) (arguments : List (Option V))
    → m.admitted r.operation r.constant (length arguments) ≡ false → rule_value m r arguments ≡ None
