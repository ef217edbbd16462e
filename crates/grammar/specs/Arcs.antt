-- Precedence between attributes, its bars, and the arc board that keeps both.
use Rattle.std.specs.Prelude.{◌≡◌, ℕ, ◌+◌, ◌-◌, ◌*◌, ◌≤◌, Bool, false, cond, not, ◌&&◌, List, [], ◌∷◌, replicate, ◌==◌, bit_and, bit_or, nat_le, slice_index, slice_set}
use Rattle.plans.specs.declared.Direction.{Direction}
use Rattle.plans.specs.declared.Direction.TheVariants.{Left, Right}
use Rattle.grammar.specs.declared.production.Occurrence.{Occurrence}
use Rattle.grammar.specs.Members.{◌∈◌}
use Rattle.grammar.specs.Grammar.{Vocabulary, Rule, Production, Grammar, attribute, given}

-- Some rule for attribute b at position k takes attribute a, which is not given, at position j.
pub record Arc (g : Grammar) (a b j k : ℕ) : Type 0 where
  pub production : Production
  pub in_grammar : production ∈ g.productions
  pub rule : Rule
  pub in_production : rule ∈ production.rules
  pub argument : Occurrence
  pub in_rule : argument ∈ rule.arguments
  pub takes : argument ≡ record { position = j; attribute = a }
  pub sets : rule.target ≡ record { position = k; attribute = b }
  pub not_given : given (attribute g.vocabulary a).kind ≡ false

abbrev pub Precedes : Grammar → ℕ → ℕ → Type 0
Precedes g a b = (j : ℕ) × (k : ℕ) × Arc g a b j k

-- a pass in the direction has not been at a's position j yet when it comes to b's position k
abbrev pub Ahead : Direction → ℕ → ℕ → Type 0
Ahead Left j k = (1 ≤ k) × (k ≤ j)
Ahead Right j k = (1 ≤ j) × (j ≤ k)

-- one such arc in any production bars the two attributes for passes in the direction
abbrev pub Barred : Grammar → Direction → ℕ → ℕ → Type 0
Barred g d a b = (j : ℕ) × (k : ℕ) × Arc g a b j k × Ahead d j k

abbrev pub ahead : Direction → ℕ → ℕ → Bool
ahead Left j k = nat_le 1 k && nat_le k j
ahead Right j k = nat_le 1 j && nat_le j k

-- the bits of a label
abbrev pub precedence : ℕ
precedence = 1

abbrev pub bar : Direction → ℕ
bar Left = 2
bar Right = 4

-- the label of an arc from position j to position k
abbrev pub label : ℕ → ℕ → ℕ
label j k = 1 + cond (ahead Left j k) 2 0 + cond (ahead Right j k) 4 0

-- The board has a row for each attribute that precedes and in it a place for each that follows.
abbrev pub board_place : ℕ → ℕ → ℕ
board_place a b = 64 * (a - 1) + (b - 1)

abbrev pub labelled : List ℕ → ℕ → ℕ → ℕ → Bool
labelled board bit a b = not (bit_and (slice_index board (board_place a b)) bit == 0)

module _ (v : Vocabulary) where
  -- one argument of a rule adds its label, unless it is given
  abbrev pub with_argument : Occurrence → List ℕ → Occurrence → List ℕ
  with_argument target board argument =
      cond (given (attribute v argument.attribute).kind) board
      (slice_set board (board_place argument.attribute target.attribute) (bit_or (slice_index board (board_place argument.attribute target.attribute)) (label argument.position target.position)))

  abbrev pub with_arguments : Occurrence → List Occurrence → List ℕ → List ℕ
  with_arguments target [] board = board
  with_arguments target (o ∷ os) board = with_arguments target os (with_argument target board o)

  abbrev pub with_rules : List Rule → List ℕ → List ℕ
  with_rules [] board = board
  with_rules (r ∷ rs) board = with_rules rs (with_arguments r.target r.arguments board)

  abbrev pub with_productions : List Production → List ℕ → List ℕ
  with_productions [] board = board
  with_productions (p ∷ ps) board = with_productions ps (with_rules p.rules board)

-- the board of a grammar, which is blank before productions are read
abbrev pub board_of : Grammar → List ℕ
board_of g = with_productions g.vocabulary g.productions (replicate 4096 0)
