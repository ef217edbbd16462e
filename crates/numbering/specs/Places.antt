-- The arc board and the attributes of a grammar by places: the place of an attribute is its number less 1.
use Rattle.std.specs.Prelude.{◌≡◌, ℕ, ◌+◌, ◌*◌, ◌<◌, ◌≤◌, Bool, true, false, cond, not, ◌&&◌, ◌⊎◌, List, length, ◌==◌, bit_and, nat_lt, slice_index, slice_index_or}
use Rattle.bitset.specs.Sets.{has}
use Rattle.plans.specs.declared.Direction.{Direction}
use Rattle.plans.specs.declared.Direction.TheVariants.{Left, Right}
use Rattle.grammar.specs.declared.vocabulary.Attribute.{Attribute}
use Rattle.grammar.specs.Grammar.{given, no_attribute}
use Rattle.grammar.specs.Arcs.{precedence, bar}
use Rattle.numbering.specs.Graph.{Graph, LeastOn}

-- whether the label at two places has a bit
unfoldable pub marked : List ℕ → ℕ → ℕ → ℕ → Bool
marked board bit p q = not (bit_and (slice_index board (64 * p + q)) bit == 0)

-- whether the attribute at a place wants a number: one that is not given. It says what `wanting_at` of grammar says, and
-- does not unfold, which keeps proofs on places short.
unfoldable pub wants_at : List Attribute → ℕ → Bool
wants_at attributes p = nat_lt p (length attributes) && not (given (slice_index_or attributes p no_attribute).kind)

-- the graph of attributes at their places, as the board has it
abbrev pub place_graph : List ℕ → List Attribute → Graph
place_graph board attributes = record {
  wants = wants_at attributes;
  precedes = marked board precedence;
  barred = λ d. marked board (bar d);
}

-- the columns of a relation: p is in the q-th set
unfoldable pub holds : List ℕ → ℕ → ℕ → Bool
holds sets p q = has (slice_index sets q) p

-- that one of two things which belongs to the direction
abbrev pub by : {A : Type 0} → Direction → A → A → A
by Left x y = x
by Right x y = y

-- a numbering as bytes, by places
abbrev pub number_at : List ℕ → ℕ → ℕ
number_at numbers p = slice_index numbers p

-- What the numbering of a graph of places comes to: the least numbers; 0 at a given attribute and 255 where there is none or no attribute;
-- the set of the places that have none; and the greatest number that a place has, or 0.
pub record NumberedPlaces (g : Graph) (ds : List Direction) (count : ℕ) (numbers : List ℕ) (greatest unnumbered : ℕ) : Type 0 where
  pub least : LeastOn g ds (number_at numbers)
  pub others : (p : ℕ) → p < 64 → g.wants p ≡ false → number_at numbers p ≡ cond (nat_lt p count) 0 255
  pub none : (p : ℕ) → has unnumbered p ≡ true → number_at numbers p ≡ 255
  pub set : (p : ℕ) → has unnumbered p ≡ (g.wants p && nat_lt (length ds) (number_at numbers p))
  pub upper : (p : ℕ) → g.wants p ≡ true → number_at numbers p ≤ length ds → number_at numbers p ≤ greatest
  pub attained : (greatest ≡ 0) ⊎ ((p : ℕ) × (g.wants p ≡ true) × (number_at numbers p ≡ greatest) × (greatest ≤ length ds))
