-- The numbering of attributes by passes: which numberings are valid, and which one is least.
use Rattle.std.specs.Prelude.{◌≡◌, ℕ, suc, ◌-◌, ◌<◌, ◌≤◌, Bool, true, false, cond, not, ◌&&◌, ◌⊎◌, List, length, nat_lt, slice_index, slice_index_or}
use Rattle.bitset.specs.Sets.{has}
use Rattle.plans.specs.declared.Direction.{Direction}
use Rattle.plans.specs.declared.Direction.TheVariants.{Left}
use Rattle.grammar.specs.Grammar.{Grammar, attribute, is_attribute, given}
use Rattle.grammar.specs.Arcs.{Precedes, Barred}

-- an attribute that wants a number: one that is not given
abbrev pub wants : Grammar → ℕ → Bool
wants g a = is_attribute g.vocabulary a && not (given (attribute g.vocabulary a).kind)

-- the direction of pass t of a plan; passes count from 1
abbrev pub direction : List Direction → ℕ → Direction
direction ds t = slice_index_or ds (t - 1) Left

-- A numbering gives an attribute the number of the pass that computes it; a number past the plan's last pass says that it has none.
-- It is valid when given attributes have 0, whatever precedes a numbered attribute has a number that is no larger,
-- and where the two are equal the pair is not barred for the direction of that pass.
pub record Valid (g : Grammar) (ds : List Direction) (v : ℕ → ℕ) : Type 0 where
  pub at_given : (a : ℕ) → is_attribute g.vocabulary a ≡ true → given (attribute g.vocabulary a).kind ≡ true → v a ≡ 0
  pub from_one : (a : ℕ) → wants g a ≡ true → 1 ≤ v a
  pub rises : (a b : ℕ) → Precedes g a b → v b ≤ length ds → v a ≤ v b
  pub clear : (a b : ℕ) → Precedes g a b → v b ≤ length ds → v a ≡ v b → Barred g (direction ds (v b)) a b → ⊥

-- Valid; no valid numbering that gives an attribute a number gives it a smaller one; and an attribute has none exactly when no valid numbering gives it one.
pub record Least (g : Grammar) (ds : List Direction) (v : ℕ → ℕ) : Type 0 where
  pub valid : Valid g ds v
  pub least : (w : ℕ → ℕ) → Valid g ds w → (b : ℕ) → wants g b ≡ true → w b ≤ length ds → v b ≤ w b
  pub none : (b : ℕ) → wants g b ≡ true → length ds < v b → (w : ℕ → ℕ) → Valid g ds w → length ds < w b
  pub some : (b : ℕ) → wants g b ≡ true → ((w : ℕ → ℕ) → Valid g ds w → length ds < w b) → length ds < v b

-- a numbering as bytes: attribute a has its number at place a - 1
abbrev pub number_of : List ℕ → ℕ → ℕ
number_of numbers a = slice_index numbers (a - 1)

-- What a book's 64 bytes, its greatest number and its set of the unnumbered say: the numbers are valid for the directions; given attributes have 0,
-- and 255 says none, also past the last attribute; bit a - 1 of the set says that attribute a has none; the greatest number is one that an attribute has, or 0.
pub record Numbered (g : Grammar) (ds : List Direction) (numbers : List ℕ) (passes unnumbered : ℕ) : Type 0 where
  pub valid : Valid g ds (number_of numbers)
  pub others : (p : ℕ) → p < 64 → wants g (suc p) ≡ false → slice_index numbers p ≡ cond (is_attribute g.vocabulary (suc p)) 0 255
  pub none : (p : ℕ) → has unnumbered p ≡ true → slice_index numbers p ≡ 255
  pub set : (p : ℕ) → has unnumbered p ≡ (wants g (suc p) && nat_lt (length ds) (slice_index numbers p))
  pub upper : (p : ℕ) → wants g (suc p) ≡ true → slice_index numbers p ≤ length ds → slice_index numbers p ≤ passes
  pub attained : (passes ≡ 0) ⊎ ((p : ℕ) × (wants g (suc p) ≡ true) × (slice_index numbers p ≡ passes) × (passes ≤ length ds))
