-- Numbers before any plan, place by place.
use Rattle.std.proofs.Common.{◌≡◌, ℕ, zero, suc, ◌-◌, ◌<◌, ◌≤◌, cond, ◌&&◌, ltb, List, [], ◌∷◌, length, get_or, take, replicate, sym, refl, ap, ◌∙◌, inl, inr, arith, length-append, length-take}
use lib.ListN.{get_or-replicate}
use Rattle.std.proofs.lemmas.List.{ext_get_or, length-replicate, get_or-take, get_or_append_left, get_or-append_right}
use Rattle.std.proofs.lemmas.Bool.{cases_lt, lt-ltb, le-ltb}
use Rattle.grammar.specs.declared.vocabulary.Attribute.{Attribute}
use Rattle.grammar.specs.Grammar.{given, no_attribute}
use Rattle.grammar.specs.Books.{first_numbers, unnumbered}

length-first_numbers : (attributes : List Attribute) → length (first_numbers attributes) ≡ length attributes
length-first_numbers [] = refl
length-first_numbers (a ∷ rest) = ap suc (length-first_numbers rest)

number_at : (attributes : List Attribute) (p : ℕ) → p < length attributes → get_or (first_numbers attributes) p 0 ≡ cond (given (get_or attributes p no_attribute).kind) 0 255
number_at [] p h = absurd (omega arith)
number_at (a ∷ rest) zero h = refl
number_at (a ∷ rest) (suc p) h = number_at rest p (omega arith)

-- what stands at a place, when so many attributes were looked at
abbrev pub first_before : ℕ → List Attribute → ℕ → ℕ
first_before place attributes p = cond (ltb p place && given (get_or attributes p no_attribute).kind) 0 255

-- what stands at a place
abbrev pub first_at : List Attribute → ℕ → ℕ
first_at attributes p = first_before (length attributes) attributes p

module _ (attributes : List Attribute) (few : length attributes ≤ 64) where
  pub known : (p : ℕ) → p < length attributes → get_or (unnumbered attributes) p 0 ≡ cond (given (get_or attributes p no_attribute).kind) 0 255
  known p h = get_or_append_left (first_numbers attributes) (replicate (64 - length attributes) 255) 0 p (omega (arith, length-first_numbers attributes)) ∙ number_at attributes p h

  pub past : (p : ℕ) → length attributes ≤ p → p < 64 → get_or (unnumbered attributes) p 0 ≡ 255
  past p l h = get_or-append_right (first_numbers attributes) (replicate (64 - length attributes) 255) (length attributes) p 0 (length-first_numbers attributes) l
      ∙ get_or-replicate (64 - length attributes) (p - length attributes) 255 0 (omega arith)

  unnumbered_at : (p : ℕ) → p < 64 → get_or (unnumbered attributes) p 0 ≡ first_at attributes p
  unnumbered_at p h = elim (cases_lt p (length attributes)) [
    | inl l ↦ known p l ∙ sym (ap (λ b. cond (b && given (get_or attributes p no_attribute).kind) 0 255) (lt-ltb p (length attributes) l))
    | inr l ↦ past p l h ∙ sym (ap (λ b. cond (b && given (get_or attributes p no_attribute).kind) 0 255) (le-ltb p (length attributes) l))
  ]

  length-unnumbered : length (unnumbered attributes) ≡ 64
  length-unnumbered = length-append (first_numbers attributes) (replicate (64 - length attributes) 255) ∙ omega (arith, few, length-first_numbers attributes, length-replicate {A = ℕ} (64 - length attributes) 255)

  pub numbers_whole : (numbers : List ℕ) → length numbers ≡ 64 → ((p : ℕ) → p < 64 → get_or numbers p 0 ≡ first_at attributes p) → numbers ≡ unnumbered attributes
  numbers_whole numbers long each = ext_get_or 0 numbers (unnumbered attributes) (long ∙ sym length-unnumbered)
      (λ p l. let within : p < 64 = omega arith in each p within ∙ sym (unnumbered_at p within))

first_at_take : (attributes : List Attribute) (p : ℕ) → p < 64 → first_at attributes p ≡ first_at (take 64 attributes) p
first_at_take attributes p h =
    let long = length-take 64 attributes in
    ap (λ a. cond (ltb p (length attributes) && given a.kind) 0 255) (sym (get_or-take 64 attributes p no_attribute h))
    ∙ ap (λ b. cond (b && given (get_or (take 64 attributes) p no_attribute).kind) 0 255) (elim (cases_lt p (length attributes)) [
      | inl l ↦ lt-ltb p (length attributes) l ∙ sym (lt-ltb p (length (take 64 attributes)) (omega arith))
      | inr l ↦ le-ltb p (length attributes) l ∙ sym (le-ltb p (length (take 64 attributes)) (omega arith))
    ])

pub numbers_first : (attributes : List Attribute) (numbers : List ℕ) → length numbers ≡ 64 → ((p : ℕ) → p < 64 → get_or numbers p 0 ≡ first_at attributes p)
    → numbers ≡ unnumbered (take 64 attributes)
numbers_first attributes numbers long each =
    numbers_whole (take 64 attributes) (omega (arith, length-take 64 attributes)) numbers long (λ p l. each p l ∙ first_at_take attributes p l)

-- no attribute is looked at yet
pub none_first : (attributes : List Attribute) (p : ℕ) → p < 64 → get_or (replicate 64 255) p 0 ≡ first_before 0 attributes p
none_first attributes p h = get_or-replicate 64 p 255 0 h
    ∙ sym (ap (λ b. cond (b && given (get_or attributes p no_attribute).kind) 0 255) (le-ltb p 0 (omega arith)))

-- what stands at a place of the first 64, when these or all attributes were looked at
first_all : (attributes : List Attribute) (place p : ℕ) → p < 64 → place ≤ length attributes → (place < 64 → length attributes ≤ place)
    → first_before place attributes p ≡ first_at attributes p
first_all attributes place p h inside all = ap (λ b. cond (b && given (get_or attributes p no_attribute).kind) 0 255) (elim (cases_lt p place) [
  | inl l ↦ lt-ltb p place l ∙ sym (lt-ltb p (length attributes) (omega arith))
  | inr l ↦
      let past : length attributes ≤ place = all (omega arith) in
      le-ltb p place l ∙ sym (le-ltb p (length attributes) (omega arith))
])

pub looked_at : (attributes : List Attribute) (place : ℕ) (numbers : List ℕ) → length numbers ≡ 64 → ((p : ℕ) → p < 64 → get_or numbers p 0 ≡ first_before place attributes p)
    → place ≤ length attributes → (place < 64 → length attributes ≤ place)
    → (numbers ≡ unnumbered (take 64 attributes)) × (length attributes ≤ 64 → numbers ≡ unnumbered attributes)
looked_at attributes place numbers long each inside all =
    let same : (p : ℕ) → p < 64 → get_or numbers p 0 ≡ first_at attributes p = λ p h. each p h ∙ first_all attributes place p h inside all in
    (numbers_first attributes numbers long same, λ few. numbers_whole attributes few numbers long same)
