-- The attributes of a symbol are those that it owns.
use Rattle.std.proofs.Common.{◌≡◌, ℕ, zero, suc, ◌+◌, ◌-◌, ◌<◌, ◌≤◌, true, List, [], ◌∷◌, length, get_or, sym, ◌∙◌, subst, inl, inr, arith}
use Rattle.std.proofs.lemmas.Bool.{cases_lt, and_parts, and_from, ltb-true, leb-true, lt-ltb, le-leb}
use Rattle.grammar.specs.declared.vocabulary.Symbol.{Symbol}
use Rattle.grammar.specs.Grammar.{Vocabulary, attribute, no_symbol, is_symbol, is_attribute, names}
use Rattle.grammar.specs.Lawful.{Rows, LawfulVocabulary}
use Rattle.trees.specs.Laws.{HasAttribute}

pub named : (count n : ℕ) → names count n ≡ true → (1 ≤ n) × (n ≤ count)
named count n h = let parts = and_parts _ _ h in (ltb-true _ _ parts.0, leb-true _ _ parts.1)

names_from : (count n : ℕ) → 1 ≤ n → n ≤ count → names count n ≡ true
names_from count n low high = and_from _ _ (lt-ltb 0 n low) (le-leb n count high)

-- the number is in the row of the symbol
abbrev InRow : Symbol → ℕ → Type 0
InRow s a = (s.first ≤ a) × (a < s.first + s.count)

-- a number in the rows is in one of them
row_of : (next : ℕ) (ss : List Symbol) (end : ℕ) → Rows next ss end → (a : ℕ) → next ≤ a → a < end
    → (i : ℕ) × (i < length ss) × InRow (get_or ss i no_symbol) a
row_of next [] end rows a low high = absurd (omega arith)
row_of next (s ∷ ss) end rows a low high = elim (cases_lt a (next + s.count)) [
  | inl here ↦ (0, omega arith, (omega (arith, rows.0), omega (arith, rows.0)))
  | inr later ↦ let h = row_of (next + s.count) ss end rows.1 a later high in (suc h.0, omega (arith, h.1), h.2)
]

rows_rise : (next : ℕ) (ss : List Symbol) (end : ℕ) → Rows next ss end → next ≤ end
rows_rise next [] end rows = omega arith
rows_rise next (s ∷ ss) end rows = omega (arith, rows_rise (next + s.count) ss end rows.1)

row_bounds : (next : ℕ) (ss : List Symbol) (end : ℕ) → Rows next ss end → (i : ℕ) → i < length ss
    → (next ≤ (get_or ss i no_symbol).first) × ((get_or ss i no_symbol).first + (get_or ss i no_symbol).count ≤ end)
row_bounds next [] end rows i within = absurd (omega arith)
row_bounds next (s ∷ ss) end rows zero within = (omega (arith, rows.0), omega (arith, rows.0, rows_rise (next + s.count) ss end rows.1))
row_bounds next (s ∷ ss) end rows (suc i) within = let h = row_bounds (next + s.count) ss end rows.1 i (omega arith) in (omega (arith, h.0), h.1)

module _ (v : Vocabulary) (law : LawfulVocabulary v) where
  pub owned_by : (s a : ℕ) → is_attribute v a ≡ true → (attribute v a).symbol ≡ s → HasAttribute v s a
  owned_by s a is e =
      let bounds = named (length v.attributes) a is in
      let row = row_of 1 v.symbols (suc (length v.attributes)) law.rows a bounds.0 (omega (arith, bounds.1)) in
      let less : row.0 ≡ suc row.0 - 1 = omega arith in
      let has : HasAttribute v (suc row.0) a = subst (λ i. InRow (get_or v.symbols i no_symbol) a) less row.2 in
      let whose = law.owned (suc row.0) a (names_from (length v.symbols) (suc row.0) (omega arith) (omega (arith, row.1))) has.0 has.1 in
      subst (λ x. HasAttribute v x a) (sym whose ∙ e) has

  pub owns : (s a : ℕ) → is_symbol v s ≡ true → HasAttribute v s a → (is_attribute v a ≡ true) × ((attribute v a).symbol ≡ s)
  owns s a is has =
      let bounds = named (length v.symbols) s is in
      let row = row_bounds 1 v.symbols (suc (length v.attributes)) law.rows (s - 1) (omega (arith, bounds.0, bounds.1)) in
      (names_from (length v.attributes) a (omega (arith, row.0, has.0)) (omega (arith, row.1, has.1)), law.owned s a is has.0 has.1)
