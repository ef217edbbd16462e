-- A chain that is read without refusal, as the list of what its records hold.
use Rattle.std.proofs.Common.{◌≡◌, ℕ, zero, suc, ◌+◌, ◌*◌, ◌≤◌, Bool, true, false, cond, eqb, ltb, ◌⊎◌, List, [], ◌∷◌, map, length, get_or, set, Some, None, Ok, Err, sym, refl, ap, ◌∙◌, inl, inr, arith}
use Rattle.std.proofs.lemmas.Bool.{eqb-true, eqb-false, ne_eqb, cond-false, or_parts, or_from, ltb-false, le-ltb}
use Rattle.refusal.specs.declared.Refusal.TheVariants.{BadIndex}
use Rattle.tables.specs.declared.record.Record.{Record}
use Rattle.tables.specs.Chains.{Reading, and_then, word, record_at, lost, follow, met, along}
use Rattle.tables.specs.Tables.{Chain, joined}
use Rattle.tables.proofs.Outcomes.{not_refused, same_value, both_read}
use Rattle.grammar.proofs.Marks.{reach, Fresh, reach_append, fresh_append, fresh_left, fresh_right}

-- Each item has a record at its place and owns the rest of its records; P says when it may come after what was gathered.
module _ {X B : Type 0} (place : X → ℕ) (rest : X → List ℕ) (P : B → X → Type 0) (next : B → X → B) where
  abbrev pub records : X → List ℕ
  records x = place x ∷ rest x

  abbrev pub all_of : List X → List ℕ
  all_of xs = joined (map records xs)

  abbrev pub gathered : List X → B → B
  gathered [] b = b
  gathered (x ∷ xs) b = gathered xs (next b x)

  abbrev pub Held : List X → B → Type 0
  Held [] b = Unit {0}
  Held (x ∷ xs) b = P b x × Held xs (next b x)

  -- one record with what it owns
  pub record Took (p : ℕ) (b : B) (s : List Bool) (b' : B) (s' : List Bool) : Type 0 where
    pub item : X
    pub at : place item ≡ p
    pub holds : P b item
    pub fresh : Fresh (rest item) s
    pub gives : b' ≡ next b item
    pub marks : s' ≡ reach (rest item) s

  pub record Went (bytes : List ℕ) (room : ℕ) (b : B) (index : ℕ) (s : List Bool) (b' : B) (s' : List Bool) : Type 0 where
    pub items : List X
    pub chain : Chain bytes index (map place items)
    pub few : length items ≤ room
    pub holds : Held items b
    pub fresh : Fresh (all_of items) s
    pub gives : b' ≡ gathered items b
    pub marks : s' ≡ reach (all_of items) s

  module _ (bytes : List ℕ) (small : length bytes ≤ 49152) (step : B → Record → Reading B) where
    abbrev pub Sound : Type 0
    Sound = (b : B) (p : ℕ) (s : List Bool) (b' : B) (s' : List Bool) → step b (record_at bytes p) s ≡ Ok (b', s') → Took p b s b' s'

    abbrev pub Complete : Type 0
    Complete = (b : B) (x : X) (s : List Bool) → P b x → Fresh (rest x) s → step b (record_at bytes (place x)) s ≡ Ok (next b x, reach (rest x) s)

    -- the chain ends, or names a record
    ended_or_not : (room : ℕ) (b : B) (holder index : ℕ) (s : List Bool) (b' : B) (s' : List Bool)
        → along bytes step room b holder index s ≡ Ok (b', s')
        → ((index ≡ 0) × (b' ≡ b) × (s' ≡ s))
        ⊎ ((1 ≤ index) × (12 * index + 12 ≤ length bytes) × (get_or s index false ≡ false) × (met bytes step room b (Some (record_at bytes index)) (set s index true) ≡ Ok (b', s')))
    unfolding along met
    ended_or_not room b holder index s b' s' e = at (eqb index 0) refl (lost bytes index s) refl e
      where
        at : (z : Bool) → eqb index 0 ≡ z → (l : Bool) → lost bytes index s ≡ l
            → and_then (cond z (Ok (None, s)) (cond l (Err (BadIndex holder)) (Ok (Some (record_at bytes index), set s index true)))) (met bytes step room b) ≡ Ok (b', s')
            → ((index ≡ 0) × (b' ≡ b) × (s' ≡ s))
            ⊎ ((1 ≤ index) × (12 * index + 12 ≤ length bytes) × (get_or s index false ≡ false) × (met bytes step room b (Some (record_at bytes index)) (set s index true) ≡ Ok (b', s')))
        at true z l k h = inl (eqb-true index 0 z, sym (ap (λ y. y.0) (same_value h)), sym (ap (λ y. y.1) (same_value h)))
        at false z true k h = absurd (not_refused h)
        at false z false k h =
            let n : index ≡ 0 → ⊥ = eqb-false index 0 z in
            let o = or_parts (ltb (length bytes) (12 * index + 12)) (get_or s index false) k in
            inr (omega arith, omega (arith, ltb-false (length bytes) (12 * index + 12) o.0), o.1, h)

    ended : (room : ℕ) (b : B) (index : ℕ) (s : List Bool) (b' : B) (s' : List Bool) → (index ≡ 0) × (b' ≡ b) × (s' ≡ s) → Went bytes room b index s b' s'
    ended room b index s b' s' h = record { items = []; chain = h.0; few = omega arith; holds = tt; fresh = tt; gives = h.1; marks = h.2 }

    more : (room : ℕ) (b : B) (index : ℕ) (s : List Bool) (b₁ : B) (s₁ : List Bool) (b' : B) (s' : List Bool)
        → 1 ≤ index → 12 * index + 12 ≤ length bytes → get_or s index false ≡ false
        → Took index b (set s index true) b₁ s₁ → Went bytes room b₁ (word bytes index 0) s₁ b' s' → Went bytes (suc room) b index s b' s'
    more room b index s b₁ s₁ b' s' low within unmarked t w =
        let x = t.item in
        record {
          items = x ∷ w.items;
          chain = rw t.at (refl, low, within, w.chain);
          few = omega (arith, w.few);
          holds = (t.holds, rw (← t.gives) w.holds);
          fresh = rw t.at (omega arith, unmarked, fresh_append (rest x) (all_of w.items) (set s index true) t.fresh (rw (← t.marks) w.fresh));
          gives = w.gives ∙ ap (gathered w.items) t.gives;
          marks = rw t.at (w.marks ∙ ap (reach (all_of w.items)) t.marks ∙ sym (reach_append (rest x) (all_of w.items) (set s index true)));
        }

    pub chain_read : Sound → (room : ℕ) (b : B) (holder index : ℕ) (s : List Bool) (b' : B) (s' : List Bool)
        → along bytes step room b holder index s ≡ Ok (b', s') → Went bytes room b index s b' s'
    unfolding along met
    chain_read sound zero b holder index s b' s' e =
        elim (ended_or_not zero b holder index s b' s' e) [ inl h ↦ ended zero b index s b' s' h | inr h ↦ absurd (not_refused h.3) ]
    chain_read sound (suc room) b holder index s b' s' e =
        elim (ended_or_not (suc room) b holder index s b' s' e) [
          | inl h ↦ ended (suc room) b index s b' s' h
          | inr h ↦
              let g = both_read (step b (record_at bytes index) (set s index true)) (λ b₁ s₁. and_then (follow bytes index (word bytes index 0) s₁) (met bytes step room b₁)) h.3 in
              more room b index s g.0 g.1 b' s' h.0 h.1 h.2 (sound b index (set s index true) g.0 g.1 g.2)
              (chain_read sound room g.0 index (word bytes index 0) g.1 b' s' g.3)
        ]

    -- an index that names a record not yet reached
    followed : (holder index : ℕ) (s : List Bool) → 1 ≤ index → 12 * index + 12 ≤ length bytes → get_or s index false ≡ false
        → follow bytes holder index s ≡ Ok (Some (record_at bytes index), set s index true)
    followed holder index s low within unmarked =
        cond-false (eqb index 0) _ _ (ne_eqb index 0 (λ z. omega arith))
        ∙ cond-false (lost bytes index s) _ _ (or_from _ _ (le-ltb (length bytes) (12 * index + 12) (omega arith)) unmarked)

    pub chain_goes : Complete → (xs : List X) (room : ℕ) (b : B) (holder index : ℕ) (s : List Bool)
        → Chain bytes index (map place xs) → length xs ≤ room → Held xs b → Fresh (all_of xs) s
        → along bytes step room b holder index s ≡ Ok (gathered xs b, reach (all_of xs) s)
    unfolding along met
    chain_goes complete [] room b holder index s c few held fresh = rw c refl
    chain_goes complete (x ∷ xs) zero b holder index s c few held fresh = absurd (omega arith)
    chain_goes complete (x ∷ xs) (suc room) b holder index s c few held fresh =
        let p = place x in
        let s₁ = set s p true in
        let b₂ = next b x in
        let s₂ = reach (rest x) s₁ in
        ap (λ i. along bytes step (suc room) b holder i s) c.0
        ∙ ap (λ r. and_then r (met bytes step (suc room) b)) (followed holder p s c.1 c.2 fresh.1)
        ∙ ap (λ r. and_then r (λ b' s'. and_then (follow bytes p (word bytes p 0) s') (met bytes step room b'))) (complete b x s₁ held.0 (fresh_left (rest x) (all_of xs) s₁ fresh.2))
        ∙ chain_goes complete xs room b₂ p (word bytes p 0) s₂ c.3 (omega arith) held.1 (fresh_right (rest x) (all_of xs) s₁ fresh.2)
        ∙ ap (λ m. Ok (gathered xs b₂, m)) (sym (reach_append (rest x) (all_of xs) s₁))
