-- Rules among occurrences: which have one, and which lack one.
use Rattle.std.proofs.Common.{◌≡◌, ℕ, zero, suc, ◌<◌, Bool, true, false, cond, not, ◌&&◌, eqb, ◌⊎◌, List, [], ◌∷◌, map, length, sym, refl, inl, inr, ⊎_elim, arith}
use Rattle.std.proofs.lemmas.Bool.{eqb-true, and_parts, and_cases, or_parts, not-true, not-false, both_ways}
use Rattle.std.proofs.lemmas.Bool.Decides.{nat_tests}
use Rattle.grammar.specs.declared.production.Occurrence.{Occurrence}
use Rattle.grammar.specs.Members.{◌∈◌}
use Rattle.grammar.specs.Rules.{same, numbered_from, has_rule}
use Rattle.grammar.specs.Grammar.{Vocabulary, occurs, defined, every_below, settled, complete}
use Rattle.tables.specs.Chains.{word}
use Rattle.tables.specs.Tables.{occurrence_at}
use Rattle.tables.specs.Faults.{Names, Onward}
use Rattle.grammar.proofs.Slots.{same_is}
use Rattle.tables.proofs.Targets.{is_same}

pub numbered : (n : ℕ) (ts : List Occurrence) (o : Occurrence) → eqb (numbered_from (suc n) ts o) 0 ≡ false → o ∈ ts
numbered n [] o e = grind (arith, nat_tests)
numbered n (t ∷ ts) o e = at_head (same t o) (λ h. sym (same_is t o h)) (numbered (suc n) ts o) e
  where
    at_head : (b : Bool) → (b ≡ true → o ≡ t) → (eqb (numbered_from (suc (suc n)) ts o) 0 ≡ false → o ∈ ts)
        → eqb (cond b (suc n) (numbered_from (suc (suc n)) ts o)) 0 ≡ false → (o ≡ t) ⊎ (o ∈ ts)
    at_head true h later e = inl (h refl)
    at_head false h later e = inr (later e)

pub unnumbered : (n : ℕ) (ts : List Occurrence) (o : Occurrence) → eqb (numbered_from (suc n) ts o) 0 ≡ true → o ∈ ts → ⊥
unnumbered n [] o e m = m
unnumbered n (t ∷ ts) o e m = at_head (same t o) (λ h. is_same t o (sym h)) (unnumbered (suc n) ts o) e m
  where
    at_head : (b : Bool) → (o ≡ t → b ≡ true) → (eqb (numbered_from (suc (suc n)) ts o) 0 ≡ true → o ∈ ts → ⊥)
        → eqb (cond b (suc n) (numbered_from (suc (suc n)) ts o)) 0 ≡ true → (o ≡ t) ⊎ (o ∈ ts) → ⊥
    at_head true h later e m = let z = eqb-true (suc n) 0 e in omega arith
    at_head false h later e m = ⊎_elim (λ i. both_ways false refl (h i)) (later e) m

pub has_rule_in : (ts : List Occurrence) (o : Occurrence) → has_rule ts o ≡ true → o ∈ ts
has_rule_in ts o e = numbered 0 ts o (not-true _ e)

pub no_rule_in : (ts : List Occurrence) (o : Occurrence) → has_rule ts o ≡ false → o ∈ ts → ⊥
no_rule_in ts o e = unnumbered 0 ts o (not-false _ e)

-- an earlier record of the chain, by what it writes
pub earlier : (bytes : List ℕ) (index : ℕ) (ps : List ℕ) (i : ℕ) (o : Occurrence) → Onward bytes index ps i → o ∈ map (occurrence_at bytes) ps
    → (r : ℕ) × (before : List ℕ) × Onward bytes index before r × Names bytes r × (length before < length ps) × (occurrence_at bytes r ≡ o)
earlier bytes index [] i o on m = absurd m
earlier bytes index (p ∷ ps) i o on m = ⊎_elim
    (λ e. (p, [], on.0, on.1, omega arith, sym e))
    (λ later. let x = earlier bytes (word bytes p 0) ps i o on.2 later in let l = x.4 in (x.0, p ∷ x.1, (on.0, on.1, x.2), x.3, omega arith, x.5))
    m

-- a test that does not hold of every number below n fails at one
fails_below : (n : ℕ) (test : ℕ → Bool) → every_below n test ≡ false → (k : ℕ) × (test k ≡ false)
fails_below zero test e = absurd (both_ways true e refl)
fails_below (suc n) test e = ⊎_elim (λ f. (n, f)) (λ f. fails_below n test f) (and_cases (test n) (every_below n test) e)

pub lacks_rule : (v : Vocabulary) (left : ℕ) (right : List ℕ) (targets : List Occurrence) → complete v left right targets ≡ false
    → (o : Occurrence) × (occurs v left right o ≡ true) × (defined v o ≡ true) × (o ∈ targets → ⊥)
lacks_rule v left right targets e =
    let x = fails_below (suc (length right)) (λ position. every_below (length v.attributes) (settled v left right targets position)) e in
    let y = fails_below (length v.attributes) (settled v left right targets x.0) x.1 in
    let o : Occurrence = record { position = x.0; attribute = suc y.0 } in
    let parts = or_parts (not (occurs v left right o && defined v o)) (has_rule targets o) y.1 in
    let both = and_parts (occurs v left right o) (defined v o) (not-false _ parts.0) in
    (o, both.0, both.1, no_rule_in targets o parts.1)
