-- Rules by their targets: which occurrences have one, and which have only one.
use Rattle.std.proofs.Common.{◌≡◌, ℕ, zero, suc, ◌+◌, ◌-◌, ◌<◌, ◌≤◌, Bool, true, false, cond, not, ◌&&◌, ◌||◌, eqb, leb, List, [], ◌∷◌, ◌++◌, map, length, get_or, sym, refl, ap, ◌∙◌, inl, inr, arith, length-append}
use lib.ListN.{length-map}
use Rattle.std.proofs.lemmas.List.{append_assoc, get_or_at, get_or_append_left, get_or_default, length_push}
use Rattle.std.proofs.lemmas.Bool.{cases_Bool, cases_order, cases_eq, and_parts, and_from, or_cases, or_left, or_right, not-true, not-false, not_from_false, eqb-true, eq-eqb, both_ways, leb-true}
use Rattle.grammar.specs.declared.production.Occurrence.{Occurrence}
use Rattle.grammar.specs.Rules.{same, numbered_from, has_rule}
use Rattle.grammar.specs.Grammar.{Vocabulary, Rule, is_attribute, attribute, symbol_at, occurs, defined, every_below, settled, complete}
use Rattle.grammar.specs.Lawful.{target, OneRule}
use Rattle.grammar.proofs.Slots.{same_is}
use Rattle.tables.proofs.Vocabularies.{named}

pub is_same : (o p : Occurrence) → o ≡ p → same o p ≡ true
is_same o p e = and_from _ _ (eq-eqb o.position p.position (ap (λ x. x.position) e)) (eq-eqb o.attribute p.attribute (ap (λ x. x.attribute) e))

found : (n : ℕ) (ts : List Occurrence) (o : Occurrence) → eqb (numbered_from n ts o) 0 ≡ false → (j : ℕ) × (j < length ts) × (get_or ts j o ≡ o)
found n [] o h = absurd (both_ways (eqb 0 0) h refl)
found n (t ∷ ts) o h = go (same t o) refl h (found (suc n) ts o)
  where
    go : (b : Bool) → same t o ≡ b → eqb (cond b n (numbered_from (suc n) ts o)) 0 ≡ false
        → (eqb (numbered_from (suc n) ts o) 0 ≡ false → (j : ℕ) × (j < length ts) × (get_or ts j o ≡ o)) → (j : ℕ) × (j < suc (length ts)) × (get_or (t ∷ ts) j o ≡ o)
    go true s h ih = (0, omega arith, same_is t o s)
    go false s h ih = let r = ih h in (suc r.0, omega (arith, r.1), r.2)

not_found : (n : ℕ) (ts : List Occurrence) (o : Occurrence) → 1 ≤ n → eqb (numbered_from n ts o) 0 ≡ true → (j : ℕ) → j < length ts → get_or ts j o ≡ o → ⊥
not_found n [] o low h j l e = omega arith
not_found n (t ∷ ts) o low h j l e = go (same t o) refl h j l e (not_found (suc n) ts o (omega arith))
  where
    go : (b : Bool) → same t o ≡ b → eqb (cond b n (numbered_from (suc n) ts o)) 0 ≡ true → (j : ℕ) → j < suc (length ts) → get_or (t ∷ ts) j o ≡ o
        → (eqb (numbered_from (suc n) ts o) 0 ≡ true → (j : ℕ) → j < length ts → get_or ts j o ≡ o → ⊥) → ⊥
    go true s h j l e ih = omega (arith, eqb-true n 0 h)
    go false s h zero l e ih = both_ways (same t o) s (is_same t o e)
    go false s h (suc j) l e ih = ih h j (omega arith) e

pub has_one : (ts : List Occurrence) (o : Occurrence) → has_rule ts o ≡ true → (j : ℕ) × (j < length ts) × (get_or ts j o ≡ o)
has_one ts o h = found 1 ts o (not-true _ h)

pub has_none : (ts : List Occurrence) (o : Occurrence) → has_rule ts o ≡ false → (j : ℕ) → j < length ts → get_or ts j o ≡ o → ⊥
has_none ts o h = not_found 1 ts o (omega arith) (not-false _ h)

pub has_it : (ts : List Occurrence) (o : Occurrence) (j : ℕ) → j < length ts → get_or ts j o ≡ o → has_rule ts o ≡ true
has_it ts o j l e = elim (cases_Bool (has_rule ts o)) [ inl h ↦ h | inr h ↦ absurd (has_none ts o h j l e) ]

-- no two rules have one target
abbrev pub Unique : List Occurrence → Type 0
Unique ts = (i j : ℕ) (d : Occurrence) → i < length ts → j < length ts → get_or ts i d ≡ get_or ts j d → i ≡ j

-- each target is new after those before it
abbrev pub New : List Occurrence → List Occurrence → Type 0
New before [] = Unit {0}
New before (t ∷ ts) = (has_rule before t ≡ false) × New (before ++ t ∷ []) ts

later : (ts before : List Occurrence) (i j : ℕ) (d : Occurrence) → New before ts → length before ≤ j → j < length before + length ts → i < j → get_or (before ++ ts) i d ≡ get_or (before ++ ts) j d → ⊥
later [] before i j d n low high l e = omega arith
later (t ∷ ts) before i j d n low high l e = elim (cases_eq j (length before)) [
  | inl h ↦
      let k : i < length before = omega arith in
      has_none before t n.0 i k
      (get_or_default before i t d k ∙ sym (get_or_append_left before (t ∷ ts) d i k) ∙ e ∙ get_or_at before t ts d j (sym h))
  | inr h ↦
      let p = length_push before t in
      later ts (before ++ t ∷ []) i j d n.1 (omega arith) (omega arith) l (rw append_assoc e)
]

pub unique_from_new : (ts : List Occurrence) → New [] ts → Unique ts
unique_from_new ts n i j d li lj e = elim (cases_order i j) [
  | inl h ↦ h
  | inr h ↦ elim h [
    | inl k ↦ absurd (later ts [] i j d n (omega arith) (omega arith) k e)
    | inr k ↦ absurd (later ts [] j i d n (omega arith) (omega arith) k (sym e))
  ]
]

pub new_from_unique : (ts before : List Occurrence) → Unique (before ++ ts) → New before ts
new_from_unique [] before u = tt
new_from_unique (t ∷ ts) before u = (head (has_rule before t) refl, new_from_unique ts (before ++ t ∷ []) (rw append_assoc u))
  where
    head : (b : Bool) → has_rule before t ≡ b → b ≡ false
    head false h = refl
    head true h =
        let r = has_one before t h in
        let n = length-append before (t ∷ ts) in
        let k = u r.0 (length before) t (omega (arith, r.1)) (omega arith) (get_or_append_left before (t ∷ ts) t r.0 r.1 ∙ r.2 ∙ sym (get_or_at before t ts t (length before) refl)) in
        absurd (omega (arith, r.1))

-- every defined occurrence has a rule
every_at : (n : ℕ) (test : ℕ → Bool) → every_below n test ≡ true → (k : ℕ) → k < n → test k ≡ true
every_at zero test h k l = absurd (omega arith)
every_at (suc n) test h k l =
    let p = and_parts (test n) (every_below n test) h in
    elim (cases_eq k n) [ inl e ↦ ap test e ∙ p.0 | inr d ↦ every_at n test p.1 k (omega arith) ]

at_every : (n : ℕ) (test : ℕ → Bool) → ((k : ℕ) → k < n → test k ≡ true) → every_below n test ≡ true
at_every zero test h = refl
at_every (suc n) test h = and_from (test n) (every_below n test) (h n (omega arith)) (at_every n test (λ k l. h k (omega arith)))

module _ (v : Vocabulary) (left : ℕ) (right : List ℕ) (ts : List Occurrence) where
  abbrev pub AllSet : Type 0
  AllSet = (o : Occurrence) → occurs v left right o ≡ true → defined v o ≡ true → has_rule ts o ≡ true

  pub all_set : complete v left right ts ≡ true → AllSet
  all_set c o h d =
      let p = and_parts (leb o.position (length right)) (is_attribute v o.attribute && eqb (attribute v o.attribute).symbol (symbol_at left right o.position)) h in
      let q = and_parts (is_attribute v o.attribute) (eqb (attribute v o.attribute).symbol (symbol_at left right o.position)) p.1 in
      let n = named (length v.attributes) o.attribute q.0 in
      let l = leb-true o.position (length right) p.0 in
      let e : suc (o.attribute - 1) ≡ o.attribute = omega (arith, n.0) in
      let s = every_at (length v.attributes) (settled v left right ts o.position)
      (every_at (suc (length right)) (λ position. every_below (length v.attributes) (settled v left right ts position)) c o.position (omega arith)) (o.attribute - 1) (omega (arith, n.0, n.1)) in
      let o' : Occurrence = record { position = o.position; attribute = suc (o.attribute - 1) } in
      let k : o' ≡ o = ap (λ (a : ℕ). record { position = o.position; attribute = a }) e in
      let s' : (not (occurs v left right o && defined v o) || has_rule ts o) ≡ true = sym (ap (λ x. not (occurs v left right x && defined v x) || has_rule ts x) k) ∙ s in
      elim (or_cases _ _ s') [ inl z ↦ absurd (both_ways _ (not-true _ z) (and_from _ _ h d)) | inr z ↦ z ]

  pub completed : AllSet → complete v left right ts ≡ true
  completed h =
      at_every (suc (length right)) (λ position. every_below (length v.attributes) (settled v left right ts position)) (λ position l.
      at_every (length v.attributes) (settled v left right ts position) (λ k m. one (record { position = position; attribute = suc k })))
    where
      one : (o : Occurrence) → (not (occurs v left right o && defined v o) || has_rule ts o) ≡ true
      one o = elim (cases_Bool (occurs v left right o && defined v o)) [
        | inl z ↦ let p = and_parts (occurs v left right o) (defined v o) z in or_right _ _ (h o p.0 p.1)
        | inr z ↦ or_left _ _ (not_from_false _ z)
      ]

-- one rule, where there is one and no two are alike
pub one_rule : (rs : List Rule) (o : Occurrence) → Unique (map target rs) → has_rule (map target rs) o ≡ true → OneRule rs o
one_rule rs o u h =
    let r = has_one (map target rs) o h in
    let n = length-map rs target in
    record {
      place = r.0;
      within = omega (arith, r.1);
      sets = r.2;
      only = λ j l e. u j r.0 o (omega arith) r.1 (e ∙ sym r.2);
    }

pub has_from_one : (rs : List Rule) (o : Occurrence) → OneRule rs o → has_rule (map target rs) o ≡ true
has_from_one rs o r = has_it (map target rs) o r.place (omega (arith, length-map rs target, r.within)) r.sets
