-- The whole of a reading from its parts, as the code comes by them, and what it says of the table.
use Rattle.std.proofs.Common.{◌≡◌, ℕ, ◌≤◌, Bool, true, false, ◌&&◌, ltb, ◌⊎◌, List, [], length, replicate, Ok, Err, Result, sym, ap, ◌∙◌, subst, inl, inr}
use Rattle.std.proofs.lemmas.Bool.{cond-true, cond-false}
use Rattle.refusal.specs.declared.Refusal.{Refusal}
use Rattle.refusal.specs.declared.Refusal.TheVariants.{NoSuch, OutOfMemory}
use Rattle.grammar.specs.declared.vocabulary.Vocabulary.{Vocabulary as VocabularyCode}
use Rattle.bitset.specs.Sets.{has}
use Rattle.grammar.specs.declared.vocabulary.Attribute.{Attribute}
use Rattle.grammar.specs.Books.{unnumbered, wanting_at}
use Rattle.grammar.specs.Lawful.{Lawful}
use Rattle.grammar.specs.Numberings.{Numbered}
use Rattle.grammar.proofs.Wants.{not_numbered, wanted_few}
use Rattle.grammar.specs.Grammar.{Production, Grammar, vocabulary_view, is_inner}
use Rattle.tables.specs.declared.record.Record.{Record}
use Rattle.tables.specs.Chains.{and_then, record_at, sized}
use Rattle.tables.specs.Reading.{symbols, productions, over, after_symbols, value, reading}
use Rattle.tables.proofs.Accepting.{accepted_is_lawful}
use Rattle.tables.proofs.LawfulTables.{lawful_is_accepted}
use Rattle.tables.proofs.FaultsWhole.{refusal_names_a_fault}
use Rattle.loading.specs.Views.{gathered}
use Rattle.loading.specs.Loading.{Acceptable, Loads, Judges}

module _ (bytes : List ℕ) (admitted : ℕ → ℕ → ℕ → Bool) where
  -- a reading's outcome, judged by what the table stands for
  pub acceptable : (g : Grammar) → reading bytes admitted ≡ Ok g → Acceptable bytes admitted g
  acceptable g h =
      let p = accepted_is_lawful bytes admitted g h in
      record { sized = p.0; outline = p.3.0; stands = p.3.1; lawful = p.1; admits = p.2 }

  never_both : {x : Result Grammar Refusal} (g : Grammar) (e : Refusal) → x ≡ Ok g → x ≡ Err e → ⊥
  never_both g e p q = cc

  pub judged_refusal : (e : Refusal) → Loads (Err e) (reading bytes admitted) → Judges bytes admitted (Err e)
  judged_refusal e (inl h) = inl h
  judged_refusal e (inr h) = inr (
    refusal_names_a_fault bytes admitted e h,
    λ g a. never_both g e (lawful_is_accepted bytes admitted g a.outline a.sized a.stands a.lawful a.admits) h,
  )

-- the code has the head as H, and the vocabulary as v
module _ (bytes : List ℕ) (admitted : ℕ → ℕ → ℕ → Bool) (H : Record) (head : H ≡ record_at bytes 0) (fits : true ≡ sized bytes) where
  via : (P : Record → Type 0) → P H → P (record_at bytes 0)
  via P h = subst P head h

  reading_is : reading bytes admitted ≡ value (and_then (symbols bytes (record_at bytes 0).w2 (record_at bytes 0).next (replicate 4096 false)) (after_symbols bytes admitted))
  reading_is = cond-true _ _ _ (sym fits)

  pub symbols_refused : (d : Refusal) → (d ≡ OutOfMemory) ⊎ (symbols bytes H.w2 H.next (replicate 4096 false) ≡ Err d) → (d ≡ OutOfMemory) ⊎ (reading bytes admitted ≡ Err d)
  symbols_refused d (inl h) = inl h
  symbols_refused d (inr h) = inr (reading_is ∙ ap (λ x. value (and_then x (after_symbols bytes admitted))) (via (λ r. symbols bytes r.w2 r.next (replicate 4096 false) ≡ Err d) h))

  module _ (v : VocabularyCode) (start : v.start ≡ H.w2) (s : List Bool) (read : symbols bytes H.w2 H.next (replicate 4096 false) ≡ Ok (gathered v, s)) where
    same : vocabulary_view v ≡ over bytes admitted (gathered v)
    same = ap (λ n. record { start = n; symbols = (gathered v).symbols; attributes = (gathered v).attributes }) (start ∙ ap (λ r. r.w2) head)

    after : reading bytes admitted ≡ value (after_symbols bytes admitted (gathered v) s)
    after = reading_is ∙ ap (λ x. value (and_then x (after_symbols bytes admitted))) (via (λ r. symbols bytes r.w2 r.next (replicate 4096 false) ≡ Ok (gathered v, s)) read)

    tested : (b : Bool) → b ≡ is_inner (vocabulary_view v) H.w2 → is_inner (over bytes admitted (gathered v)) (record_at bytes 0).w2 ≡ b
    tested b h = sym (via (λ r. b ≡ is_inner (over bytes admitted (gathered v)) r.w2) (subst (λ x. b ≡ is_inner x H.w2) same h))

    pub start_bad : false ≡ is_inner (vocabulary_view v) H.w2 → reading bytes admitted ≡ Err (NoSuch 0)
    start_bad h = after ∙ ap value (cond-false _ _ _ (tested false h))

    module _ (inner : true ≡ is_inner (vocabulary_view v) H.w2) where
      onwards : (x : Result (List Production × List Bool) Refusal) → productions bytes (vocabulary_view v) admitted H.w1 s ≡ x
          → reading bytes admitted ≡ value (and_then x (λ ps s'. Ok (record { vocabulary = over bytes admitted (gathered v); productions = ps }, s')))
      onwards x h = after ∙ ap value (cond-true _ _ _ (tested true inner))
          ∙ ap (λ y. value (and_then y (λ ps s'. Ok (record { vocabulary = over bytes admitted (gathered v); productions = ps }, s'))))
          (via (λ r. productions bytes (over bytes admitted (gathered v)) admitted r.w1 s ≡ x) (subst (λ w. productions bytes w admitted H.w1 s ≡ x) same h))

      pub productions_refused : (d : Refusal) → (d ≡ OutOfMemory) ⊎ (productions bytes (vocabulary_view v) admitted H.w1 s ≡ Err d) → (d ≡ OutOfMemory) ⊎ (reading bytes admitted ≡ Err d)
      productions_refused d (inl h) = inl h
      productions_refused d (inr h) = inr (onwards (Err d) h)

      pub all_read : (ps : List Production) (s' : List Bool) → productions bytes (vocabulary_view v) admitted H.w1 s ≡ Ok (ps, s')
          → reading bytes admitted ≡ Ok (record { vocabulary = vocabulary_view v; productions = ps })
      all_read ps s' h = onwards (Ok (ps, s')) h ∙ ap {B = Result Grammar Refusal} (λ w. Ok (record { vocabulary = w; productions = ps })) (sym same)

-- a book just loaded has no numbers, as the code finds them over slices of its attributes
pub fresh_book : (g : Grammar) → Lawful g → (numbers : List ℕ) (wanted : ℕ) (first second : List Attribute) → first ≡ g.vocabulary.attributes → second ≡ g.vocabulary.attributes
    → (length first ≤ 64 → numbers ≡ unnumbered first) → ((p : ℕ) → has wanted p ≡ (ltb p 64 && wanting_at second p)) → Numbered g [] numbers 0 wanted
fresh_book g lawful numbers wanted first second e f names bits =
    let few = lawful.vocabulary.few_attributes in
    let are : numbers ≡ unnumbered g.vocabulary.attributes = subst (λ xs. length xs ≤ 64 → numbers ≡ unnumbered xs) e names few in
    let its = subst (λ xs. (p : ℕ) → has wanted p ≡ (ltb p 64 && wanting_at xs p)) f bits in
    subst (λ ns. Numbered g [] ns 0 wanted) (sym are) (not_numbered g lawful wanted (λ p. its p ∙ wanted_few g.vocabulary.attributes p few))
