-- One step of reading attributes and symbols, by what the code finds.
use Rattle.std.proofs.Common.{◌≡◌, ℕ, suc, ◌-◌, ◌<◌, ◌≤◌, Bool, eqb, List, [], ◌∷◌, ◌++◌, length, Some, None, Ok, Err, Option, sym, refl, ap, ◌∙◌}
use Rattle.std.proofs.lemmas.Bool.{cond-true, cond-false, le-leb, lt-leb}
use Rattle.refusal.specs.declared.Refusal.{Refusal}
use Rattle.refusal.specs.declared.Refusal.TheVariants.{CountPassed, BadKind}
use Rattle.grammar.specs.declared.vocabulary.SymbolKind.{SymbolKind}
use Rattle.grammar.specs.declared.vocabulary.AttributeKind.{AttributeKind}
use Rattle.grammar.specs.declared.vocabulary.Attribute.{Attribute}
use Rattle.grammar.specs.declared.vocabulary.Symbol.{Symbol}
use Rattle.tables.specs.declared.record.Record.{Record}
use Rattle.tables.specs.Chains.{and_then}
use Rattle.grammar.specs.Kinds.{symbol_kind, attribute_kind}
use Rattle.tables.specs.Reading.{Gathered, standing, require, attribute, attributes, symbol}

module _ (bytes : List ℕ) (number : ℕ) (kind : SymbolKind) (starts : Bool) (before : List Attribute) (r : Record) (s : List Bool) where
  pub attribute_passed : 64 ≤ length before → attribute bytes number kind starts before r s ≡ Err (CountPassed r.place)
  attribute_passed l = cond-true _ _ _ (le-leb _ _ l)

  judged : length before < 64 → (o : Option AttributeKind) → o ≡ standing kind starts (attribute_kind r.w1)
      → attribute bytes number kind starts before r s ≡ and_then (require o (BadKind r.place) s) (λ a s'. Ok (before ++ record { symbol = number; kind = a } ∷ [], s'))
  judged l o e = cond-false _ _ _ (lt-leb _ _ l) ∙ ap (λ x. and_then (require x (BadKind r.place) s) (λ a s'. Ok (before ++ record { symbol = number; kind = a } ∷ [], s'))) (sym e)

  pub attribute_bad : length before < 64 → None ≡ standing kind starts (attribute_kind r.w1) → attribute bytes number kind starts before r s ≡ Err (BadKind r.place)
  attribute_bad l e = judged l None e

  pub attribute_more : length before < 64 → (a : AttributeKind) → Some a ≡ standing kind starts (attribute_kind r.w1)
      → attribute bytes number kind starts before r s ≡ Ok (before ++ record { symbol = number; kind = a } ∷ [], s)
  attribute_more l a e = judged l (Some a) e

module _ (bytes : List ℕ) (start : ℕ) (before : Gathered) (r : Record) (s : List Bool) where
  abbrev grown : SymbolKind → List Attribute → Gathered
  grown kind after = record {
    symbols = before.symbols ++ record { kind = kind; first = suc (length before.attributes); count = length after - length before.attributes } ∷ [];
    attributes = after;
  }

  kind_read : (o : Option SymbolKind) → o ≡ symbol_kind r.w1 → symbol bytes start before r s ≡
      and_then (require o (BadKind r.place) s) (λ kind s'.
      and_then (attributes bytes (suc (length before.symbols)) kind (eqb start (suc (length before.symbols))) before.attributes r s') (λ after s''. Ok (grown kind after, s'')))
  kind_read o e = ap (λ x. and_then (require x (BadKind r.place) s) (λ kind s'.
      and_then (attributes bytes (suc (length before.symbols)) kind (eqb start (suc (length before.symbols))) before.attributes r s') (λ after s''. Ok (grown kind after, s'')))) (sym e)

  pub symbol_bad : None ≡ symbol_kind r.w1 → symbol bytes start before r s ≡ Err (BadKind r.place)
  symbol_bad e = kind_read None e

  module _ (kind : SymbolKind) (number : ℕ) (starts : Bool) (e : Some kind ≡ symbol_kind r.w1) (n : number ≡ suc (length before.symbols)) (q : starts ≡ eqb start number) where
    pub symbol_refused : (d : Refusal) → attributes bytes number kind starts before.attributes r s ≡ Err d → symbol bytes start before r s ≡ Err d
    symbol_refused d h =
        let read : attributes bytes (suc (length before.symbols)) kind (eqb start (suc (length before.symbols))) before.attributes r s ≡ Err d = rw (← n, ← q) h in
        kind_read (Some kind) e ∙ ap (λ x. and_then x (λ after s''. Ok (grown kind after, s''))) read

    pub symbol_more : (after : List Attribute) (s' : List Bool) → attributes bytes number kind starts before.attributes r s ≡ Ok (after, s') → symbol bytes start before r s ≡ Ok (grown kind after, s')
    symbol_more after s' h =
        let read : attributes bytes (suc (length before.symbols)) kind (eqb start (suc (length before.symbols))) before.attributes r s ≡ Ok (after, s') = rw (← n, ← q) h in
        kind_read (Some kind) e ∙ ap (λ x. and_then x (λ after s''. Ok (grown kind after, s''))) read

pub same_symbol : (ss : List Symbol) (kind : SymbolKind) (f g m n : ℕ) → f ≡ g → m ≡ n → ss ++ record { kind = kind; first = f; count = m } ∷ [] ≡ ss ++ record { kind = kind; first = g; count = n } ∷ []
same_symbol ss kind f g m n e h = rw (e, h) refl
