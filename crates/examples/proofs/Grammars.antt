-- The grammars of the four tables, and that the tables are read to them.
use Rattle.std.proofs.Common.{◌≡◌, ℕ, List, [], ◌∷◌, Ok, refl}
use Rattle.kinds.specs.Lengths.{length_admitted}
use Rattle.grammar.specs.declared.vocabulary.SymbolKind.TheVariants.{Inner, Terminal}
use Rattle.grammar.specs.declared.vocabulary.AttributeKind.TheVariants.{Inherited, Synthesized, Given}
use Rattle.grammar.specs.declared.production.Occurrence.{Occurrence}
use Rattle.grammar.specs.Grammar.{Vocabulary, Rule, Production, Grammar}
use Rattle.tables.specs.Chains.{met, along}
use Rattle.tables.specs.Reading.{reading}
use Rattle.examples.specs.Books.{table_bytes, P, Q, S, T}

abbrev pub bars : Vocabulary
bars = record {
  start = 1;
  symbols =
      record { kind = Inner; first = 1; count = 1 }
      ∷ record { kind = Inner; first = 2; count = 2 }
      ∷ record { kind = Terminal; first = 4; count = 1 }
      ∷ [];
  attributes =
      record { symbol = 1; kind = Synthesized }
      ∷ record { symbol = 2; kind = Inherited }
      ∷ record { symbol = 2; kind = Synthesized }
      ∷ record { symbol = 3; kind = Given }
      ∷ [];
}

abbrev pub at : ℕ → ℕ → Occurrence
at position attribute = record { position = position; attribute = attribute }

abbrev pub zero_start : Rule
zero_start = record { target = at 1 2; operation = 1; constant = 0; arguments = [] }

abbrev pub start_by_second : Rule
start_by_second = record { target = at 1 2; operation = 2; constant = 0; arguments = at 2 3 ∷ [] }

abbrev pub start_by_first : Rule
start_by_first = record { target = at 2 2; operation = 2; constant = 0; arguments = at 1 3 ∷ [] }

abbrev pub sum_of_widths : Rule
sum_of_widths = record { target = at 0 1; operation = 2; constant = 0; arguments = at 1 3 ∷ at 2 3 ∷ [] }

abbrev pub line : Rule → Production
line first_start = record { left = 1; right = 2 ∷ 2 ∷ []; rules = first_start ∷ start_by_first ∷ sum_of_widths ∷ [] }

abbrev pub width_from : List Occurrence → Rule
width_from more = record { target = at 0 3; operation = 2; constant = 5; arguments = at 1 4 ∷ more }

abbrev pub bar : List Occurrence → Production
bar more = record { left = 2; right = 3 ∷ []; rules = width_from more ∷ [] }

abbrev pub grammar_of : Rule → List Occurrence → Grammar
grammar_of first_start more = record { vocabulary = bars; productions = line first_start ∷ bar more ∷ [] }

abbrev pub grammar_P : Grammar
grammar_P = grammar_of zero_start []

abbrev pub grammar_Q : Grammar
grammar_Q = grammar_of start_by_second []

abbrev pub grammar_S : Grammar
grammar_S = grammar_of start_by_second (at 0 2 ∷ [])

abbrev pub grammar_T : Grammar
grammar_T = grammar_of zero_start (at 0 2 ∷ [])

pub read_P : reading (table_bytes P) length_admitted ≡ Ok grammar_P
unfolding met along
read_P = refl

pub read_Q : reading (table_bytes Q) length_admitted ≡ Ok grammar_Q
unfolding met along
read_Q = refl

pub read_S : reading (table_bytes S) length_admitted ≡ Ok grammar_S
unfolding met along
read_S = refl

pub read_T : reading (table_bytes T) length_admitted ≡ Ok grammar_T
unfolding met along
read_T = refl
