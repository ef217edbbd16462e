-- The grammar that a book holds.
use Rattle.std.specs.Prelude.{ℕ, ◌-◌, Bool, cond, not, ◌&&◌, List, [], ◌∷◌, ◌++◌, map, length, replicate, vec_items, Vec, nat_lt, slice_index_or}
use Rattle.std.specs.declared.alloc.Global.{Global}
use Rattle.grammar.specs.declared.vocabulary.Vocabulary.{Vocabulary as VocabularyCode}
use Rattle.grammar.specs.declared.vocabulary.Attribute.{Attribute}
use Rattle.grammar.specs.declared.production.Production.{Production as ProductionCode}
use Rattle.grammar.specs.Grammar.{Grammar, vocabulary_view, production_view, given, no_attribute}

abbrev pub grammar_view : VocabularyCode → Vec ProductionCode Global → Grammar
grammar_view v ps = record { vocabulary = vocabulary_view v; productions = map production_view (vec_items ps) }

abbrev pub first_numbers : List Attribute → List ℕ
first_numbers [] = []
first_numbers (a ∷ rest) = cond (given a.kind) 0 255 ∷ first_numbers rest

-- Numbers before any pass is planned: a given attribute has 0, and 255 says none, also past the last attribute.
abbrev pub unnumbered : List Attribute → List ℕ
unnumbered attributes = first_numbers attributes ++ replicate (64 - length attributes) 255

-- place p has an attribute that wants a number
abbrev pub wanting_at : List Attribute → ℕ → Bool
wanting_at attributes p = nat_lt p (length attributes) && not (given (slice_index_or attributes p no_attribute).kind)
