-- The worked examples together.
use Rattle.examples.specs.Examples.{WorkedExamples}
use Rattle.examples.proofs.Grammars.{grammar_P, grammar_Q, grammar_S, grammar_T, read_P, read_Q, read_S, read_T}
use Rattle.examples.proofs.Numbers.{numbers_P, numbers_Q, numbers_T}
use Rattle.examples.proofs.Ring.{numbers_S}
use Rattle.examples.proofs.Score.{values_P, values_Q}

pub worked_examples : WorkedExamples
worked_examples = record {
  book_P = record { grammar = grammar_P; read = read_P; holds = numbers_P };
  score_P = record { grammar = grammar_P; read = read_P; holds = values_P };
  book_Q = record { grammar = grammar_Q; read = read_Q; holds = numbers_Q };
  score_Q = record { grammar = grammar_Q; read = read_Q; holds = values_Q };
  book_S = record { grammar = grammar_S; read = read_S; holds = numbers_S };
  book_T = record { grammar = grammar_T; read = read_T; holds = numbers_T };
}
