-- The grammar that a book holds.
use Rattle.grammar.specs.declared.book.Book.{Book}
use Rattle.grammar.specs.Books.{grammar_view}
use Rattle.grammar.specs.Grammar.{Grammar}

abbrev pub grammar_of : Book → Grammar
grammar_of b = grammar_view b.vocabulary b.productions
