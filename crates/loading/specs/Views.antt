-- What the code has read, as the readings have it.
use Rattle.std.specs.Prelude.{vec_items}
use Rattle.grammar.specs.declared.vocabulary.Vocabulary.{Vocabulary}
use Rattle.tables.specs.Reading.{Gathered}

abbrev pub gathered : Vocabulary → Gathered
gathered v = record { symbols = vec_items v.symbols; attributes = vec_items v.attributes }
