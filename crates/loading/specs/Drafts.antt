-- What the code has of a production that is being read.
use Rattle.std.specs.Prelude.{ℕ, Bool, List, map, vec_items, Result}
use Rattle.refusal.specs.declared.Refusal.{Refusal}
use Rattle.grammar.specs.declared.vocabulary.AttributeKind.{AttributeKind}
use Rattle.grammar.specs.declared.production.Occurrence.{Occurrence}
use Rattle.grammar.specs.Grammar.{Vocabulary, vocabulary_view, attribute, occurs}
use Rattle.grammar.specs.Rules.{target_of}
use Rattle.tables.specs.declared.record.Record.{Record}
use Rattle.loading.specs.declared.rules.Rules.{Rules}
use Rattle.loading.specs.declared.sides.Sides.{Sides}
use Rattle.loading.specs.Checks.{target_at}

abbrev pub vocabulary_of : Sides → Vocabulary
vocabulary_of s = vocabulary_view s.vocabulary.now

abbrev pub right_of : Sides → List ℕ
right_of s = vec_items s.right

-- whether the production has the occurrence, and the kind of the occurrence's attribute
abbrev pub has : Sides → Occurrence → Bool
has s o = occurs (vocabulary_of s) s.left (right_of s) o

abbrev pub kind_of : Sides → Occurrence → AttributeKind
kind_of s o = (attribute (vocabulary_of s) o.attribute).kind

abbrev pub targets_of : Rules → List Occurrence
targets_of r = map target_of (vec_items r.rules)

-- the target of a rule's record, after the rules that are read
abbrev pub next_target : Sides → Rules → Record → Result Occurrence Refusal
next_target s rules r = target_at (vocabulary_of s) s.left (right_of s) (targets_of rules) r
