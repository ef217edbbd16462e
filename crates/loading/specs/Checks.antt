-- What is asked of the records of productions and rules.
use Rattle.std.specs.Prelude.{ℕ, Bool, cond, not, ◌&&◌, List, Ok, Err, Result, ◌==◌}
use Rattle.refusal.specs.declared.Refusal.{Refusal}
use Rattle.refusal.specs.declared.Refusal.TheVariants.{NoSuch, BadRule}
use Rattle.grammar.specs.declared.production.Occurrence.{Occurrence}
use Rattle.grammar.specs.Grammar.{Vocabulary, is_symbol, occurs, defined}
use Rattle.grammar.specs.Rules.{has_rule}
use Rattle.tables.specs.declared.record.Record.{Record}
use Rattle.tables.specs.Reading.{occurrence}

-- a symbol that may stand on a right side: any but the start
abbrev pub inside : Vocabulary → ℕ → Bool
inside v s = is_symbol v s && not (s == v.start)

-- the target of a rule's record: a defined occurrence that no rule has as its target yet
abbrev pub target_at : Vocabulary → ℕ → List ℕ → List Occurrence → Record → Result Occurrence Refusal
target_at v left right targets r =
    cond (occurs v left right (occurrence r))
    (cond (defined v (occurrence r) && not (has_rule targets (occurrence r))) (Ok (occurrence r)) (Err (BadRule r.place)))
    (Err (NoSuch r.place))
