-- The rule that sets an occurrence.
use Rattle.std.specs.Prelude.{cond, List, [], ◌∷◌, Some, None, Option}
use Rattle.grammar.specs.declared.production.Occurrence.{Occurrence}
use Rattle.grammar.specs.Grammar.{Rule}
use Rattle.grammar.specs.Rules.{same}

-- the first of the rules whose target is the occurrence, if there is one
abbrev pub rule_of : List Rule → Occurrence → Option Rule
rule_of [] o = None
rule_of (r ∷ rs) o = cond (same r.target o) (Some r) (rule_of rs o)
