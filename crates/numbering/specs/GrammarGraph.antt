-- The graph of a grammar's attributes: precedence and bars as tests that can be computed.
use Rattle.std.specs.Prelude.{ℕ, zero, suc, Bool, true, false, not, ◌&&◌, ◌||◌, List, [], ◌∷◌, length, ◌==◌}
use Rattle.plans.specs.declared.Direction.{Direction}
use Rattle.grammar.specs.declared.production.Occurrence.{Occurrence}
use Rattle.grammar.specs.Grammar.{Rule, Production, Grammar, attribute, given}
use Rattle.grammar.specs.Arcs.{ahead}
use Rattle.grammar.specs.Numberings.{wants}
use Rattle.numbering.specs.Graph.{Graph}
use Rattle.numbering.specs.Deletion.{keep, numbering}

-- some member of a list passes a test
abbrev pub some_of : {A : Type 0} → (A → Bool) → List A → Bool
some_of test [] = false
some_of test (x ∷ xs) = test x || some_of test xs

-- some rule for attribute b at a position k takes attribute a at a position j, and the positions pass a test
abbrev pub arc_where : (ℕ → ℕ → Bool) → Grammar → ℕ → ℕ → Bool
arc_where test g a b =
    not (given (attribute g.vocabulary a).kind)
    && some_of (λ (p : Production). some_of (λ (r : Rule). (r.target.attribute == b) && some_of (λ (o : Occurrence). (o.attribute == a) && test o.position r.target.position) r.arguments) p.rules) g.productions

-- the attributes of a grammar that want a number, with precedence and bars
abbrev pub graph_of : Grammar → Graph
graph_of g = record {
  wants = wants g;
  precedes = arc_where (λ j k. true) g;
  barred = λ d. arc_where (ahead d) g;
}

-- the numbers 1 to n
abbrev pub numbers_to : ℕ → List ℕ
numbers_to zero = []
numbers_to (suc n) = suc n ∷ numbers_to n

-- the numbering of a grammar under a list of directions, by deletion
abbrev pub grammar_numbering : Grammar → List Direction → ℕ → ℕ
grammar_numbering g ds = numbering (graph_of g) ds (keep (wants g) (numbers_to (length g.vocabulary.attributes)))
