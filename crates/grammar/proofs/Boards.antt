-- The board as arguments, rules and productions are added.
use Rattle.std.proofs.Common.{◌≡◌, ℕ, List, [], ◌∷◌, ◌++◌, refl}
use Rattle.grammar.specs.declared.production.Occurrence.{Occurrence}
use Rattle.grammar.specs.Grammar.{Vocabulary, Rule, Production}
use Rattle.grammar.specs.Arcs.{with_argument, with_arguments, with_rules, with_productions}

module _ (v : Vocabulary) where
  pub arguments_push : (t : Occurrence) (os : List Occurrence) (o : Occurrence) (board : List ℕ) → with_arguments v t (os ++ o ∷ []) board ≡ with_argument v t (with_arguments v t os board) o
  arguments_push t [] o board = refl
  arguments_push t (p ∷ os) o board = arguments_push t os o (with_argument v t board p)

  pub rules_push : (rs : List Rule) (r : Rule) (board : List ℕ) → with_rules v (rs ++ r ∷ []) board ≡ with_arguments v r.target r.arguments (with_rules v rs board)
  rules_push [] r board = refl
  rules_push (q ∷ rs) r board = rules_push rs r (with_arguments v q.target q.arguments board)

  pub productions_push : (ps : List Production) (p : Production) (board : List ℕ) → with_productions v (ps ++ p ∷ []) board ≡ with_rules v p.rules (with_productions v ps board)
  productions_push [] p board = refl
  productions_push (q ∷ ps) p board = productions_push ps p (with_rules v q.rules board)
