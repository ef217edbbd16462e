-- A rule or a production that is read to its end, by what the code finds.
use Rattle.std.proofs.Common.{◌≡◌, ℕ, Bool, true, false, List, [], ◌∷◌, ◌++◌, map, Ok, Err, Result, sym, refl, ap, ◌∙◌, not, eqb, arith}
use Rattle.std.proofs.lemmas.Bool.{cond-true, cond-false}
use Rattle.std.proofs.lemmas.Bool.Decides.{nat_tests}
use Rattle.refusal.specs.declared.Refusal.{Refusal}
use Rattle.grammar.specs.declared.production.Occurrence.{Occurrence}
use Rattle.refusal.specs.declared.Refusal.TheVariants.{BadRule}
use Rattle.grammar.specs.declared.production.Rule.{Rule as RuleCode}
use Rattle.grammar.specs.Grammar.{Vocabulary, Production, rule_view, complete}
use Rattle.grammar.specs.Lawful.{target}
use Rattle.grammar.specs.Rules.{has_rule, rule_number, target_of}
use Rattle.tables.specs.declared.record.Record.{Record}
use Rattle.tables.specs.Reading.{finished_production}

pub same_targets : (rules : List RuleCode) → map target (map rule_view rules) ≡ map target_of rules
same_targets [] = refl
same_targets (r ∷ rs) = ap (λ ts. r.target ∷ ts) (same_targets rs)

module _ (bytes : List ℕ) (v : Vocabulary) (admitted : ℕ → ℕ → ℕ → Bool) (before : List Production) (r : Record) (right : List ℕ) (rules : List RuleCode) (s : List Bool)
    (left : ℕ) (e : left ≡ r.w1) where
  same_test : (b : Bool) → b ≡ complete v left right (map target_of rules) → complete v r.w1 right (map target (map rule_view rules)) ≡ b
  same_test b h = sym (rw (same_targets rules, ← e) h)

  pub production_lacking : false ≡ complete v left right (map target_of rules) → finished_production bytes v admitted before r right (map rule_view rules) s ≡ Err (BadRule r.place)
  production_lacking h = cond-false _ _ _ (same_test false h)

  pub production_finished : (after : List Production) → true ≡ complete v left right (map target_of rules)
      → after ≡ before ++ record { left = left; right = right; rules = map rule_view rules } ∷ []
      → finished_production bytes v admitted before r right (map rule_view rules) s ≡ Ok (after, s)
  production_finished after h a = cond-true _ _ _ (same_test true h) ∙ ap {B = Result (List Production × List Bool) Refusal} (λ x. Ok (x, s)) (sym (a ∙ ap (λ n. before ++ record { left = n; right = right; rules = map rule_view rules } ∷ []) e))

-- what no rule sets has no rule's number
pub no_rule_yet : (targets : List Occurrence) (o : Occurrence) → has_rule targets o ≡ false → rule_number targets o ≡ 0
no_rule_yet targets o none = go (rule_number targets o) none
  where
    go : (n : ℕ) → not (eqb n 0) ≡ false → n ≡ 0
    go n h = grind (arith, nat_tests)
