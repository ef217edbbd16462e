-- The number in a slot is that of the occurrence's rule.
use Rattle.std.proofs.Common.{◌≡◌, ℕ, suc, ◌+◌, List, [], ◌∷◌, map, get_or, ◌⊎◌, None, sym, refl, ap, ◌∙◌, inl, inr, arith}
use Rattle.std.specs.List.{slice_get}
use Rattle.std.specs.Option.{option_map}
use Rattle.std.proofs.lemmas.Bool.{cases_Bool}
use Rattle.grammar.specs.declared.production.Occurrence.{Occurrence}
use Rattle.grammar.specs.declared.production.Rule.{Rule}
use Rattle.grammar.specs.Grammar.{rule_view}
use Rattle.grammar.specs.Lookup.{rule_of}
use Rattle.grammar.specs.Members.{numbered}
use Rattle.grammar.specs.Rules.{same, target_of, numbered_from, slot, Within, Indexed}

-- among rules from number n on, none is for the occurrence, or the one at a place is
found : (n : ℕ) (rules : List Rule) (o : Occurrence)
    → ((numbered_from n (map target_of rules) o ≡ 0) × (rule_of (map rule_view rules) o ≡ None))
    ⊎ ((place : ℕ) × (numbered_from n (map target_of rules) o ≡ n + place) × (option_map rule_view (slice_get rules place) ≡ rule_of (map rule_view rules) o))
found n [] o = inl (refl, refl)
found n (r ∷ rules) o = elim (cases_Bool (same r.target o)) [
  | inl h ↦ inr (0, rw h (omega arith), rw h refl)
  | inr h ↦ elim (found (suc n) rules o) [
    | inl none ↦ inl (rw h none.0, rw h none.1)
    | inr some ↦ inr (suc some.0, rw h (some.1 ∙ omega arith), rw h some.2)
  ]
]

pub rule_in_slot : (slots : List ℕ) (rules : List Rule) (o : Occurrence) → Indexed slots (map target_of rules) → Within o
    → option_map rule_view (numbered rules (get_or slots (slot o) 0)) ≡ rule_of (map rule_view rules) o
rule_in_slot slots rules o indexed within =
    ap (λ n. option_map rule_view (numbered rules n)) (indexed o within)
    ∙ elim (found 1 rules o) [
      | inl none ↦ ap (λ n. option_map rule_view (numbered rules n)) none.0 ∙ sym none.1
      | inr some ↦ ap (λ n. option_map rule_view (numbered rules n)) {y = suc some.0} (some.1 ∙ omega arith) ∙ some.2
    ]
