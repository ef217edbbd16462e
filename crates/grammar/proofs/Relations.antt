-- The labels of a lawful grammar's board, read as precedence and bars.
use Rattle.std.proofs.Common.{◌≡◌, ℕ, ◌≤◌, true, false, List, length, replicate, Decides, sym, ap, ◌∙◌, subst, ap₂, ⊎_elim, le_trans}
use lib.ListN.{length-replicate}
use Rattle.std.proofs.lemmas.Bool.{both_ways, and_parts, ltb-true, leb-true}
use Rattle.std.proofs.lemmas.Bool.Decides.{Decides-like}
use Rattle.grammar.specs.declared.production.Occurrence.{Occurrence}
use Rattle.grammar.specs.Members.{◌∈◌}
use Rattle.grammar.specs.Grammar.{Vocabulary, Rule, Production, Grammar, attribute, given, names, occurs}
use Rattle.grammar.specs.Lawful.{LawfulRule, LawfulProduction, Lawful, Used}
use Rattle.grammar.specs.Arcs.{Arc, precedence, bar, label, labelled, board_of}
use Rattle.grammar.specs.ArcTheorems.{LabelsStandForRelations}
use Rattle.grammar.proofs.Bits.{marked, label_precedes, label_decides}
use Rattle.grammar.proofs.Labels.{OnBoard, ProductionAdds, SomeAdds, blank, productions_add}
use Rattle.grammar.proofs.Members.{all_member}

named_on_board : (count n : ℕ) → count ≤ 64 → names count n ≡ true → OnBoard n
named_on_board count n few h = (ltb-true 0 n (and_parts _ _ h).0, le_trans (leb-true n count (and_parts _ _ h).1) few)

occurs_on_board : (v : Vocabulary) (left : ℕ) (right : List ℕ) (o : Occurrence) → length v.attributes ≤ 64 → occurs v left right o ≡ true → OnBoard o.attribute
occurs_on_board v left right o few h = named_on_board (length v.attributes) o.attribute few (and_parts _ _ (and_parts _ _ h).1).0

module _ (g : Grammar) (lawful : Lawful g) where
  rules_on_board : (p : Production) → p ∈ g.productions → (r : Rule) → r ∈ p.rules → OnBoard r.target.attribute × ((o : Occurrence) → o ∈ r.arguments → OnBoard o.attribute)
  rules_on_board p in_grammar r in_production =
      let v = g.vocabulary in
      let few = lawful.vocabulary.few_attributes in
      let production = all_member (LawfulProduction v) g.productions p lawful.productions in_grammar in
      let rule = all_member (LawfulRule v p) p.rules r production.rules in_production in
      (occurs_on_board v p.left p.right r.target few rule.defines.0, λ o m. occurs_on_board v p.left p.right o few (all_member (Used v p) r.arguments o rule.uses m).0)

  module _ (mark a b : ℕ) (a_on : OnBoard a) (b_on : OnBoard b) where
    -- an arc with a bit that is looked for
    abbrev Marking : Type 0
    Marking = (j : ℕ) × (k : ℕ) × Arc g a b j k × (marked mark (label j k) ≡ true)

    from_board : SomeAdds (ProductionAdds g.vocabulary mark a b a_on b_on) g.productions → Marking
    from_board s =
        let target = s.2.0.target in
        let argument = s.2.2.0 in
        let arc = s.2.2.2 in (
          argument.position,
          target.position,
          record {
            production = s.0;
            in_grammar = s.1;
            rule = s.2.0;
            in_production = s.2.1;
            argument = argument;
            in_rule = s.2.2.1;
            takes = ap (λ n. record { position = argument.position; attribute = n }) arc.takes;
            sets = ap (λ n. record { position = target.position; attribute = n }) arc.sets;
            not_given = subst (λ n. given (attribute g.vocabulary n).kind ≡ false) arc.takes arc.not_given;
          },
          arc.bits,
        )

    onto_board : Marking → SomeAdds (ProductionAdds g.vocabulary mark a b a_on b_on) g.productions
    onto_board m =
        let arc = m.2 in
        let takes : arc.argument.attribute ≡ a = ap (λ o. o.attribute) arc.takes in (
          arc.production,
          arc.in_grammar,
          (
            arc.rule,
            arc.in_production,
            (
              arc.argument,
              arc.in_rule,
              record {
                not_given = subst (λ n. given (attribute g.vocabulary n).kind ≡ false) (sym takes) arc.not_given;
                takes = takes;
                sets = ap (λ o. o.attribute) arc.sets;
                bits = ap₂ (λ p q. marked mark (label p q)) (ap (λ o. o.position) arc.takes) (ap (λ o. o.position) arc.sets) ∙ m.3;
              },
            ),
          ),
        )

    labels_decide : Decides (labelled (board_of g) mark a b) Marking
    labels_decide =
        let adds = productions_add g.vocabulary mark a b a_on b_on g.productions rules_on_board (replicate 4096 0) (length-replicate {A = ℕ} 4096 0) in
        (λ h. ⊎_elim (λ e. absurd (both_ways _ (blank g.vocabulary mark a b a_on b_on) e)) from_board (adds.told h), λ m. adds.added (onto_board m))

pub labels_stand_for_relations : LabelsStandForRelations
labels_stand_for_relations g lawful a b a-from a-to b-from b-to = (
  Decides-like _ (λ m. (m.0, m.1, m.2)) (λ m. (m.0, m.1, m.2, label_precedes m.0 m.1)) (labels_decide g lawful precedence a b (a-from, a-to) (b-from, b-to)),
  λ d. Decides-like _ (λ m. (m.0, m.1, m.2, (label_decides d m.0 m.1).0 m.3)) (λ m. (m.0, m.1, m.2, (label_decides d m.0 m.1).1 m.3)) (labels_decide g lawful (bar d) a b (a-from, a-to) (b-from, b-to)),
)
