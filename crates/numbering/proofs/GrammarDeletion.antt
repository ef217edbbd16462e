-- Deletion numbers the attributes of a grammar.
use Rattle.std.proofs.Common.{◌≡◌, ℕ, zero, suc, ◌≤◌, true, false, cond, ◌&&◌, eqb, List, length, sym, refl, ap, ◌∙◌, subst, ⊎_elim, arith}
use Rattle.std.proofs.lemmas.Bool.{cases_Bool, cases_eq, and_parts, and_right, or_left, or_right, eq-eqb, cond-true, cond-false, ltb-true, leb-true, not_from_true}
use Rattle.plans.specs.declared.Direction.{Direction}
use Rattle.grammar.specs.Grammar.{Grammar}
use Rattle.grammar.specs.Numberings.{wants, direction}
use Rattle.numbering.specs.Graph.{Graph, LeastOn}
use Rattle.numbering.specs.Deletion.{member, keep}
use Rattle.numbering.specs.GrammarGraph.{graph_of, numbers_to, grammar_numbering}
use Rattle.numbering.specs.Theorems.{DeletionNumbersGrammars}
use Rattle.numbering.proofs.Deleting.{member_keep, deletion_is_least}
use Rattle.numbering.proofs.Relations.{arc_ends, least_of, precedes_decides, barred_decides}

-- numberings that agree on the attributes that want a number
least_like : (g : Graph) (ds : List Direction) (v w : ℕ → ℕ) → ((a : ℕ) → g.wants a ≡ true → w a ≡ v a) → LeastOn g ds v → LeastOn g ds w
least_like g ds v w same h = record {
  valid = record {
    starts = λ a wanted. omega (arith, same a wanted, h.valid.starts a wanted);
    rises = λ a b edge l. omega (arith, same a edge.source, same b edge.target, h.valid.rises a b edge (omega (arith, same b edge.target)));
    clear = λ a b edge l e.
        let at_b = same b edge.target in
        subst (λ t. g.barred (direction ds t) a b ≡ false) (sym at_b) (h.valid.clear a b edge (omega arith) (sym (same a edge.source) ∙ e ∙ at_b));
  };
  least = λ u valid b wanted l. omega (arith, same b wanted, h.least u valid b wanted l);
}

member_numbers : (n a : ℕ) → 1 ≤ a → a ≤ n → member a (numbers_to n) ≡ true
unfolding member
member_numbers zero a h l = absurd (omega arith)
member_numbers (suc n) a h l = ⊎_elim
    (λ (e : a ≡ suc n). or_left (eqb a (suc n)) (member a (numbers_to n)) (eq-eqb a (suc n) e))
    (λ (e : a ≡ suc n → ⊥). or_right (eqb a (suc n)) (member a (numbers_to n)) (member_numbers n a h (omega arith)))
    (cases_eq a (suc n))

wanting_listed : (g : Grammar) (a : ℕ) → member a (keep (wants g) (numbers_to (length g.vocabulary.attributes))) ≡ wants g a
wanting_listed g a = member_keep (wants g) a _ ∙ ⊎_elim
    (λ (e : wants g a ≡ true).
    let named = and_parts _ _ (and_parts _ _ e).0 in
    ap (λ b. b && wants g a) (member_numbers (length g.vocabulary.attributes) a (ltb-true 0 a named.0) (leb-true a _ named.1)))
    (λ (e : wants g a ≡ false). and_right _ (wants g a) e ∙ sym e)
    (cases_Bool (wants g a))

pub deletion_numbers_grammars : DeletionNumbersGrammars
deletion_numbers_grammars g lawful ds = least_of g (graph_of g) ds (λ a. refl) (arc_ends g lawful) (λ a b _ _. precedes_decides g a b) (λ d a b _ _. barred_decides g d a b)
    (λ a. cond (wants g a) (grammar_numbering g ds a) 0)
    (λ a is_attribute is_given. cond-false (wants g a) (grammar_numbering g ds a) 0 (and_right _ _ (not_from_true _ is_given)))
    (least_like (graph_of g) ds (grammar_numbering g ds) _ (λ a wanted. cond-true (wants g a) (grammar_numbering g ds a) 0 wanted) (deletion_is_least (graph_of g) ds _ (wanting_listed g)))
