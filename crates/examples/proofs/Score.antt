-- The score of the worked tables, its passes and values computed.
use Rattle.std.proofs.Common.{◌≡◌, ℕ, zero, suc, ◌*◌, ◌<◌, ◌≤◌, List, [], ◌∷◌, length, ℤ, None, refl, inl, inr, arith, length-set}
use Rattle.std.specs.List.{slice_get}
use Rattle.kinds.specs.Lengths.{length_admitted}
use Rattle.plans.specs.declared.Direction.{Direction}
use Rattle.plans.specs.declared.Direction.TheVariants.{Left, Right}
use Rattle.grammar.specs.declared.production.Occurrence.{Occurrence}
use Rattle.grammar.specs.Members.{◌∈◌}
use Rattle.grammar.specs.Grammar.{Grammar, Rule}
use Rattle.grammar.specs.Lawful.{Lawful}
use Rattle.grammar.specs.Numberings.{Valid}
use Rattle.tables.proofs.Accepting.{accepted_is_lawful}
use Rattle.numbering.specs.Deletion.{member, keep, none, delete, remaining, number, after, numbering}
use Rattle.numbering.proofs.GrammarDeletion.{deletion_numbers_grammars}
use Rattle.grammar.specs.Members.{Apart}
use Rattle.trees.specs.Trees.{Stands, tree_numbers}
use Rattle.walk.specs.Programs.{execution}
use Rattle.walk.specs.Passes.{Task}
use Rattle.walk.specs.Evaluation.{CarriedOut}
use Rattle.walk.proofs.Executions.{whole_execution}
use Rattle.walk.proofs.Evaluations.{passes_compose}
use Rattle.examples.specs.Books.{table_bytes, P, Q}
use Rattle.examples.specs.Scores.{lengths, score, two_bars, notes, numbers_under, score_pass, after_passes, Evaluates, PValues, QValues}
use Rattle.examples.proofs.Grammars.{grammar_of, grammar_P, grammar_Q, zero_start, start_by_second, read_P, read_Q}

-- each number is smaller than the next
abbrev Ascending : List ℕ → Type 0
Ascending [] = Unit {0}
Ascending (n ∷ []) = Unit {0}
Ascending (n ∷ m ∷ rest) = (n < m) × Ascending (m ∷ rest)

smaller : (k n : ℕ) (rest : List ℕ) → k < n → Ascending (n ∷ rest) → k ∈ (n ∷ rest) → ⊥
smaller k n rest h a (inl e) = omega arith
smaller k n [] h a (inr m) = m
smaller k n (x ∷ rest) h a (inr m) = smaller k x rest (omega (arith, a.0)) a.1 m

ascending : (ns : List ℕ) → Ascending ns → Apart ns
ascending [] a = tt
ascending (n ∷ []) a = (λ m. m, tt)
ascending (n ∷ x ∷ rest) a = (smaller n x rest a.0 a.1, ascending (x ∷ rest) a.1)

every_node : (n : ℕ) → n < length score → n ∈ tree_numbers two_bars
every_node zero h = inl refl
every_node (suc zero) h = inr (inl refl)
every_node (suc (suc zero)) h = inr (inr (inl refl))
every_node (suc (suc (suc zero))) h = inr (inr (inr (inl refl)))
every_node (suc (suc (suc (suc zero)))) h = inr (inr (inr (inr (inl refl))))
every_node (suc (suc (suc (suc (suc n))))) h = absurd (omega arith)

-- the two productions of a worked grammar have the line and the bars of the score
two_bars_stand : (first_start : Rule) (more : List Occurrence) → Stands (grammar_of first_start more) score two_bars
two_bars_stand first_start more = record {
  start = refl;
  root_fits = refl;
  derived = (refl, refl, (refl, refl, tt, tt), (refl, refl, (refl, refl, tt, tt), tt));
  root_symbol = refl;
  root_production = refl;
  held = (
    refl,
    omega arith,
    omega arith,
    refl,
    refl,
    (refl, omega arith, omega arith, refl, refl, refl, refl),
    (refl, omega arith, omega arith, refl, refl, (refl, omega arith, omega arith, refl, refl, refl, refl), refl),
  );
  once = ascending (0 ∷ 1 ∷ 2 ∷ 3 ∷ 4 ∷ []) (omega arith, (omega arith, (omega arith, (omega arith, tt))));
  all = every_node;
}

module _ (g : Grammar) (ds : List Direction) (lawful : Lawful g) (stands : Stands g score two_bars) where
  -- no value of the first passes is undefined
  abbrev AllDefined : ℕ → Type 0
  AllDefined zero = Unit {0}
  AllDefined (suc pass) = AllDefined pass × ((execution (score_pass g ds (suc pass)) (after_passes g ds pass)).1 ≡ None)

  valid : Valid g ds (numbers_under g ds)
  valid = (deletion_numbers_grammars g lawful ds).valid

  abbrev task : Task
  task = record {
    grammar = g;
    lawful = lawful;
    directions = ds;
    number = numbers_under g ds;
    valid = valid;
    nodes = score;
    tree = two_bars;
    stands = stands;
  }

  carried_out : (passes : ℕ) → AllDefined passes → CarriedOut lengths task passes (notes g) (after_passes g ds passes)
  carried_out zero h = refl
  carried_out (suc pass) h = (after_passes g ds pass, carried_out pass h.0, whole_execution (score_pass g ds (suc pass)) (after_passes g ds pass) h.1)

  enough_cells : 16 * length score ≤ length (notes g)
  enough_cells = simp length-set (omega arith)

  evaluates : AllDefined (length ds) → Evaluates g ds
  evaluates h = record {
    lawful = lawful;
    valid = valid;
    stands = stands;
    evaluated = passes_compose ℤ lengths task (length ds) (omega arith) (notes g) (after_passes g ds (length ds)) enough_cells (carried_out (length ds) h)
        (slice_get (after_passes g ds (length ds))) (λ i p le. refl);
  }

pub values_P : PValues grammar_P
unfolding member keep none delete remaining number after numbering
values_P = record {
  evaluates = evaluates grammar_P (Left ∷ []) (accepted_is_lawful (table_bytes P) length_admitted grammar_P read_P).1 (two_bars_stand zero_start []) (tt, refl);
  steps = refl;
  five_moves = ((refl, (refl, (refl, (refl, (refl, refl))))), refl);
  first_width = refl;
  second_width = refl;
  first_start = refl;
  second_start = refl;
  whole = refl;
}

pub values_Q : QValues grammar_Q
unfolding member keep none delete remaining number after numbering
values_Q = record {
  evaluates = evaluates grammar_Q (Left ∷ Right ∷ []) (accepted_is_lawful (table_bytes Q) length_admitted grammar_Q read_Q).1 (two_bars_stand start_by_second [])
      ((tt, refl), refl);
  steps = refl;
  five_moves = ((refl, (refl, (refl, (refl, (refl, refl))))), refl);
  first_start = refl;
  second_start = refl;
  whole = refl;
}
