-- Reading a whole table: a refusal names a fault that is there.
use Rattle.std.proofs.Common.{◌≡◌, ℕ, suc, ◌≤◌, Bool, true, false, cond, List, [], ◌∷◌, length, get_or, replicate, Ok, Err, Result, refl, ◌∙◌, subst, arith}
use Rattle.std.proofs.lemmas.List.{length-replicate}
use Rattle.std.proofs.lemmas.Bool.{both_ways}
use Rattle.refusal.specs.declared.Refusal.{Refusal}
use Rattle.refusal.specs.declared.Refusal.TheVariants.{TableSize}
use Rattle.grammar.specs.Grammar.{Grammar, is_inner}
use Rattle.tables.specs.Chains.{word, sized}
use Rattle.tables.specs.Reading.{symbols, productions, over, after_symbols, whole, value}
use Rattle.tables.specs.Faults.{Spot, at_symbol, at_production, Writes, wrong_start, Fault, RefusalNamesAFault}
use Rattle.tables.proofs.Sizes.{is_sized, sized_is}
use Rattle.grammar.proofs.Marks.{unmarked}
use Rattle.tables.proofs.Free.{free_most}
use Rattle.tables.proofs.FaultsComes.{Comes, comes_then, comes_cond}
use Rattle.tables.proofs.FaultsChains.{Marks, marks_onward}
use Rattle.tables.proofs.FaultsSpots.{further}
use Rattle.tables.proofs.FaultsSymbols.{symbols_come}
use Rattle.tables.proofs.FaultsProductions.{productions_come}

-- at first nothing is marked
no_marks : (bytes : List ℕ) (next : Spot) (k : ℕ) → k ≡ 4096 → Marks bytes next 0 (replicate k false)
no_marks bytes next k e =
    let l : length (replicate k false) ≡ k = length-replicate k false in
    let f = free_most (replicate k false) in
    record { size = l ∙ e; left = omega arith; spots = λ m h. absurd (both_ways (get_or (replicate k false) m false) (unmarked k m) h) }

whole_comes : (bytes : List ℕ) (admitted : ℕ → ℕ → ℕ → Bool) (s : List Bool) → length bytes ≤ 49152 → Marks bytes (at_symbol 1) 0 s
    → Comes (Fault bytes admitted) (λ _ _. Unit {0}) (whole bytes admitted s)
whole_comes bytes admitted s short a =
    comes_then (Fault bytes admitted) _ _ (symbols bytes (word bytes 0 2) (word bytes 0 0) s) (after_symbols bytes admitted)
    (symbols_come bytes admitted short s a)
    (λ found s' end.
    let g = end.3 in
    let writes : Writes bytes (over bytes admitted found) = record { places = g.places; symbol_chain = rw g.are end.1; attribute_chains = g.chains; start = refl; written = g.written } in
    comes_cond (Fault bytes admitted) _ (is_inner (over bytes admitted found) (word bytes 0 2)) _ _
    (λ _. comes_then (Fault bytes admitted) _ _ (productions bytes (over bytes admitted found) admitted (word bytes 0 1) s') _
    (productions_come bytes admitted short (over bytes admitted found) writes s' (marks_onward (at_symbol (suc (length end.0))) (at_production 1) (further [] 0 (suc (length end.0) ∷ []) (1 ∷ [])) (omega arith) end.2))
    (λ ps s'' _. tt))
    (λ f. (over bytes admitted found, writes, wrong_start refl f)))

-- the refusal of what comes to a fault
refused : (Q : Refusal → Type 0) (r : Result (Grammar × List Bool) Refusal) (e : Refusal) → Comes Q (λ _ _. Unit {0}) r → value r ≡ Err e → Q e
refused Q (Ok p) e c h = cc
refused Q (Err d) e c h = let same : d ≡ e = cc in subst Q same c

by_size : (bytes : List ℕ) (admitted : ℕ → ℕ → ℕ → Bool) (e : Refusal) (b : Bool) → sized bytes ≡ b
    → cond b (value (whole bytes admitted (replicate 4096 false))) (Err TableSize) ≡ Err e → Fault bytes admitted e
by_size bytes admitted e true is h =
    refused (Fault bytes admitted) (whole bytes admitted (replicate 4096 false)) e (whole_comes bytes admitted (replicate 4096 false) (sized_is bytes is).2 (no_marks bytes (at_symbol 1) 4096 refl)) h
by_size bytes admitted e false is h =
    let same : TableSize ≡ e = cc in
    subst (Fault bytes admitted) same (λ s. both_ways (sized bytes) is (is_sized bytes s))

pub refusal_names_a_fault : RefusalNamesAFault
refusal_names_a_fault bytes admitted e h = by_size bytes admitted e (sized bytes) refl h
