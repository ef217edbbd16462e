-- Which records are reached.
use Rattle.std.proofs.Common.{◌≡◌, ℕ, ◌+◌, ◌≤◌, Bool, true, List, [], ◌∷◌, length, set, arith, length-set}
use Rattle.tables.specs.Chains.{free}
use Rattle.tables.proofs.Free.{free_reach}
use Rattle.grammar.proofs.Marks.{Fresh}

-- there are at most as many as there are records
pub fresh_few : (xs : List ℕ) (s : List Bool) → length s ≡ 4096 → Fresh xs s → length xs ≤ free s
fresh_few [] s n f = omega arith
fresh_few (x ∷ xs) s n f =
    let k : free (set s x true) + 1 ≡ free s = free_reach s x (omega arith) f.1 in
    let m : length xs ≤ free (set s x true) = fresh_few xs (set s x true) (simp length-set n) f.2 in
    omega arith
