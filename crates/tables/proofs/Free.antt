-- How many records are left, as some are reached.
use Rattle.std.proofs.Common.{◌≡◌, ℕ, zero, suc, ◌+◌, ◌<◌, ◌≤◌, Bool, true, false, List, [], ◌∷◌, length, get_or, set, arith}
use Rattle.tables.specs.Chains.{free}

pub free_reach : (s : List Bool) (i : ℕ) → i < length s → get_or s i false ≡ false → free (set s i true) + 1 ≡ free s
free_reach [] i l h = omega arith
free_reach (b ∷ s) zero l h = rw h (omega arith)
free_reach (b ∷ s) (suc i) l h = omega (arith, free_reach s i (omega arith) h)

pub free_most : (s : List Bool) → free s ≤ length s
free_most [] = omega arith
free_most (true ∷ s) = omega (arith, free_most s)
free_most (false ∷ s) = omega (arith, free_most s)
