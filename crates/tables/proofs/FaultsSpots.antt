-- Addresses in reading order.
use Rattle.std.proofs.Common.{ℕ, suc, List, [], ◌∷◌, ◌++◌, refl, inl, inr, ⊎_elim, arith}
use Rattle.tables.specs.Faults.{Before}

-- what comes before an address comes before those that belong to it
pub deeper : (p : List ℕ) (x : ℕ) (q a : List ℕ) → Before a p → Before a (p ++ x ∷ q)
deeper [] x q a b = absurd b
deeper (y ∷ p) x q [] b = tt
deeper (y ∷ p) x q (z ∷ a) b = ⊎_elim (λ l. inl l) (λ e. inr (e.0, deeper p x q a e.1)) b

pub under : (p : List ℕ) (x : ℕ) (q : List ℕ) → Before p (p ++ x ∷ q)
under [] x q = tt
under (y ∷ p) x q = inr (refl, under p x q)

-- and what comes before one number comes before the next, whatever belongs to them
pub further : (p : List ℕ) (n : ℕ) (q r a : List ℕ) → Before a (p ++ n ∷ q) → Before a (p ++ suc n ∷ r)
further [] n q r [] b = tt
further [] n q r (z ∷ a) b = ⊎_elim (λ l. inl (omega arith)) (λ e. inl (omega arith)) b
further (y ∷ p) n q r [] b = tt
further (y ∷ p) n q r (z ∷ a) b = ⊎_elim (λ l. inl l) (λ e. inr (e.0, further p n q r a e.1)) b

pub next_one : (p : List ℕ) (n : ℕ) (q r : List ℕ) → Before (p ++ n ∷ q) (p ++ suc n ∷ r)
next_one [] n q r = inl (omega arith)
next_one (y ∷ p) n q r = inr (refl, next_one p n q r)
