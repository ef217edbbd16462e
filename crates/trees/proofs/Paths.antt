-- Paths from the root, and the order in which their places are read.
use Rattle.std.proofs.Common.{ℕ, suc, ◌<◌, List, [], ◌∷◌, ◌++◌, length, get_or, refl, subst, inl, inr, arith}
use Rattle.grammar.specs.Grammar.{Grammar}
use Rattle.trees.specs.declared.node.Node.{Node}
use Rattle.trees.specs.Faults.{link, Chained, Fitting, wanted, Leads, Before}

-- what comes before a place comes before all that is below it
pub before_further : (a b c : List ℕ) → Before a b → Before a (b ++ c)
before_further [] [] c h = absurd h
before_further [] (y ∷ b) c h = tt
before_further (x ∷ a) [] c h = absurd h
before_further (x ∷ a) (y ∷ b) c (inl l) = inl l
before_further (x ∷ a) (y ∷ b) c (inr h) = inr (h.0, before_further a b c h.1)

pub before_below : (a : List ℕ) (k : ℕ) → Before a (a ++ k ∷ [])
before_below [] k = tt
before_below (x ∷ a) k = inr (refl, before_below a k)

-- what comes before a place below an elder brother comes before the younger
pub before_younger : (a p q : List ℕ) (k j : ℕ) → k < j → Before a (p ++ k ∷ q) → Before a (p ++ j ∷ [])
before_younger [] [] q k j l h = tt
before_younger (x ∷ a) [] q k j l (inl h) = inl (omega arith)
before_younger (x ∷ a) [] q k j l (inr h) = inl (omega (arith, h.0))
before_younger [] (y ∷ p) q k j l h = tt
before_younger (x ∷ a) (y ∷ p) q k j l (inl h) = inl h
before_younger (x ∷ a) (y ∷ p) q k j l (inr h) = inr (h.0, before_younger a p q k j l h.1)

-- one level further
pub leads_more : (g : Grammar) (nodes : List Node) (path : List ℕ) (n s m x k : ℕ) → Leads g nodes n s path m x → Fitting g nodes m x → k < length (wanted g nodes m) → Chained nodes m (suc k)
    → Leads g nodes n s (path ++ k ∷ []) (link nodes m k) (get_or (wanted g nodes m) k 0)
leads_more g nodes [] n s m x k l fit within chain =
    let Goal : ℕ → ℕ → Type 0 = λ i y. Leads g nodes i y (k ∷ []) (link nodes m k) (get_or (wanted g nodes m) k 0) in
    let here : Goal m x = (fit, within, chain, (refl, refl)) in
    subst (Goal n) l.1 (subst (λ i. Goal i x) l.0 here)
leads_more g nodes (j ∷ path) n s m x k l fit within chain =
    (l.0, l.1, l.2, leads_more g nodes path (link nodes n j) (get_or (wanted g nodes n) j 0) m x k l.3 fit within chain)
