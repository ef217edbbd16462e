-- Which nodes are reached.
use Rattle.std.proofs.Common.{◌≡◌, ℕ, Bool, true, false, ◌⊎◌, List, [], ◌∷◌, length, get_or, set, sym, ◌∙◌, inl, inr, arith, length-set}
use Rattle.std.proofs.lemmas.List.{get_or-set_same, get_or-set_other}
use Rattle.std.proofs.lemmas.Bool.{cases_eq}
use Rattle.grammar.specs.Members.{◌∈◌}
use Rattle.grammar.proofs.Marks.{reach, Fresh, still_marked}

-- a mark was there, or its node was reached
pub reached_or_marked : (xs : List ℕ) (s : List Bool) (n : ℕ) → get_or (reach xs s) n false ≡ true → (n ∈ xs) ⊎ (get_or s n false ≡ true)
reached_or_marked [] s n h = inr h
reached_or_marked (x ∷ xs) s n h = elim (reached_or_marked xs (set s x true) n h) [ inl m ↦ inl (inr m) | inr k ↦ at (cases_eq n x) k ]
  where
    at : (n ≡ x) ⊎ (n ≡ x → ⊥) → get_or (set s x true) n false ≡ true → (n ∈ (x ∷ xs)) ⊎ (get_or s n false ≡ true)
    at (inl e) k = inl (inl e)
    at (inr d) k = inr (sym (get_or-set_other s x n true false d) ∙ k)

-- a node that is reached is marked
pub marked_stays : (xs : List ℕ) (s : List Bool) (n : ℕ) → length s ≡ 4096 → Fresh xs s → get_or s n false ≡ true → get_or (reach xs s) n false ≡ true
marked_stays [] s n l f h = h
marked_stays (x ∷ xs) s n l f h = marked_stays xs (set s x true) n (simp length-set l) f.2 (still_marked s x n (omega arith) h)

pub reached_is_marked : (xs : List ℕ) (s : List Bool) (n : ℕ) → length s ≡ 4096 → Fresh xs s → n ∈ xs → get_or (reach xs s) n false ≡ true
reached_is_marked [] s n l f m = absurd m
reached_is_marked (x ∷ xs) s n l f (inl e) =
    marked_stays xs (set s x true) n (simp length-set l) f.2 (rw e (get_or-set_same s x true false (omega arith)))
reached_is_marked (x ∷ xs) s n l f (inr m) = reached_is_marked xs (set s x true) n (simp length-set l) f.2 m
