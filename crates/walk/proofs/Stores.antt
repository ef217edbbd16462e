-- What cells hold, before and after one is set.
use Rattle.std.proofs.Common.{◌≡◌, ℕ, zero, suc, ◌<◌, ◌≢◌, List, [], ◌∷◌, map, length, set, Some, refl, inl, inr, arith}
use Rattle.std.specs.List.{slice_get}
use Rattle.grammar.specs.Members.{◌∈◌}

module _ {V : Type 0} where
  pub set_cell_holds : (cells : List V) (c : ℕ) (v : V) → c < length cells → slice_get (set cells c v) c ≡ Some v
  set_cell_holds [] c v l = absurd (omega arith)
  set_cell_holds (x ∷ cells) zero v l = refl
  set_cell_holds (x ∷ cells) (suc c) v l = set_cell_holds cells c v (omega arith)

  pub other_cells_stay : (cells : List V) (c other : ℕ) (v : V) → other ≢ c → slice_get (set cells c v) other ≡ slice_get cells other
  other_cells_stay [] c other v h = refl
  other_cells_stay (x ∷ cells) zero zero v h = absurd (h refl)
  other_cells_stay (x ∷ cells) zero (suc other) v h = refl
  other_cells_stay (x ∷ cells) (suc c) zero v h = refl
  other_cells_stay (x ∷ cells) (suc c) (suc other) v h = other_cells_stay cells c other v (λ e. h (omega arith))

-- two functions that agree on the members of a list map it alike
pub map_alike : {A B : Type 0} (f g : A → B) (xs : List A) → ((x : A) → x ∈ xs → f x ≡ g x) → map f xs ≡ map g xs
map_alike f g [] h = refl
map_alike f g (x ∷ xs) h =
    let e = h x (inl refl) in
    let es = map_alike f g xs (λ y m. h y (inr m)) in
    cc
