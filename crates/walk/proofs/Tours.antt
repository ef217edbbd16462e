-- The walk: its length, what it enters and leaves, and in which order.
use Rattle.std.proofs.Common.{◌≡◌, ℕ, zero, suc, ◌*◌, eqb, List, [], ◌∷◌, ◌++◌, length, count_by, refl, ap, subst, inl, inr, append-nil, arith, length-append}
use Rattle.std.specs.List.{flat_map}
use Rattle.std.proofs.lemmas.List.Sums.{sum_by-cons, sum_by-append}
use Rattle.plans.specs.declared.Direction.{Direction}
use Rattle.plans.specs.declared.Direction.TheVariants.{Left, Right}
use Rattle.grammar.specs.Members.{◌∈◌}
use Rattle.grammar.specs.Grammar.{Grammar}
use Rattle.trees.specs.Checking.{children_symbols}
use Rattle.grammar.specs.Members.{Apart}
use Rattle.trees.specs.Trees.{Forest, none, brother, numbers, Derived}
use Rattle.trees.specs.Laws.{Within, ChildAmong}
use Rattle.trees.proofs.Lists.{apart_left, apart_right, never_both, in_left, in_right, in_either, apart_append}
use Rattle.walk.specs.Walks.{Step, enter, leave, inners, joined, tour, entered, left, inner_children, visit, Inside, WalkLength, WalkEntersEachOnce, WalkLeavesEachOnce, BrothersAreVisitedInOrder, WalkNests}
use Rattle.walk.proofs.Lists.{length-joined, flat_joined, sum_by-joined, once_each_by_counts, inside_self, inside_left, inside_right, inside_first, inside_second}
use Rattle.walk.proofs.Children.{nothing_derived, positions_in_direction}

tour_length : (d : Direction) (parent position : ℕ) (f : Forest) → length (tour d parent position f) ≡ 2 * length (inners f)
tour_length d parent position none = refl
tour_length d parent position (brother n s zero below rest) = tour_length d parent (suc position) rest
tour_length d parent position (brother n s (suc p) below rest) =
    let under = tour_length d n 1 below in
    let beside = tour_length d parent (suc position) rest in
    simp (length-joined, length-append) (omega arith)

pub walk_length : WalkLength
walk_length d t = let h = tour_length d 0 1 t.children in simp length-append (omega arith)

pub inners_are_numbers : (f : Forest) (n : ℕ) → n ∈ inners f → n ∈ numbers f
inners_are_numbers none n m = absurd m
inners_are_numbers (brother k s zero below rest) n m = inr (in_right (numbers below) (numbers rest) n (inners_are_numbers rest n m))
inners_are_numbers (brother k s (suc p) below rest) n (inl e) = inl e
inners_are_numbers (brother k s (suc p) below rest) n (inr m) = inr (elim (in_either (inners below) (inners rest) n m) [
  | inl l ↦ in_left (numbers below) (numbers rest) n (inners_are_numbers below n l)
  | inr r ↦ in_right (numbers below) (numbers rest) n (inners_are_numbers rest n r)
])

pub inners_apart : (f : Forest) → Apart (numbers f) → Apart (inners f)
inners_apart none a = tt
inners_apart (brother k s zero below rest) a = inners_apart rest (apart_right (numbers below) (numbers rest) a.1)
inners_apart (brother k s (suc p) below rest) a = (
  λ m. a.0 (elim (in_either (inners below) (inners rest) k m) [
    | inl l ↦ in_left (numbers below) (numbers rest) k (inners_are_numbers below k l)
    | inr r ↦ in_right (numbers below) (numbers rest) k (inners_are_numbers rest k r)
  ]),
  apart_append (inners below) (inners rest)
      (inners_apart below (apart_left (numbers below) (numbers rest) a.1))
      (inners_apart rest (apart_right (numbers below) (numbers rest) a.1))
      (λ n l r. never_both (numbers below) (numbers rest) n a.1 (inners_are_numbers below n l) (inners_are_numbers rest n r)),
)

entered_append : (xs ys : List Step) → entered (xs ++ ys) ≡ entered xs ++ entered ys
entered_append [] ys = refl
entered_append (enter x j n ∷ xs) ys = ap (λ l. n ∷ l) (entered_append xs ys)
entered_append (leave n ∷ xs) ys = entered_append xs ys

entered_joined : (d : Direction) (xs ys : List Step) → entered (joined d xs ys) ≡ joined d (entered xs) (entered ys)
entered_joined Left xs ys = entered_append xs ys
entered_joined Right xs ys = entered_append ys xs

left_append : (xs ys : List Step) → left (xs ++ ys) ≡ left xs ++ left ys
left_append [] ys = refl
left_append (enter x j n ∷ xs) ys = left_append xs ys
left_append (leave n ∷ xs) ys = ap (λ l. n ∷ l) (left_append xs ys)

left_joined : (d : Direction) (xs ys : List Step) → left (joined d xs ys) ≡ joined d (left xs) (left ys)
left_joined Left xs ys = left_append xs ys
left_joined Right xs ys = left_append ys xs

tour_enters : (d : Direction) (parent position : ℕ) (f : Forest) (n : ℕ) → count_by (eqb n) (entered (tour d parent position f)) ≡ count_by (eqb n) (inners f)
tour_enters d parent position none n = refl
tour_enters d parent position (brother m s zero below rest) n = tour_enters d parent (suc position) rest n
tour_enters d parent position (brother m s (suc p) below rest) n =
    let under = tour_enters d m 1 below n in
    let beside = tour_enters d parent (suc position) rest n in
    simp (entered_joined, entered_append, sum_by-joined, sum_by-cons, sum_by-append) (omega arith)

tour_leaves : (d : Direction) (parent position : ℕ) (f : Forest) (n : ℕ) → count_by (eqb n) (left (tour d parent position f)) ≡ count_by (eqb n) (inners f)
tour_leaves d parent position none n = refl
tour_leaves d parent position (brother m s zero below rest) n = tour_leaves d parent (suc position) rest n
tour_leaves d parent position (brother m s (suc p) below rest) n =
    let under = tour_leaves d m 1 below n in
    let beside = tour_leaves d parent (suc position) rest n in
    simp (left_joined, left_append, sum_by-joined, sum_by-cons, sum_by-append) (omega arith)

pub walk_enters_each_once : WalkEntersEachOnce
walk_enters_each_once d t a = once_each_by_counts _ (inners t.children) (inners_apart t.children a.1)
    (λ n. let h = tour_enters d 0 1 t.children n in simp (entered_append, append-nil) h)

pub walk_leaves_each_once : WalkLeavesEachOnce
walk_leaves_each_once d t a = once_each_by_counts _ (0 ∷ inners t.children) (λ m. a.0 (inners_are_numbers t.children 0 m), inners_apart t.children a.1)
    (λ n. let h = tour_leaves d 0 1 t.children n in simp (left_append, sum_by-append, sum_by-cons) (omega arith))

pub tour_visits_brothers : (d : Direction) (parent position : ℕ) (f : Forest) → tour d parent position f ≡ flat_map (visit d parent) (inner_children d position f)
tour_visits_brothers d parent position none = refl
tour_visits_brothers d parent position (brother n s zero below rest) = tour_visits_brothers d parent (suc position) rest
tour_visits_brothers d parent position (brother n s (suc p) below rest) =
    let beside = tour_visits_brothers d parent (suc position) rest in
    simp (flat_joined, append-nil, beside)

pub brothers_are_visited_in_order : BrothersAreVisitedInOrder
brothers_are_visited_in_order d parent position f = (tour_visits_brothers d parent position f, positions_in_direction d position f)

tour_nests : (g : Grammar) (d : Direction) (ss : List ℕ) (parent position : ℕ) (f : Forest) → Derived g ss f
    → (n s p : ℕ) (below : Forest) → Within f n s (suc p) below
    → (x : ℕ) × (j : ℕ) × ChildAmong parent position f x j n
    × Inside (visit d x (record { position = j; node = n; below = below })) (tour d parent position f)
tour_nests g d ss parent position none der n s p below w = absurd w
tour_nests g d [] parent position (brother m y q under rest) der n s p below w = absurd der
tour_nests g d (x ∷ xs) parent position (brother m y zero under rest) der n s p below (inl e) = absurd (omega (arith, e.2))
tour_nests g d (x ∷ xs) parent position (brother m y zero under rest) der n s p below (inr (inl w)) = absurd (subst (λ f. Within f n s (suc p) below) (nothing_derived g under der.2) w)
tour_nests g d (x ∷ xs) parent position (brother m y zero under rest) der n s p below (inr (inr w)) =
    let h = tour_nests g d xs parent (suc position) rest der.3 n s p below w in
    (h.0, h.1, inr (inr h.2), h.3)
tour_nests g d (x ∷ xs) parent position (brother m y (suc q) under rest) der n s p below (inl e) =
    (parent, position, inl (refl, refl, e.0), rw (e.0, e.3) (inside_first d _ _ (tour d parent (suc position) rest) (inside_self _)))
tour_nests g d (x ∷ xs) parent position (brother m y (suc q) under rest) der n s p below (inr (inl w)) =
    let h = tour_nests g d (children_symbols g (suc q)) m 1 under der.2 n s p below w in (
      h.0,
      h.1,
      inr (inl h.2),
      inside_first d _ _ (tour d parent (suc position) rest)
          (inside_right _ (enter parent position m ∷ []) _ (inside_left _ (tour d m 1 under) (leave m ∷ []) h.3)),
    )
tour_nests g d (x ∷ xs) parent position (brother m y (suc q) under rest) der n s p below (inr (inr w)) =
    let h = tour_nests g d xs parent (suc position) rest der.3 n s p below w in
    (h.0, h.1, inr (inr h.2), inside_second d _ _ (tour d parent (suc position) rest) h.3)

pub walk_nests : WalkNests
walk_nests g nodes t st d n s p below w =
    let h = tour_nests g d (children_symbols g t.production) 0 1 t.children st.derived n s p below w in
    (h.0, h.1, h.2, inside_left _ (tour d 0 1 t.children) (leave 0 ∷ []) h.3)
