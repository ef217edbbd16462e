-- The steps of a walk, and which comes before which.
use Rattle.std.proofs.Common.{◌≡◌, ℕ, zero, suc, ◌≤◌, ◌⊎◌, List, [], ◌∷◌, ◌++◌, sym, refl, ap, ◌∙◌, subst, inl, inr, arith}
use Rattle.std.proofs.lemmas.Bool.Decides.{nat_tests}
use Rattle.plans.specs.declared.Direction.{Direction}
use Rattle.plans.specs.declared.Direction.TheVariants.{Left, Right}
use Rattle.grammar.specs.Members.{◌∈◌}
use Rattle.grammar.specs.Grammar.{Grammar}
use Rattle.trees.specs.declared.node.Node.{Node}
use Rattle.grammar.specs.Members.{Apart}
use Rattle.trees.specs.Trees.{Forest, none, brother, Tree, numbers, Derived, Stands}
use Rattle.trees.specs.Laws.{ChildAmong, Child}
use Rattle.trees.specs.Checking.{children_symbols}
use Rattle.trees.proofs.Lists.{apart_left, apart_right, never_both, in_left, in_right, in_either, apart_append}
use Rattle.trees.proofs.Parents.{parent_is_unique}
use Rattle.walk.specs.Walks.{Step, enter, leave, inners, joined, tour, walk, Sooner}
use Rattle.walk.specs.Turns.{Earlier, HasItsSteps, WalkHasItsSteps, InTurn, WalkGoesInTurn}
use Rattle.walk.proofs.Members.{joined_first, joined_second, joined_either}
use Rattle.walk.proofs.Children.{nothing_derived}
use Rattle.walk.proofs.Tours.{inners_are_numbers}
use Rattle.walk.proofs.Places.{child_is_below}
use Rattle.walk.proofs.Sequence.{ComesBefore, before_left, before_across, before_first, before_second, apart_joined, one_way, earlier, comes_before}

-- terminals have no children
abbrev Leafy : Forest → Type 0
Leafy none = Unit {0}
Leafy (brother n s zero below rest) = (below ≡ none) × Leafy rest
Leafy (brother n s (suc p) below rest) = Leafy below × Leafy rest

derived_is_leafy : (g : Grammar) (ss : List ℕ) (f : Forest) → Derived g ss f → Leafy f
derived_is_leafy g [] none h = tt
derived_is_leafy g [] (brother n s p below rest) h = absurd h
derived_is_leafy g (x ∷ xs) none h = absurd h
derived_is_leafy g (x ∷ xs) (brother n s zero below rest) h = (nothing_derived g below h.2, derived_is_leafy g xs rest h.3)
derived_is_leafy g (x ∷ xs) (brother n s (suc p) below rest) h =
    (derived_is_leafy g (children_symbols g (suc p)) below h.2, derived_is_leafy g xs rest h.3)

-- n is an inner node and the j-th child of x, among brothers whose parent and first position are given
abbrev InnerAmong : ℕ → ℕ → Forest → ℕ → ℕ → ℕ → Type 0
InnerAmong parent k none x j n = ⊥
InnerAmong parent k (brother m s zero below rest) x j n = InnerAmong parent (suc k) rest x j n
InnerAmong parent k (brother m s (suc p) below rest) x j n =
    ((x ≡ parent) × (j ≡ k) × (n ≡ m)) ⊎ (InnerAmong m 1 below x j n ⊎ InnerAmong parent (suc k) rest x j n)

-- where no node stands twice, a child that is an inner node somewhere is one there
inner_child : (parent k : ℕ) (f : Forest) (x j n : ℕ) → Leafy f → Apart (numbers f) → ChildAmong parent k f x j n → n ∈ inners f
    → InnerAmong parent k f x j n
inner_child parent k none x j n l o h m = absurd h
inner_child parent k (brother b s zero below rest) x j n l o (inl h) m =
    absurd (o.0 (subst (λ w. w ∈ (numbers below ++ numbers rest)) h.2 (in_right (numbers below) (numbers rest) n (inners_are_numbers rest n m))))
inner_child parent k (brother b s zero below rest) x j n l o (inr (inl h)) m =
    absurd (subst (λ f. ChildAmong b 1 f x j n) l.0 h)
inner_child parent k (brother b s zero below rest) x j n l o (inr (inr h)) m =
    inner_child parent (suc k) rest x j n l.1 (apart_right (numbers below) (numbers rest) o.1) h m
inner_child parent k (brother b s (suc p) below rest) x j n l o (inl h) m = inl h
inner_child parent k (brother b s (suc p) below rest) x j n l o (inr (inl h)) (inl e) =
    absurd (o.0 (in_left (numbers below) (numbers rest) b (subst (λ w. w ∈ numbers below) e (child_is_below below b 1 x j n h))))
inner_child parent k (brother b s (suc p) below rest) x j n l o (inr (inl h)) (inr m) =
    inr (inl (inner_child b 1 below x j n l.0 (apart_left (numbers below) (numbers rest) o.1) h
    (elim (in_either (inners below) (inners rest) n m) [
      | inl i ↦ i
      | inr i ↦ absurd (never_both (numbers below) (numbers rest) n o.1 (child_is_below below b 1 x j n h) (inners_are_numbers rest n i))
    ])))
inner_child parent k (brother b s (suc p) below rest) x j n l o (inr (inr h)) (inl e) =
    absurd (o.0 (in_right (numbers below) (numbers rest) b (subst (λ w. w ∈ numbers rest) e (child_is_below rest parent (suc k) x j n h))))
inner_child parent k (brother b s (suc p) below rest) x j n l o (inr (inr h)) (inr m) =
    inr (inr (inner_child parent (suc k) rest x j n l.1 (apart_right (numbers below) (numbers rest) o.1) h
    (elim (in_either (inners below) (inners rest) n m) [
      | inl i ↦ absurd (never_both (numbers below) (numbers rest) n o.1 (inners_are_numbers below n i) (child_is_below rest parent (suc k) x j n h))
      | inr i ↦ i
    ])))

inner_is_child : (parent k : ℕ) (f : Forest) (x j n : ℕ) → InnerAmong parent k f x j n → ChildAmong parent k f x j n
inner_is_child parent k none x j n h = absurd h
inner_is_child parent k (brother m s zero below rest) x j n h = inr (inr (inner_is_child parent (suc k) rest x j n h))
inner_is_child parent k (brother m s (suc p) below rest) x j n (inl h) = inl h
inner_is_child parent k (brother m s (suc p) below rest) x j n (inr (inl h)) = inr (inl (inner_is_child m 1 below x j n h))
inner_is_child parent k (brother m s (suc p) below rest) x j n (inr (inr h)) = inr (inr (inner_is_child parent (suc k) rest x j n h))

inner_is_listed : (parent k : ℕ) (f : Forest) (x j n : ℕ) → InnerAmong parent k f x j n → n ∈ inners f
inner_is_listed parent k none x j n h = absurd h
inner_is_listed parent k (brother m s zero below rest) x j n h = inner_is_listed parent (suc k) rest x j n h
inner_is_listed parent k (brother m s (suc p) below rest) x j n (inl h) = inl h.2
inner_is_listed parent k (brother m s (suc p) below rest) x j n (inr (inl h)) =
    inr (in_left (inners below) (inners rest) n (inner_is_listed m 1 below x j n h))
inner_is_listed parent k (brother m s (suc p) below rest) x j n (inr (inr h)) =
    inr (in_right (inners below) (inners rest) n (inner_is_listed parent (suc k) rest x j n h))

module _ (d : Direction) where
  -- from the enter of a child to its leave
  abbrev visited : ℕ → ℕ → ℕ → Forest → List Step
  visited parent k n below = enter parent k n ∷ (tour d n 1 below ++ leave n ∷ [])

  in_visit : (parent k n : ℕ) (below : Forest) (s : Step) → s ∈ tour d n 1 below → s ∈ visited parent k n below
  in_visit parent k n below s m = inr (in_left (tour d n 1 below) (leave n ∷ []) s m)

  visit_leaves : (parent k n : ℕ) (below : Forest) → leave n ∈ visited parent k n below
  visit_leaves parent k n below = inr (in_right (tour d n 1 below) (leave n ∷ []) (leave n) (inl refl))

  before_in_visit : (parent k n : ℕ) (below : Forest) (s u : Step) → ComesBefore (tour d n 1 below) s u → ComesBefore (visited parent k n below) s u
  before_in_visit parent k n below s u h = inr (before_left s u (tour d n 1 below) (leave n ∷ []) h)

  tour_enters : (parent k : ℕ) (f : Forest) (x j n : ℕ) → InnerAmong parent k f x j n → enter x j n ∈ tour d parent k f
  tour_enters parent k none x j n h = absurd h
  tour_enters parent k (brother m s zero below rest) x j n h = tour_enters parent (suc k) rest x j n h
  tour_enters parent k (brother m s (suc p) below rest) x j n (inl h) =
      joined_first d (visited parent k m below) (tour d parent (suc k) rest) _ (inl (cc (h.0, h.1, h.2)))
  tour_enters parent k (brother m s (suc p) below rest) x j n (inr (inl h)) =
      joined_first d (visited parent k m below) (tour d parent (suc k) rest) _ (in_visit parent k m below _ (tour_enters m 1 below x j n h))
  tour_enters parent k (brother m s (suc p) below rest) x j n (inr (inr h)) =
      joined_second d (visited parent k m below) (tour d parent (suc k) rest) _ (tour_enters parent (suc k) rest x j n h)

  tour_leaves : (parent k : ℕ) (f : Forest) (n : ℕ) → n ∈ inners f → leave n ∈ tour d parent k f
  tour_leaves parent k none n m = absurd m
  tour_leaves parent k (brother b s zero below rest) n m = tour_leaves parent (suc k) rest n m
  tour_leaves parent k (brother b s (suc p) below rest) n (inl e) =
      joined_first d (visited parent k b below) (tour d parent (suc k) rest) _ (subst (λ w. leave w ∈ visited parent k b below) (sym e) (visit_leaves parent k b below))
  tour_leaves parent k (brother b s (suc p) below rest) n (inr m) =
      elim (in_either (inners below) (inners rest) n m) [
        | inl h ↦ joined_first d (visited parent k b below) (tour d parent (suc k) rest) _ (in_visit parent k b below _ (tour_leaves b 1 below n h))
        | inr h ↦ joined_second d (visited parent k b below) (tour d parent (suc k) rest) _ (tour_leaves parent (suc k) rest n h)
      ]

  -- a step of a tour: the enter of an inner child, or the leave of an inner node
  abbrev OfTour : ℕ → ℕ → Forest → Step → Type 0
  OfTour parent k f s =
      ((x : ℕ) × (j : ℕ) × (n : ℕ) × InnerAmong parent k f x j n × (s ≡ enter x j n)) ⊎ ((n : ℕ) × (n ∈ inners f) × (s ≡ leave n))

  tour_only : (parent k : ℕ) (f : Forest) (s : Step) → s ∈ tour d parent k f → OfTour parent k f s
  tour_only parent k none s m = absurd m
  tour_only parent k (brother b y zero below rest) s m = tour_only parent (suc k) rest s m
  tour_only parent k (brother b y (suc p) below rest) s m =
      elim (joined_either d (visited parent k b below) (tour d parent (suc k) rest) s m) [
        | inl v ↦ elim v [
          | inl e ↦ inl (parent, k, b, inl (refl, refl, refl), e)
          | inr h ↦ elim (in_either (tour d b 1 below) (leave b ∷ []) s h) [
            | inl i ↦ elim (tour_only b 1 below s i) [
              | inl e ↦ inl (e.0, e.1, e.2, inr (inl e.3), e.4)
              | inr e ↦ inr (e.0, inr (in_left (inners below) (inners rest) e.0 e.1), e.2)
            ]
            | inr i ↦ elim i [ inl e ↦ inr (b, inl refl, e) | inr z ↦ absurd z ]
          ]
        ]
        | inr h ↦ elim (tour_only parent (suc k) rest s h) [
          | inl e ↦ inl (e.0, e.1, e.2, inr (inr e.3), e.4)
          | inr e ↦ inr (e.0, inr (in_right (inners below) (inners rest) e.0 e.1), e.2)
        ]
      ]

  enters_before_leaves : (parent k : ℕ) (f : Forest) (x j n : ℕ) → InnerAmong parent k f x j n → ComesBefore (tour d parent k f) (enter x j n) (leave n)
  enters_before_leaves parent k none x j n h = absurd h
  enters_before_leaves parent k (brother b s zero below rest) x j n h = enters_before_leaves parent (suc k) rest x j n h
  enters_before_leaves parent k (brother b s (suc p) below rest) x j n (inl h) =
      before_first d _ _ (visited parent k b below) (tour d parent (suc k) rest)
      (inl (cc (h.0, h.1, h.2), subst (λ w. leave w ∈ (tour d b 1 below ++ leave b ∷ [])) (sym h.2) (in_right (tour d b 1 below) (leave b ∷ []) (leave b) (inl refl))))
  enters_before_leaves parent k (brother b s (suc p) below rest) x j n (inr (inl h)) =
      before_first d _ _ (visited parent k b below) (tour d parent (suc k) rest) (before_in_visit parent k b below _ _ (enters_before_leaves b 1 below x j n h))
  enters_before_leaves parent k (brother b s (suc p) below rest) x j n (inr (inr h)) =
      before_second d _ _ (visited parent k b below) (tour d parent (suc k) rest) (enters_before_leaves parent (suc k) rest x j n h)

  leaves_before_parent : (parent k : ℕ) (f : Forest) (x j n : ℕ) → InnerAmong parent k f x j n
      → (x ≡ parent) ⊎ ComesBefore (tour d parent k f) (leave n) (leave x)
  leaves_before_parent parent k none x j n h = absurd h
  leaves_before_parent parent k (brother b s zero below rest) x j n h = leaves_before_parent parent (suc k) rest x j n h
  leaves_before_parent parent k (brother b s (suc p) below rest) x j n (inl h) = inl h.0
  leaves_before_parent parent k (brother b s (suc p) below rest) x j n (inr (inl h)) =
      inr (before_first d _ _ (visited parent k b below) (tour d parent (suc k) rest)
      (elim (leaves_before_parent b 1 below x j n h) [
        | inl e ↦ inr (subst (λ w. ComesBefore (tour d b 1 below ++ leave b ∷ []) (leave n) (leave w)) (sym e)
            (before_across (leave n) (leave b) (tour d b 1 below) (leave b ∷ []) (tour_leaves b 1 below n (inner_is_listed b 1 below x j n h)) (inl refl)))
        | inr e ↦ before_in_visit parent k b below _ _ e
      ]))
  leaves_before_parent parent k (brother b s (suc p) below rest) x j n (inr (inr h)) =
      elim (leaves_before_parent parent (suc k) rest x j n h)
      [ inl e ↦ inl e | inr e ↦ inr (before_second d _ _ (visited parent k b below) (tour d parent (suc k) rest) e) ]

  -- x is entered at a position of its parent, before its child n is
  abbrev EnteredFirst : ℕ → ℕ → Forest → ℕ → ℕ → ℕ → Type 0
  EnteredFirst parent k f x j n =
      (y : ℕ) × (i : ℕ) × InnerAmong parent k f y i x × ComesBefore (tour d parent k f) (enter y i x) (enter x j n)

  enters_after_parent : (parent k : ℕ) (f : Forest) (x j n : ℕ) → InnerAmong parent k f x j n → (x ≡ parent) ⊎ EnteredFirst parent k f x j n
  enters_after_parent parent k none x j n h = absurd h
  enters_after_parent parent k (brother b s zero below rest) x j n h = enters_after_parent parent (suc k) rest x j n h
  enters_after_parent parent k (brother b s (suc p) below rest) x j n (inl h) = inl h.0
  enters_after_parent parent k (brother b s (suc p) below rest) x j n (inr (inl h)) =
      inr (elim (enters_after_parent b 1 below x j n h) [
        | inl e ↦ (
          parent,
          k,
          inl (refl, refl, e),
          before_first d _ _ (visited parent k b below) (tour d parent (suc k) rest)
              (inl (ap (enter parent k) e, in_left (tour d b 1 below) (leave b ∷ []) _ (tour_enters b 1 below x j n h))),
        )
        | inr e ↦ (
          e.0,
          e.1,
          inr (inl e.2),
          before_first d _ _ (visited parent k b below) (tour d parent (suc k) rest) (before_in_visit parent k b below _ _ e.3),
        )
      ])
  enters_after_parent parent k (brother b s (suc p) below rest) x j n (inr (inr h)) =
      elim (enters_after_parent parent (suc k) rest x j n h) [
        | inl e ↦ inl e
        | inr e ↦ inr (e.0, e.1, inr (inr e.2), before_second d _ _ (visited parent k b below) (tour d parent (suc k) rest) e.3)
      ]

-- the parent of a child is the given one, or stands below
parent_among : (parent k : ℕ) (f : Forest) (x j n : ℕ) → InnerAmong parent k f x j n → x ∈ (parent ∷ numbers f)
parent_among parent k none x j n h = absurd h
parent_among parent k (brother m s zero below rest) x j n h =
    elim (parent_among parent (suc k) rest x j n h) [ inl e ↦ inl e | inr i ↦ inr (inr (in_right (numbers below) (numbers rest) x i)) ]
parent_among parent k (brother m s (suc p) below rest) x j n (inl h) = inl h.0
parent_among parent k (brother m s (suc p) below rest) x j n (inr (inl h)) =
    elim (parent_among m 1 below x j n h) [ inl e ↦ inr (inl e) | inr i ↦ inr (inr (in_left (numbers below) (numbers rest) x i)) ]
parent_among parent k (brother m s (suc p) below rest) x j n (inr (inr h)) =
    elim (parent_among parent (suc k) rest x j n h) [ inl e ↦ inl e | inr i ↦ inr (inr (in_right (numbers below) (numbers rest) x i)) ]

-- no node stands twice, the parent included
abbrev Once : ℕ → Forest → Type 0
Once parent f = Apart (parent ∷ numbers f)

once_below : (parent m s p : ℕ) (below rest : Forest) → Once parent (brother m s p below rest) → Once m below
once_below parent m s p below rest o =
    (λ i. o.1.0 (in_left (numbers below) (numbers rest) m i), apart_left (numbers below) (numbers rest) o.1.1)

once_beside : (parent m s p : ℕ) (below rest : Forest) → Once parent (brother m s p below rest) → Once parent rest
once_beside parent m s p below rest o =
    (λ i. o.0 (inr (in_right (numbers below) (numbers rest) parent i)), apart_right (numbers below) (numbers rest) o.1.1)

-- what has its parent below a brother has it neither beside nor above
parents_differ : (parent k m s p : ℕ) (below rest : Forest) → Once parent (brother m s p below rest)
    → (x j n l o : ℕ) → InnerAmong m 1 below x j n → (x ≡ parent) ⊎ InnerAmong parent (suc k) rest x l o → ⊥
parents_differ parent k m s p below rest once x j n l o h (inl e) =
    elim (parent_among m 1 below x j n h) [
      | inl f ↦ once.0 (inl (sym e ∙ f))
      | inr i ↦ once.0 (inr (in_left (numbers below) (numbers rest) parent (subst (λ w. w ∈ numbers below) e i)))
    ]
parents_differ parent k m s p below rest once x j n l o h (inr u) =
    elim (parent_among parent (suc k) rest x l o u) [
      | inl e ↦ elim (parent_among m 1 below x j n h) [
        | inl f ↦ once.0 (inl (sym e ∙ f))
        | inr i ↦ once.0 (inr (in_left (numbers below) (numbers rest) parent (subst (λ w. w ∈ numbers below) e i)))
      ]
      | inr v ↦ elim (parent_among m 1 below x j n h) [
        | inl f ↦ once.1.0 (in_right (numbers below) (numbers rest) m (subst (λ w. w ∈ numbers rest) f v))
        | inr i ↦ never_both (numbers below) (numbers rest) x once.1.1 i v
      ]
    ]

-- the children of the parent itself stand from the first position on
positions_from : (parent k : ℕ) (f : Forest) → Once parent f → (j n : ℕ) → InnerAmong parent k f parent j n → k ≤ j
positions_from parent k none o j n h = absurd h
positions_from parent k (brother m s zero below rest) o j n h =
    let l = positions_from parent (suc k) rest (once_beside parent m s zero below rest o) j n h in omega arith
positions_from parent k (brother m s (suc p) below rest) o j n (inl h) = omega (arith, h.1)
positions_from parent k (brother m s (suc p) below rest) o j n (inr (inl h)) =
    absurd (parents_differ parent k m s (suc p) below rest o parent j n j n h (inl refl))
positions_from parent k (brother m s (suc p) below rest) o j n (inr (inr h)) =
    let l = positions_from parent (suc k) rest (once_beside parent m s (suc p) below rest o) j n h in omega arith

-- what comes sooner stands first, of a brother and those behind it
sooner_first : (d : Direction) (k l : ℕ) (x y : Step) (xs ys : List Step) → suc k ≤ l → Sooner d k l → x ∈ xs → y ∈ ys → ComesBefore (joined d xs ys) x y
sooner_first Left k l x y xs ys h s m n = before_across x y xs ys m n
sooner_first Right k l x y xs ys h s m n = absurd (omega arith)

sooner_last : (d : Direction) (k l : ℕ) (x y : Step) (xs ys : List Step) → suc k ≤ l → Sooner d l k → x ∈ ys → y ∈ xs → ComesBefore (joined d xs ys) x y
sooner_last Left k l x y xs ys h s m n = absurd (omega arith)
sooner_last Right k l x y xs ys h s m n = before_across x y ys xs m n

never_sooner : (d : Direction) (k : ℕ) → Sooner d k k → ⊥
never_sooner d k s = grind (arith, nat_tests)

brothers_in_turn : (d : Direction) (parent k : ℕ) (f : Forest) → Once parent f → (x j n l o : ℕ) → InnerAmong parent k f x j n → InnerAmong parent k f x l o
    → Sooner d j l → ComesBefore (tour d parent k f) (leave n) (enter x l o)
brothers_in_turn d parent k none once x j n l o h u s = absurd h
brothers_in_turn d parent k (brother b y zero below rest) once x j n l o h u s =
    brothers_in_turn d parent (suc k) rest (once_beside parent b y zero below rest once) x j n l o h u s
brothers_in_turn d parent k (brother b y (suc p) below rest) once x j n l o (inl h) (inl u) s =
    absurd (never_sooner d k (rw (h.1, u.1) at s))
brothers_in_turn d parent k (brother b y (suc p) below rest) once x j n l o (inl h) (inr (inl u)) s =
    absurd (parents_differ parent k b y (suc p) below rest once x l o l o u (inl h.0))
brothers_in_turn d parent k (brother b y (suc p) below rest) once x j n l o (inl h) (inr (inr u)) s =
    let from : suc k ≤ l = positions_from parent (suc k) rest (once_beside parent b y (suc p) below rest once) l o (subst (λ w. InnerAmong parent (suc k) rest w l o) h.0 u) in
    sooner_first d k l _ _ (visited d parent k b below) (tour d parent (suc k) rest) from (rw h.1 at s)
    (subst (λ w. leave w ∈ visited d parent k b below) (sym h.2) (visit_leaves d parent k b below)) (tour_enters d parent (suc k) rest x l o u)
brothers_in_turn d parent k (brother b y (suc p) below rest) once x j n l o (inr (inl h)) (inl u) s =
    absurd (parents_differ parent k b y (suc p) below rest once x j n j n h (inl u.0))
brothers_in_turn d parent k (brother b y (suc p) below rest) once x j n l o (inr (inl h)) (inr (inl u)) s =
    before_first d _ _ (visited d parent k b below) (tour d parent (suc k) rest)
    (before_in_visit d parent k b below _ _ (brothers_in_turn d b 1 below (once_below parent b y (suc p) below rest once) x j n l o h u s))
brothers_in_turn d parent k (brother b y (suc p) below rest) once x j n l o (inr (inl h)) (inr (inr u)) s =
    absurd (parents_differ parent k b y (suc p) below rest once x j n l o h (inr u))
brothers_in_turn d parent k (brother b y (suc p) below rest) once x j n l o (inr (inr h)) (inl u) s =
    let from : suc k ≤ j = positions_from parent (suc k) rest (once_beside parent b y (suc p) below rest once) j n (subst (λ w. InnerAmong parent (suc k) rest w j n) u.0 h) in
    sooner_last d k j _ _ (visited d parent k b below) (tour d parent (suc k) rest) from (rw u.1 at s)
    (tour_leaves d parent (suc k) rest n (inner_is_listed parent (suc k) rest x j n h)) (inl (cc (u.0, u.1, u.2)))
brothers_in_turn d parent k (brother b y (suc p) below rest) once x j n l o (inr (inr h)) (inr (inl u)) s =
    absurd (parents_differ parent k b y (suc p) below rest once x l o j n u (inr h))
brothers_in_turn d parent k (brother b y (suc p) below rest) once x j n l o (inr (inr h)) (inr (inr u)) s =
    before_second d _ _ (visited d parent k b below) (tour d parent (suc k) rest)
    (brothers_in_turn d parent (suc k) rest (once_beside parent b y (suc p) below rest once) x j n l o h u s)

-- the node that a step enters or leaves
abbrev node_of : Step → ℕ
node_of (enter x j n) = n
node_of (leave n) = n

step_node : (d : Direction) (parent k : ℕ) (f : Forest) (s : Step) → s ∈ tour d parent k f → node_of s ∈ numbers f
step_node d parent k f s m =
    elim (tour_only d parent k f s m) [
      | inl e ↦ subst (λ w. node_of w ∈ numbers f) (sym e.4) (inners_are_numbers f e.2 (inner_is_listed parent k f e.0 e.1 e.2 e.3))
      | inr e ↦ subst (λ w. node_of w ∈ numbers f) (sym e.2) (inners_are_numbers f e.0 e.1)
    ]

tour_apart : (d : Direction) (parent k : ℕ) (f : Forest) → Apart (numbers f) → Apart (tour d parent k f)
tour_apart d parent k none o = tt
tour_apart d parent k (brother b y zero below rest) o = tour_apart d parent (suc k) rest (apart_right (numbers below) (numbers rest) o.1)
tour_apart d parent k (brother b y (suc p) below rest) o =
    apart_joined d (visited d parent k b below) (tour d parent (suc k) rest) (
      (λ m. elim (in_either (tour d b 1 below) (leave b ∷ []) _ m)
          [ inl i ↦ not_below _ i refl | inr i ↦ elim i [ inl e ↦ (cc e) | inr z ↦ z ] ]),
      apart_append (tour d b 1 below) (leave b ∷ []) (tour_apart d b 1 below (apart_left (numbers below) (numbers rest) o.1)) (λ m. m, tt)
          (λ s m n. elim n [ inl e ↦ not_below s m (ap node_of e) | inr z ↦ z ]),
    )
    (tour_apart d parent (suc k) rest (apart_right (numbers below) (numbers rest) o.1))
    (λ s m n. beside s (step_node d parent (suc k) rest s n) (visit_node s m))
  where
    not_below : (s : Step) → s ∈ tour d b 1 below → node_of s ≡ b → ⊥
    not_below s m e = o.0 (in_left (numbers below) (numbers rest) b (subst (λ w. w ∈ numbers below) e (step_node d b 1 below s m)))

    visit_node : (s : Step) → s ∈ visited d parent k b below → (node_of s ≡ b) ⊎ (node_of s ∈ numbers below)
    visit_node s (inl e) = inl (ap node_of e)
    visit_node s (inr m) =
        elim (in_either (tour d b 1 below) (leave b ∷ []) s m)
        [ inl i ↦ inr (step_node d b 1 below s i) | inr i ↦ elim i [ inl e ↦ inl (ap node_of e) | inr z ↦ absurd z ] ]

    beside : (s : Step) → node_of s ∈ numbers rest → (node_of s ≡ b) ⊎ (node_of s ∈ numbers below) → ⊥
    beside s m (inl e) = o.0 (in_right (numbers below) (numbers rest) b (subst (λ w. w ∈ numbers rest) e m))
    beside s m (inr i) = never_both (numbers below) (numbers rest) (node_of s) o.1 i m

module _ (g : Grammar) (nodes : List Node) (t : Tree) (stands : Stands g nodes t) (d : Direction) where
  abbrev below_root : List Step
  below_root = tour d 0 1 t.children

  inner : (x j n : ℕ) → Child t x j n → n ∈ inners t.children → InnerAmong 0 1 t.children x j n
  inner x j n h m = inner_child 0 1 t.children x j n (derived_is_leafy g _ t.children stands.derived) stands.once.1 h m

  has_its_steps : HasItsSteps t (walk d t)
  has_its_steps = record {
    enters = λ x j n h m. in_left below_root (leave 0 ∷ []) _ (tour_enters d 0 1 t.children x j n (inner x j n h m));
    leaves = λ n m. elim m [
      | inl e ↦ in_right below_root (leave 0 ∷ []) _ (inl (ap leave e))
      | inr i ↦ in_left below_root (leave 0 ∷ []) _ (tour_leaves d 0 1 t.children n i)
    ];
    only = λ s m. elim (in_either below_root (leave 0 ∷ []) s m) [
      | inl i ↦ elim (tour_only d 0 1 t.children s i) [
        | inl e ↦ inl (e.0, e.1, e.2, inner_is_child 0 1 t.children _ _ _ e.3, inner_is_listed 0 1 t.children _ _ _ e.3, e.4)
        | inr e ↦ inr (e.0, inr e.1, e.2)
      ]
      | inr i ↦ elim i [ inl e ↦ inr (0, inl refl, e) | inr z ↦ absurd z ]
    ];
  }

  in_walk : (s u : Step) → ComesBefore below_root s u → Earlier (walk d t) s u
  in_walk s u h = earlier (walk d t) s u (before_left s u below_root (leave 0 ∷ []) h)

  walk_apart : Apart (walk d t)
  walk_apart =
      apart_append below_root (leave 0 ∷ []) (tour_apart d 0 1 t.children stands.once.1) (λ m. m, tt)
      (λ s m n. elim n [
        | inl e ↦ stands.once.0 (subst (λ w. w ∈ numbers t.children) (ap node_of e) (step_node d 0 1 t.children s m))
        | inr z ↦ z
      ])

  goes_in_turn : InTurn d t (walk d t)
  goes_in_turn = record {
    enters_first = λ x j n h m. in_walk _ _ (enters_before_leaves d 0 1 t.children x j n (inner x j n h m));
    down = λ y i x j n p h m. elim (enters_after_parent d 0 1 t.children x j n (inner x j n h m)) [
      | inl e ↦ absurd (stands.once.0 (subst (λ w. w ∈ numbers t.children) e (child_is_below t.children 0 1 y i x p)))
      | inr e ↦
          let same = parent_is_unique t stands.once e.0 y e.1 i x (inner_is_child 0 1 t.children _ _ _ e.2) p in
          in_walk _ _ (subst (λ (s : Step). ComesBefore below_root s (enter x j n)) (cc (same.0, same.1)) e.3)
    ];
    up = λ x j n h m. elim (leaves_before_parent d 0 1 t.children x j n (inner x j n h m)) [
      | inl e ↦ earlier (walk d t) _ _ (subst (λ w. ComesBefore (walk d t) (leave n) (leave w)) (sym e)
          (before_across (leave n) (leave 0) below_root (leave 0 ∷ []) (tour_leaves d 0 1 t.children n m) (inl refl)))
      | inr e ↦ in_walk _ _ e
    ];
    across = λ x j n k o h u m i s.
        in_walk _ _ (brothers_in_turn d 0 1 t.children stands.once x j n k o (inner x j n h m) (inner x k o u i) s);
    once = λ s u p q. one_way s u (walk d t) walk_apart (comes_before (walk d t) s u p) (comes_before (walk d t) u s q);
  }

pub walk_has_its_steps : WalkHasItsSteps
walk_has_its_steps g nodes t stands d = has_its_steps g nodes t stands d

pub walk_goes_in_turn : WalkGoesInTurn
walk_goes_in_turn g nodes t stands d = goes_in_turn g nodes t stands d
