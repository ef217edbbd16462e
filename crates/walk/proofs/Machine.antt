-- Moves along paths: they perform the walk.
use Rattle.std.proofs.Common.{◌≡◌, ℕ, suc, ◌+◌, ◌≤◌, Bool, true, false, cond, List, [], ◌∷◌, ◌++◌, length, Some, None, Option, sym, refl, ap, ◌∙◌, subst, ap₂, inl, inr, append_assoc, arith}
use Rattle.std.specs.List.{flat_map}
use mathlib.Core.List.{append_cancel_right, nil≢cons, cons≢nil, head-eq_of_cons-eq, tail-eq_of_cons-eq}
use Rattle.std.proofs.lemmas.Bool.Decides.{nat_tests}
use Rattle.plans.specs.declared.Direction.{Direction}
use Rattle.grammar.specs.Members.{◌∈◌}
use Rattle.grammar.specs.Grammar.{Grammar}
use Rattle.trees.specs.declared.node.Node.{Node}
use Rattle.trees.specs.Checking.{children_symbols}
use Rattle.trees.specs.Trees.{Forest, Tree, depth, tree_depth, Stands}
use Rattle.trees.specs.Laws.{Within, InTree}
use Rattle.trees.proofs.Symbols.{nodes_have_their_children}
use Rattle.walk.specs.declared.entry.Entry.{Entry}
use Rattle.walk.specs.Positions.{at_position}
use Rattle.walk.specs.Walks.{Step, enter, leave, tour, walk, InnerChild, inner_children, visit, Sooner, InDirection}
use Rattle.walk.specs.Paths.{to_come, inner_positions, first_to_come, fresh, root_path, next_position, step_to, path_to, path_after, Performs, MovesPerformTheWalk, MovesFollowTheWalk, PathTellsTheMoves, PathIsWithinTheDepth}
use Rattle.walk.proofs.Members.{in_map}
use Rattle.walk.proofs.Children.{positions, position_from, positions_in_direction, inner_child_stands, inner_child_within, depth_within, below_in_tree, child_in_tree, derived_in_tree, positions_by_symbols}
use Rattle.walk.proofs.Tours.{tour_visits_brothers}
use Rattle.walk.proofs.Places.{children_stand_at_their_positions}

to_come_first : (d : Direction) (k : ℕ) → 1 ≤ k → to_come d 0 k ≡ true
to_come_first d k h = grind (arith, nat_tests)

to_come_self : (d : Direction) (k : ℕ) → 1 ≤ k → to_come d k k ≡ false
to_come_self d k h = grind (arith, nat_tests)

to_come_sooner : (d : Direction) (j k : ℕ) → Sooner d j k → to_come d j k ≡ true
to_come_sooner d j k h = grind (arith, nat_tests)

-- what is behind a position that is to come is to come too
to_come_behind : (d : Direction) (last j k : ℕ) → to_come d last j ≡ true → Sooner d j k → to_come d last k ≡ true
to_come_behind d last j k h o = grind (arith, nat_tests)

-- what is not to come any more does not come again later
to_come_no_more : (d : Direction) (last j k : ℕ) → 1 ≤ j → to_come d last j ≡ true → to_come d last k ≡ false → to_come d j k ≡ false
to_come_no_more d last j k h p q = grind (arith, nat_tests)

-- the children that are still to be visited
abbrev remaining : Direction → ℕ → List InnerChild → List InnerChild
remaining d last [] = []
remaining d last (c ∷ cs) = cond (to_come d last c.position) (c ∷ remaining d last cs) (remaining d last cs)

remaining_all : (d : Direction) (last : ℕ) (cs : List InnerChild) → ((k : ℕ) → k ∈ positions cs → to_come d last k ≡ true) → remaining d last cs ≡ cs
remaining_all d last [] h = refl
remaining_all d last (c ∷ cs) h = rw (h c.position (inl refl)) (ap (λ l. c ∷ l) (remaining_all d last cs (λ k m. h k (inr m))))

abbrev first_position : List InnerChild → Option ℕ
first_position [] = None
first_position (c ∷ cs) = Some c.position

first_remaining : (d : Direction) (last : ℕ) (cs : List InnerChild) → first_to_come d last (positions cs) ≡ first_position (remaining d last cs)
first_remaining d last [] = refl
first_remaining d last (c ∷ cs) = by_test (first_remaining d last cs) (to_come d last c.position)
  where
    by_test : first_to_come d last (positions cs) ≡ first_position (remaining d last cs) → (b : Bool)
        → cond b (Some c.position) (first_to_come d last (positions cs)) ≡ first_position (cond b (c ∷ remaining d last cs) (remaining d last cs))
    by_test rest true = refl
    by_test rest false = rest

-- once the first of the remaining ones is entered, the others remain
record Next (d : Direction) (last : ℕ) (cs : List InnerChild) (c : InnerChild) (others : List InnerChild) : Type 0 where
  member : c ∈ cs
  comes : to_come d last c.position ≡ true
  remain : remaining d c.position cs ≡ others

remaining_next : (d : Direction) (last : ℕ) (cs : List InnerChild) (c : InnerChild) (others : List InnerChild) → InDirection d (positions cs)
    → ((k : ℕ) → k ∈ positions cs → 1 ≤ k) → remaining d last cs ≡ c ∷ others → Next d last cs c others
remaining_next d last [] c others o from q = absurd (nil≢cons q)
remaining_next d last (x ∷ xs) c others o from q =
    by_test (remaining_next d last xs c others o.1 (λ k m. from k (inr m))) (to_come d last x.position) refl q
  where
    by_test : (remaining d last xs ≡ c ∷ others → Next d last xs c others) → (b : Bool) → to_come d last x.position ≡ b
        → cond b (x ∷ remaining d last xs) (remaining d last xs) ≡ c ∷ others → Next d last (x ∷ xs) c others
    by_test rest true e p =
        let all : remaining d x.position xs ≡ others
        = remaining_all d x.position xs (λ k m. to_come_sooner d x.position k (o.0 k m))
        ∙ sym (remaining_all d last xs (λ k m. to_come_behind d last x.position k e (o.0 k m)))
        ∙ tail-eq_of_cons-eq p in
        subst (λ y. Next d last (x ∷ xs) y others) (head-eq_of_cons-eq p)
        (record { member = inl refl; comes = e; remain = rw (to_come_self d x.position (from x.position (inl refl))) all })
    by_test rest false e p =
        let h = rest p in
        let one = from c.position (inr (in_map (λ y. y.position) xs c h.member)) in
        record { member = inr h.member; comes = h.comes; remain = rw (to_come_no_more d last c.position x.position one h.comes e) h.remain }

-- an entry stands at a node of the tree, and the entries outside it leave room for the levels below it
record Standing (t : Tree) (e : Entry) (outside : ℕ) : Type 0 where
  symbol : ℕ
  production : ℕ
  children : Forest
  placed : InTree t e.node symbol production children
  room : outside + 1 + depth children ≤ tree_depth t

-- when a node is entered, all that is below it is to be visited
remaining_fresh : (d : Direction) (n : ℕ) (cs : Forest) → flat_map (visit d n) (remaining d 0 (inner_children d 1 cs)) ≡ tour d n 1 cs
remaining_fresh d n cs =
    ap (flat_map (visit d n)) (remaining_all d 0 (inner_children d 1 cs) (λ k m. to_come_first d k (position_from d 1 cs k m)))
    ∙ sym (tour_visits_brothers d n 1 cs)

-- moves from one path to the empty one perform the same steps
performs_the_same : (g : Grammar) (nodes : List Node) (d : Direction) (path : List Entry) (steps others : List Step)
    → Performs g nodes d path steps [] → Performs g nodes d path others [] → steps ≡ others
performs_the_same g nodes d path [] [] h k = refl
performs_the_same g nodes d [] [] (o ∷ others) h k = absurd k
performs_the_same g nodes d (e ∷ path) [] (o ∷ others) h k = absurd (nil≢cons h)
performs_the_same g nodes d [] (s ∷ steps) others h k = absurd h
performs_the_same g nodes d (e ∷ path) (s ∷ steps) [] h k = absurd (nil≢cons k)
performs_the_same g nodes d (e ∷ path) (s ∷ steps) (o ∷ others) h k =
    ap₂ (λ x y. x ∷ y) (sym h.0 ∙ k.0) (performs_the_same g nodes d (path_after g nodes d e path) steps others h.1 k.1)

module _ (g : Grammar) (nodes : List Node) (t : Tree) (st : Stands g nodes t) (d : Direction) where
  -- the steps that are still to be done from a path on: at each entry the visits of the remaining children, and the leave
  abbrev Pending : List Entry → List Step → Type 0
  Pending [] steps = steps ≡ []
  Pending (e ∷ path) steps =
      (at : Standing t e (length path)) × (rest : List Step)
      × (steps ≡ flat_map (visit d e.node) (remaining d e.last (inner_children d 1 at.children)) ++ leave e.node ∷ rest)
      × Pending path rest

  pending_root : Pending root_path (walk d t)
  pending_root = (
    record { symbol = t.symbol; production = t.production; children = t.children; placed = inl (refl, refl, refl, refl); room = omega arith },
    [],
    ap (λ l. l ++ leave 0 ∷ []) (sym (remaining_fresh d 0 t.children)),
    refl,
  )

  next_remaining : (e : Entry) (outside : ℕ) (at : Standing t e outside)
      → next_position g nodes d e ≡ first_position (remaining d e.last (inner_children d 1 at.children))
  next_remaining e outside at =
      let has = nodes_have_their_children g nodes t st e.node at.symbol at.production at.children at.placed in
      let der = derived_in_tree g nodes t st e.node at.symbol at.production at.children at.placed in
      ap (λ p. first_to_come d e.last (inner_positions g.vocabulary d 1 (children_symbols g p))) has.1
      ∙ ap (first_to_come d e.last) (positions_by_symbols g d 1 (children_symbols g at.production) at.children der)
      ∙ first_remaining d e.last (inner_children d 1 at.children)

  -- a move that goes to the next position does the first of the pending steps
  abbrev Moved : Entry → List Entry → List Step → Option ℕ → Type 0
  Moved e path steps next = (rest : List Step) × (steps ≡ step_to g nodes d e next ∷ rest) × Pending (path_to g nodes d e path next) rest

  move_enters : (e : Entry) (path : List Entry) (steps : List Step) (p : Pending (e ∷ path) steps) (c : InnerChild) (others : List InnerChild)
      → remaining d e.last (inner_children d 1 p.0.children) ≡ c ∷ others → Moved e path steps (Some c.position)
  move_enters e path steps p c others q = subst Enters (sym stands) enters
    where
      at : Standing t e (length path)
      at = p.0

      cs : List InnerChild
      cs = inner_children d 1 at.children

      next : Next d e.last cs c others
      next = remaining_next d e.last cs c others (positions_in_direction d 1 at.children) (λ k m. position_from d 1 at.children k m) q

      stands : at_position nodes e.node c.position ≡ c.node
      stands =
          children_stand_at_their_positions g nodes t st e.node c.position c.node
          (child_in_tree t e.node at.symbol at.production at.children at.placed e.node c.position c.node
          (inner_child_stands d e.node 1 at.children c next.member))

      within : (s : ℕ) × (r : ℕ) × Within at.children c.node s r c.below
      within = inner_child_within d 1 at.children c next.member

      after : List Step
      after = flat_map (visit d e.node) (remaining d c.position cs) ++ leave e.node ∷ p.1

      Enters : ℕ → Type 0
      Enters m = (rest : List Step) × (steps ≡ enter e.node c.position m ∷ rest) × Pending (fresh m ∷ record { node = e.node; last = c.position } ∷ path) rest

      child_standing : Standing t (fresh c.node) (suc (length path))
      child_standing = record {
        symbol = within.0;
        production = within.1;
        children = c.below;
        placed = below_in_tree t e.node at.symbol at.production at.children at.placed c.node within.0 within.1 c.below within.2;
        room = omega (arith, at.room, depth_within at.children c.node within.0 within.1 c.below within.2);
      }

      parent_standing : Standing t (record { node = e.node; last = c.position }) (length path)
      parent_standing = record { symbol = at.symbol; production = at.production; children = at.children; placed = at.placed; room = at.room }

      enters : Enters c.node
      enters = (
        tour d c.node 1 c.below ++ leave c.node ∷ after,
        p.2 ∙ ap (λ r. flat_map (visit d e.node) r ++ leave e.node ∷ p.1) (q ∙ ap (λ r. c ∷ r) (sym next.remain)) ∙ simp append_assoc,
        (
          child_standing,
          after,
          ap (λ l. l ++ leave c.node ∷ after) (sym (remaining_fresh d c.node c.below)),
          (parent_standing, p.1, refl, p.3),
        ),
      )

  move_pending : (e : Entry) (path : List Entry) (steps : List Step) → Pending (e ∷ path) steps → Moved e path steps (next_position g nodes d e)
  move_pending e path steps p = subst (Moved e path steps) (sym (next_remaining e (length path) p.0)) (by_remaining (remaining d e.last (inner_children d 1 p.0.children)) refl)
    where
      by_remaining : (r : List InnerChild) → remaining d e.last (inner_children d 1 p.0.children) ≡ r → Moved e path steps (first_position r)
      by_remaining [] q = (p.1, p.2 ∙ ap (λ r. flat_map (visit d e.node) r ++ leave e.node ∷ p.1) q, p.3)
      by_remaining (c ∷ others) q = move_enters e path steps p c others q

  performs_pending : (steps : List Step) (path : List Entry) → Pending path steps → Performs g nodes d path steps []
  performs_pending [] [] p = refl
  performs_pending [] (e ∷ path) p = absurd (nil≢cons (move_pending e path [] p).1)
  performs_pending (s ∷ steps) [] p = cons≢nil p
  performs_pending (s ∷ steps) (e ∷ path) p =
      let m = move_pending e path (s ∷ steps) p in (
        sym (head-eq_of_cons-eq m.1),
        performs_pending steps (path_after g nodes d e path) (subst (Pending (path_after g nodes d e path)) (sym (tail-eq_of_cons-eq m.1)) m.2),
      )

  -- moves do the first of the pending steps, and the rest of them is pending then
  pending_after : (done : List Step) (path end : List Entry) (steps : List Step) → Pending path steps → Performs g nodes d path done end
      → (rest : List Step) × (steps ≡ done ++ rest) × Pending end rest
  pending_after [] path end steps p h = (steps, refl, subst (λ x. Pending x steps) (sym h) p)
  pending_after (s ∷ done) [] end steps p h = absurd h
  pending_after (s ∷ done) (e ∷ path) end steps p h =
      let m = move_pending e path steps p in
      let r = pending_after done (path_after g nodes d e path) end m.0 m.2 h.1 in
      (r.0, m.1 ∙ ap₂ (λ x y. x ∷ y) h.0 r.1, r.2)

  pending_within : (path : List Entry) (steps : List Step) → Pending path steps → length path ≤ tree_depth t
  pending_within [] steps p = omega arith
  pending_within (e ∷ path) steps p = omega (arith, p.0.room)

pub moves_perform_the_walk : MovesPerformTheWalk
moves_perform_the_walk g nodes t st d = performs_pending g nodes t st d (walk d t) root_path (pending_root g nodes t st d)

pub moves_follow_the_walk : MovesFollowTheWalk
moves_follow_the_walk g nodes t st d steps path h =
    let r = pending_after g nodes t st d steps root_path path (walk d t) (pending_root g nodes t st d) h in
    (r.0, r.1, performs_pending g nodes t st d r.0 path r.2)

pub path_tells_the_moves : PathTellsTheMoves
path_tells_the_moves g nodes t st d steps others path h k =
    let a = moves_follow_the_walk g nodes t st d steps path h in
    let b = moves_follow_the_walk g nodes t st d others path k in
    let same = performs_the_same g nodes d path a.0 b.0 a.2 b.2 in
    append_cancel_right steps others a.0 (sym a.1 ∙ b.1 ∙ ap (λ r. others ++ r) (sym same))

pub path_is_within_the_depth : PathIsWithinTheDepth
path_is_within_the_depth g nodes t st d steps path h =
    let r = pending_after g nodes t st d steps root_path path (walk d t) (pending_root g nodes t st d) h in
    pending_within g nodes t st d path r.0 r.2
