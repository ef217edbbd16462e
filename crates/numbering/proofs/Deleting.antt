-- Deletion gives the least numbering.
use Rattle.std.proofs.Common.{◌≡◌, ℕ, zero, suc, ◌<◌, ◌≤◌, Bool, true, false, cond, not, ◌&&◌, ◌||◌, eqb, ◌⊎◌, List, [], ◌∷◌, length, sym, refl, ap, ◌∙◌, ap₂, inl, inr, ⊎_elim, arith}
use Rattle.std.proofs.lemmas.Bool.{both_ways, cases_Bool, cases_lt, and_parts, and_from, or_parts, or_cases, or_left, or_right, eqb-true, eq-eqb, not-true, not-false, cond-true, cond-false}
use Rattle.plans.specs.declared.Direction.{Direction}
use Rattle.grammar.specs.Numberings.{direction}
use Rattle.numbering.specs.Graph.{Graph}
use Rattle.numbering.specs.Settled.{Stable, Settled}
use Rattle.numbering.specs.Deletion.{member, keep, none, blocks, delete, remaining, number, after, numbering}
use Rattle.numbering.specs.Theorems.{DeletionIsLeast}
use Rattle.numbering.proofs.Stages.{Stage, next, finished}

-- lists as sets
pub member_keep : (test : ℕ → Bool) (a : ℕ) (xs : List ℕ) → member a (keep test xs) ≡ (member a xs && test a)
unfolding member keep
member_keep test a [] = refl
member_keep test a (x ∷ xs) = go (test x) (eqb a x) refl refl (member_keep test a xs)
  where
    go : (t e : Bool) → test x ≡ t → eqb a x ≡ e → member a (keep test xs) ≡ (member a xs && test a)
        → member a (cond t (x ∷ keep test xs) (keep test xs)) ≡ ((e || member a xs) && test a)
    go true true ht he h = ap (λ b. b || member a (keep test xs)) he ∙ sym (ap test (eqb-true a x he) ∙ ht)
    go true false ht he h = ap (λ b. b || member a (keep test xs)) he ∙ h
    go false true ht he h =
        let no : test a ≡ false = ap test (eqb-true a x he) ∙ ht in
        h ∙ ap (λ b. member a xs && b) no ∙ and_no (member a xs) ∙ sym no
      where
        and_no : (b : Bool) → (b && false) ≡ false
        and_no true = refl
        and_no false = refl
    go false false ht he h = h

none_at : (test : ℕ → Bool) (xs : List ℕ) → none test xs ≡ true → (a : ℕ) → member a xs ≡ true → test a ≡ false
unfolding member none
none_at test [] h a m = absurd (both_ways false refl m)
none_at test (x ∷ xs) h a m =
    let p = and_parts (not (test x)) (none test xs) h in
    let rest = none_at test xs p.1 a in
    ⊎_elim
    (λ (e : eqb a x ≡ true). ap test (eqb-true a x e) ∙ not-true (test x) p.0)
    (λ (e : member a xs ≡ true). rest e)
    (or_cases (eqb a x) (member a xs) m)

none_from : (test : ℕ → Bool) (xs : List ℕ) → ((a : ℕ) → member a xs ≡ true → test a ≡ false) → none test xs ≡ true
unfolding member none
none_from test [] h = refl
none_from test (x ∷ xs) h = and_from (not (test x)) (none test xs)
    (ap not (h x (or_left (eqb x x) (member x xs) (eq-eqb x x refl))))
    (none_from test xs (λ a m. h a (or_right (eqb a x) (member a xs) m)))

-- what is kept is no more, and the same where it is as long
keep_length : (test : ℕ → Bool) (xs : List ℕ) → length (keep test xs) ≤ length xs
unfolding keep
keep_length test [] = omega arith
keep_length test (x ∷ xs) = go (test x) (keep_length test xs)
  where
    go : (t : Bool) → length (keep test xs) ≤ length xs → length (cond t (x ∷ keep test xs) (keep test xs)) ≤ suc (length xs)
    go true h = omega arith
    go false h = omega arith

keep_same : (test : ℕ → Bool) (xs : List ℕ) → length (keep test xs) ≡ length xs → keep test xs ≡ xs
unfolding keep
keep_same test [] h = refl
keep_same test (x ∷ xs) h = go (test x) (keep_length test xs) (keep_same test xs) h
  where
    go : (t : Bool) → length (keep test xs) ≤ length xs → (length (keep test xs) ≡ length xs → keep test xs ≡ xs)
        → length (cond t (x ∷ keep test xs) (keep test xs)) ≡ suc (length xs) → cond t (x ∷ keep test xs) (keep test xs) ≡ (x ∷ xs)
    go true le same e = ap (λ l. x ∷ l) (same (omega arith))
    go false le same e = absurd (omega arith)

-- the rounds of a pass
module _ (g : Graph) (d : Direction) (waiting : List ℕ) where
  round : List ℕ → List ℕ
  round left = keep (λ b. none (blocks g d left b) waiting) left

  steady : (rounds : ℕ) (left : List ℕ) → round left ≡ left → delete g d waiting rounds left ≡ left
  unfolding delete round
  steady zero left e = refl
  steady (suc r) left e = ap (delete g d waiting r) e ∙ steady r left e

  ends : (rounds : ℕ) (left : List ℕ) → length left ≤ rounds → round (delete g d waiting rounds left) ≡ delete g d waiting rounds left
  unfolding delete round keep
  ends zero [] h = refl
  ends zero (x ∷ xs) h = absurd (omega arith)
  ends (suc r) left h = go (cases_lt (length (round left)) (length left)) (ends r (round left))
    where
      go : (length (round left) < length left) ⊎ (length left ≤ length (round left))
          → (length (round left) ≤ r → round (delete g d waiting r (round left)) ≡ delete g d waiting r (round left))
          → round (delete g d waiting r (round left)) ≡ delete g d waiting r (round left)
      go (inl l) rest = rest (omega arith)
      go (inr l) rest =
          let test = λ (b : ℕ). none (blocks g d left b) waiting in
          let same : round left ≡ left = keep_same test left (omega (arith, keep_length test left)) in
          let still : delete g d waiting r (round left) ≡ left = ap (delete g d waiting r) same ∙ steady r left same in
          ap round still ∙ same ∙ sym still

  -- the waiting attributes, as a test
  abbrev waits : ℕ → Bool
  waits a = member a waiting

  -- no round deletes from a stable set
  round_keeps : (left : List ℕ) (t : ℕ → Bool) → Stable g.precedes (g.barred d) waits t → ((b : ℕ) → t b ≡ true → member b left ≡ true) → (b : ℕ) → t b ≡ true → member b (round left) ≡ true
  unfolding round
  round_keeps left t stable sub b h =
      member_keep (λ b. none (blocks g d left b) waiting) b left
      ∙ and_from (member b left) (none (blocks g d left b) waiting) (sub b h) (none_from (blocks g d left b) waiting
      (λ a wa. free a wa (cases_Bool (g.precedes a b))))
    where
      free : (a : ℕ) → member a waiting ≡ true → (g.precedes a b ≡ true) ⊎ (g.precedes a b ≡ false) → blocks g d left b a ≡ false
      free a wa (inl pre) =
          ap₂ ◌&&◌ pre (ap₂ (λ x y. not x || y) (sub a (stable.closed a b pre h wa)) (stable.unbarred a b pre h wa))
      free a wa (inr no-arc) = ap (λ x. x && (not (member a left) || g.barred d a b)) no-arc

  delete_keeps : (rounds : ℕ) (left : List ℕ) (t : ℕ → Bool) → Stable g.precedes (g.barred d) waits t → ((b : ℕ) → t b ≡ true → member b left ≡ true)
      → (b : ℕ) → t b ≡ true → member b (delete g d waiting rounds left) ≡ true
  unfolding delete round
  delete_keeps zero left t stable sub = sub
  delete_keeps (suc r) left t stable sub = delete_keeps r (round left) t stable (round_keeps left t stable sub)

  delete_within : (rounds : ℕ) (left : List ℕ) (b : ℕ) → member b (delete g d waiting rounds left) ≡ true → member b left ≡ true
  unfolding delete round
  delete_within zero left b h = h
  delete_within (suc r) left b h =
      let test = λ (b : ℕ). none (blocks g d left b) waiting in
      (and_parts (member b left) (test b) (sym (member_keep test b left) ∙ delete_within r (round left) b h)).0

  -- nothing blocks what remains
  free_at : (left : List ℕ) → round left ≡ left → (a b : ℕ) → g.precedes a b ≡ true → member b left ≡ true → member a waiting ≡ true
      → (not (member a left) || g.barred d a b) ≡ false
  unfolding round
  free_at left e a b pre mb wa =
      let test = λ (b : ℕ). none (blocks g d left b) waiting in
      let stays = (and_parts (member b left) (test b) (sym (member_keep test b left) ∙ ap (member b) e ∙ mb)).1 in
      ap (λ x. x && (not (member a left) || g.barred d a b)) (sym pre) ∙ none_at (blocks g d left b) waiting stays a wa

  remaining_settled : Settled g.precedes (g.barred d) waits (λ a. member a (remaining g d waiting))
  unfolding remaining
  remaining_settled =
      let left = delete g d waiting (length waiting) waiting in
      let fixed = ends (length waiting) waiting (omega arith) in
      record {
        stable = record {
          within = delete_within (length waiting) waiting;
          closed = λ a b pre mb wa. not-false (member a left) (or_parts (not (member a left)) (g.barred d a b) (free_at left fixed a b pre mb wa)).0;
          unbarred = λ a b pre mb wa. (or_parts (not (member a left)) (g.barred d a b) (free_at left fixed a b pre mb wa)).1;
        };
        greatest = λ t stable b h. delete_keeps (length waiting) waiting t stable stable.within b h;
      }

-- pass by pass
after_stage : (g : Graph) (ds : List Direction) (attributes : List ℕ) → ((a : ℕ) → member a attributes ≡ g.wants a)
    → (m : ℕ) → m ≤ length ds → Stage g ds m (after g ds attributes m).numbers (λ a. member a (after g ds attributes m).waiting)
unfolding after number
after_stage g ds attributes all zero h = record {
  wanted = λ a m. sym (all a) ∙ m;
  waits = λ a m. omega arith;
  from_one = λ a m. omega arith;
  so_far = λ a w e. absurd (both_ways (member a attributes) e (all a ∙ w));
  before = λ a b arc e. absurd (both_ways (member b attributes) e (all b ∙ arc.target));
  rises = λ a b arc e. absurd (both_ways (member b attributes) e (all b ∙ arc.target));
  clear = λ a b arc e. absurd (both_ways (member b attributes) e (all b ∙ arc.target));
  reached = λ w valid b k l. absurd (omega (arith, valid.starts b k));
  least = λ w valid b k l. absurd (omega (arith, valid.starts b k));
}
after_stage g ds attributes all (suc m) h =
    let s = after g ds attributes m in
    let chosen = remaining g (direction ds (suc m)) s.waiting in
    next g ds m s.numbers (λ a. member a s.waiting) (after_stage g ds attributes all m (omega arith)) (λ a. member a chosen)
    (remaining_settled g (direction ds (suc m)) s.waiting) (omega arith) _ _
    (λ a e. cond-true (member a chosen) (suc m) (s.numbers a) e)
    (λ a e. cond-false (member a chosen) (suc m) (s.numbers a) e)
    (λ a. member_keep (λ b. not (member b chosen)) a s.waiting)

pub deletion_is_least : DeletionIsLeast
unfolding numbering
deletion_is_least g ds attributes all =
    finished g ds (length ds) (after g ds attributes (length ds)).numbers (λ a. member a (after g ds attributes (length ds)).waiting) (after_stage g ds attributes all (length ds) (omega arith)) (λ b h. omega arith)
