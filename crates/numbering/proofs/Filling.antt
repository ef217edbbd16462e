-- What loops over places fill: a set by a test, and numbers.
use Rattle.std.proofs.Common.{◌≡◌, ℕ, ◌+◌, ◌-◌, ◌*◌, ◌<◌, Bool, true, false, cond, not, ◌&&◌, ◌||◌, eqb, ltb, ◌≢◌, ◌⊎◌, List, ◌++◌, length, get_or, set, sym, refl, ap, ◌∙◌, inl, inr, ⊎_elim, arith, length-append, get_or-set_other, get_or-set_same}
use mathlib.Core.Bool.{and-true, or-false}
use Rattle.std.proofs.lemmas.Bool.{lt-ltb, le-ltb, eq-eqb, ne_eqb, and_parts, and_from, and_right, cond-true, cases_order, cases_eq}
use Rattle.std.proofs.lemmas.List.{get_or_append_left, get_or-append_right}
use Rattle.bitset.specs.Sets.{has, Lowest}
use Rattle.bitset.proofs.Digits.{has_none, place_within}
use Rattle.numbering.specs.Places.{holds}

-- the test at place n passes
pub filled : (test : ℕ → Bool) (n p : ℕ) → n < 64 → test n ≡ true → ((ltb p n && test p) || (ltb p 64 && eqb p n)) ≡ (ltb p (n + 1) && test p)
filled test n p small h = ap (λ b. (ltb p n && test p) || b) (place_within n p small) ∙ go (cases_order p n)
  where
    go : (p ≡ n) ⊎ ((p < n) ⊎ (n < p)) → ((ltb p n && test p) || eqb p n) ≡ (ltb p (n + 1) && test p)
    go (inl e) = rw (le-ltb p n (omega arith), eq-eqb p n e, lt-ltb p (n + 1) (omega arith), e, h) refl
    go (inr (inl l)) = rw (lt-ltb p n l, ne_eqb p n (omega arith), lt-ltb p (n + 1) (omega arith), or-false (test p)) refl
    go (inr (inr l)) = rw (le-ltb p n (omega arith), ne_eqb p n (omega arith), le-ltb p (n + 1) (omega arith)) refl

-- it does not
pub passed : (test : ℕ → Bool) (n p : ℕ) → test n ≡ false → (ltb p n && test p) ≡ (ltb p (n + 1) && test p)
passed test n p h = go (cases_order p n)
  where
    go : (p ≡ n) ⊎ ((p < n) ⊎ (n < p)) → (ltb p n && test p) ≡ (ltb p (n + 1) && test p)
    go (inl e) = rw (le-ltb p n (omega arith), lt-ltb p (n + 1) (omega arith), e, h) refl
    go (inr (inl l)) = rw (lt-ltb p n l, lt-ltb p (n + 1) (omega arith)) refl
    go (inr (inr l)) = rw (le-ltb p n (omega arith), le-ltb p (n + 1) (omega arith)) refl

-- one more column
pub column_more : (test : ℕ → ℕ → Bool) (sets : List ℕ) (n x : ℕ) → length sets ≡ 64 → n < 64
    → ((p : ℕ) → has x p ≡ (ltb p 64 && test p n))
    → ((p q : ℕ) → p < 64 → q < n → holds sets p q ≡ test p q)
    → (p q : ℕ) → p < 64 → q < n + 1 → holds (set sets n x) p q ≡ test p q
unfolding holds
column_more test sets n x len h new old p q hp hq = ⊎_elim
    (λ (e : q ≡ n). ap (λ m. has (get_or (set sets n x) m 0) p) e ∙ ap (λ y. has y p) (get_or-set_same sets n x 0 (omega arith)) ∙ new p ∙ ap (λ t. t && test p n) (lt-ltb p 64 hp) ∙ ap (test p) (sym e))
    (λ (ne : q ≢ n). ap (λ y. has y p) (get_or-set_other sets n q x 0 ne) ∙ old p q hp (omega arith))
    (cases_eq q n)

-- the next row of the board, and what is left behind it
module _ (board rest row rest' : List ℕ) (seen : ℕ) (split : rest ≡ row ++ rest') (long : length row ≡ 64)
    (at : (k : ℕ) → get_or rest k 0 ≡ get_or board (64 * seen + k) 0) where
  pub row_at : (k : ℕ) → k < 64 → get_or row k 0 ≡ get_or board (64 * seen + k) 0
  row_at k h = sym (ap (λ xs. get_or xs k 0) split ∙ get_or_append_left row rest' 0 k (omega arith)) ∙ at k

  pub rest_at : (k : ℕ) → get_or rest' k 0 ≡ get_or board (64 * (seen + 1) + k) 0
  rest_at k =
      let back : 64 + k - 64 ≡ k = omega arith in
      let here : 64 * seen + (64 + k) ≡ 64 * (seen + 1) + k = omega arith in
      sym (ap (λ xs. get_or xs (64 + k) 0) split ∙ get_or-append_right row rest' 64 (64 + k) 0 long (omega arith) ∙ ap (λ n. get_or rest' n 0) back)
      ∙ at (64 + k) ∙ ap (λ n. get_or board n 0) here

  pub rest_left : length rest ≡ 64 + length rest'
  rest_left = ap length split ∙ length-append row rest' ∙ ap (λ n. n + length rest') long

-- a place that has come has the number of the pass
module _ (chosen left left' t pass : ℕ) (numbers before : List ℕ) (long : length numbers ≡ 64) (come : Lowest left 64 t)
    (others : (p : ℕ) → has left' p ≡ (has left p && not (eqb p t))) (ahead : (p : ℕ) → has left p ≡ true → has chosen p ≡ true)
    (given : (p : ℕ) → get_or numbers p 0 ≡ cond (has chosen p && not (has left p)) pass (get_or before p 0)) where
  pub one_given : (p : ℕ) → get_or (set numbers t pass) p 0 ≡ cond (has chosen p && not (has left' p)) pass (get_or before p 0)
  one_given p = ⊎_elim
      (λ (e : p ≡ t).
      let mine : has left' p ≡ false = others p ∙ and_right (has left p) (not (eqb p t)) (ap not (eq-eqb p t e)) in
      let come' : has chosen p ≡ true = ap (λ q. has chosen q) e ∙ ahead t come.there in
      ap (λ q. get_or (set numbers t pass) q 0) e ∙ get_or-set_same numbers t pass 0 (omega (arith, come.within))
      ∙ sym (cond-true (has chosen p && not (has left' p)) pass (get_or before p 0) (and_from (has chosen p) (not (has left' p)) come' (ap not mine))))
      (λ (ne : p ≢ t).
      let theirs : has left' p ≡ has left p = others p ∙ ap (λ b. has left p && not b) (ne_eqb p t ne) ∙ and-true (has left p) in
      get_or-set_other numbers t p pass 0 ne ∙ given p ∙ ap (λ b. cond (has chosen p && not b) pass (get_or before p 0)) (sym theirs))
      (cases_eq p t)

  pub ahead_still : (p : ℕ) → has left' p ≡ true → has chosen p ≡ true
  ahead_still p h = ahead p (and_parts (has left p) (not (eqb p t)) (sym (others p) ∙ h)).0

-- no place is left
pub all_given : (chosen pass : ℕ) (numbers before : List ℕ)
    → ((p : ℕ) → get_or numbers p 0 ≡ cond (has chosen p && not (has 0 p)) pass (get_or before p 0)) → (p : ℕ) → get_or numbers p 0 ≡ cond (has chosen p) pass (get_or before p 0)
all_given chosen pass numbers before given p =
    given p ∙ ap (λ b. cond (has chosen p && not b) pass (get_or before p 0)) (has_none p) ∙ ap (λ b. cond b pass (get_or before p 0)) (and-true (has chosen p))
