-- While a row is checked, every marked node stands at an earlier place, and a refusal names a fault.
use Rattle.std.proofs.Common.{◌≡◌, ℕ, zero, suc, ◌+◌, ◌<◌, ◌≤◌, Bool, true, false, ◌&&◌, ◌||◌, eqb, leb, ◌⊎◌, List, [], ◌∷◌, ◌++◌, length, get_or, set, sym, refl, ap, ◌∙◌, subst, inl, inr, arith}
use Rattle.std.proofs.lemmas.List.{get_or-set_other, get_or_at, append_assoc, append-nil, length-append, length_push}
use Rattle.std.proofs.lemmas.Bool.{cases_eq, cond_both, eqb-true, eqb-false, leb-true, leb-false, and_parts, and_from, eq-eqb, or_cases, or_parts, both_ways}
use Rattle.grammar.specs.Grammar.{Grammar}
use Rattle.trees.specs.declared.node.Node.{Node}
use Rattle.trees.specs.Checking.{node, fits, children, subtree}
use Rattle.trees.specs.Faults.{link, holder, Chained, Fitting, wanted, Reached, Before, Earlier, WrongNode, WrongLink, Fault}
use Rattle.trees.proofs.Paths.{before_further, before_below, before_younger, leads_more}
use Rattle.trees.proofs.Comes.{Comes, comes_then}

module _ (g : Grammar) (nodes : List Node) where
  -- every marked node is reached at a place before this one
  abbrev pub Marks : List ℕ → List Bool → Type 0
  Marks place s = (m : ℕ) → get_or s m false ≡ true → Earlier g nodes m place

  -- what is marked when the children of a node are done
  abbrev pub Done : List ℕ → List Bool → Type 0
  Done path s = (k : ℕ) × Marks (path ++ k ∷ []) s

  abbrev pub Sound : ℕ → Type 0
  Sound room = (n x : ℕ) (path : List ℕ) (s : List Bool) → length path + room ≡ 64 → Reached g nodes path n x → Marks (path ++ 0 ∷ []) s
      → Comes (Fault g nodes) (Done path) (subtree g nodes room n x s)

  -- one more node is marked, at its place
  pub marks_more : (path : List ℕ) (n x : ℕ) (s : List Bool) → Reached g nodes path n x → Marks path s → Marks (path ++ 0 ∷ []) (set s n true)
  marks_more path n x s r marks m h = elim (cases_eq m n) [
    | inl same ↦ record { other = path; symbol = x; reached = rw same r; before = before_below path 0 }
    | inr other ↦
        let e = marks m (sym (get_or-set_other s n m true false other) ∙ h) in
        record { other = e.other; symbol = e.symbol; reached = e.reached; before = before_further e.other path (0 ∷ []) e.before }
  ]

  -- from below an elder brother on to the younger
  marks_on : (path : List ℕ) (k j : ℕ) (s : List Bool) → Marks ((path ++ k ∷ []) ++ j ∷ []) s → Marks (path ++ suc k ∷ []) s
  marks_on path k j s marks m h =
      let e = marks m h in
      record {
        other = e.other;
        symbol = e.symbol;
        reached = e.reached;
        before = before_younger e.other path (j ∷ []) k (suc k) (omega arith) (subst (Before e.other) (append_assoc path (k ∷ []) (j ∷ [])) e.before);
      }

  -- the children of a node n that is reached along a path and fits its symbol y
  module _ (room n y : ℕ) (path : List ℕ) (levels : suc (length path) + room ≡ 64) (r : Reached g nodes path n y) (fit : Fitting g nodes n y) (below : Sound room) where
    miscounted : (k : ℕ) → Chained nodes n k
        → ((k < length (wanted g nodes n)) × (link nodes n k ≡ 0)) ⊎ ((k ≡ length (wanted g nodes n)) × (1 ≤ link nodes n k)) → WrongNode g nodes n
    miscounted k chain fault = record { path = path; symbol = y; reached = r; shallow = omega arith; fault = inr (fit, record { children = k; chain = chain; fault = fault }) }

    strayed : (k : ℕ) (s : List Bool) → k < length (wanted g nodes n) → Chained nodes n k → Marks (path ++ k ∷ []) s → 1 ≤ link nodes n k
        → (leb (length nodes) (link nodes n k) || get_or s (link nodes n k) false) ≡ true → WrongLink g nodes (holder nodes n k)
    strayed k s within chain marks low h = record {
      path = path;
      parent = n;
      symbol = y;
      elder = k;
      reached = r;
      shallow = omega arith;
      fitting = fit;
      within = within;
      chain = chain;
      held = refl;
      not_end = low;
      fault = elim (or_cases (leb (length nodes) (link nodes n k)) (get_or s (link nodes n k) false) h) [
        | inl past ↦ inl (leb-true (length nodes) (link nodes n k) past)
        | inr marked ↦ inr (marks (link nodes n k) marked)
      ];
    }

    pub children_come : (ss done : List ℕ) (k : ℕ) → wanted g nodes n ≡ done ++ ss → length done ≡ k → Chained nodes n k → (s : List Bool) → Marks (path ++ k ∷ []) s
        → Comes (Fault g nodes) (Done path) (children g nodes (subtree g nodes room) n (holder nodes n k) (link nodes n k) ss s)
    unfolding children
    children_come [] done k right e chain s marks =
        let all : length (wanted g nodes n) ≡ k = ap length (right ∙ append-nil done) ∙ e in
        cond_both (eqb (link nodes n k) 0) _ _ (Comes (Fault g nodes) (Done path))
        (λ _. (k, marks))
        (λ more. let z = eqb-false (link nodes n k) 0 more in miscounted k chain (inr (sym all, omega arith)))
    children_come (x ∷ xs) done k right e chain s marks =
        let i = link nodes n k in
        let len : length (done ++ (x ∷ xs)) ≡ length done + suc (length xs) = length-append done (x ∷ xs) in
        let within : k < length (wanted g nodes n) = omega (arith, ap length right, len, e) in
        cond_both (eqb i 0) _ _ (Comes (Fault g nodes) (Done path))
        (λ end. miscounted k chain (inl (within, eqb-true i 0 end)))
        (λ more.
        let z : i ≡ 0 → ⊥ = eqb-false i 0 more in
        let low : 1 ≤ i = omega arith in
        cond_both (leb (length nodes) i || get_or s i false) _ _ (Comes (Fault g nodes) (Done path))
        (λ lost. inl (strayed k s within chain marks low lost))
        (λ new.
        let o = or_parts (leb (length nodes) i) (get_or s i false) new in
        let chain' : Chained nodes n (suc k) = (chain, (low, leb-false (length nodes) i o.0)) in
        let x_is : get_or (wanted g nodes n) k 0 ≡ x = ap (λ l. get_or l k 0) right ∙ get_or_at done x xs 0 k e in
        let r' : Reached g nodes (path ++ k ∷ []) i x = subst (λ w. Reached g nodes (path ++ k ∷ []) i w) x_is (leads_more g nodes path 0 g.vocabulary.start n y k r fit within chain') in
        let levels' : length (path ++ k ∷ []) + room ≡ 64 = omega (arith, length_push path k) in
        comes_then (Fault g nodes) (Done (path ++ k ∷ [])) (Done path) (subtree g nodes room i x (set s i true)) (children g nodes (subtree g nodes room) n i (node nodes i).next_brother xs)
        (below i x (path ++ k ∷ []) (set s i true) levels' r' (marks_more (path ++ k ∷ []) i x s r' marks))
        (λ s₁ d. children_come xs (done ++ x ∷ []) (suc k) (right ∙ sym (append_assoc done (x ∷ []) xs)) (omega (arith, length_push done x)) chain' s₁ (marks_on path k d.0 s₁ d.1))))

  pub subtree_comes : (room : ℕ) → Sound room
  unfolding subtree
  subtree_comes zero n x path s levels r marks = record { path = path; symbol = x; reached = r; deep = omega arith }
  subtree_comes (suc room) n x path s levels r marks =
      let p = (node nodes n).production in
      cond_both (eqb (node nodes n).symbol x && fits g x p) _ _ (Comes (Fault g nodes) (Done path))
      (λ h.
      let a = and_parts (eqb (node nodes n).symbol x) (fits g x p) h in
      children_come room n x path (omega arith) r (eqb-true (node nodes n).symbol x a.0, a.1) (subtree_comes room) (wanted g nodes n) [] 0 refl refl tt s marks)
      (λ h. record {
        path = path;
        symbol = x;
        reached = r;
        shallow = omega arith;
        fault = inl (λ fit. both_ways (eqb (node nodes n).symbol x && fits g x p) h (and_from _ _ (eq-eqb (node nodes n).symbol x fit.0) fit.1));
      })
