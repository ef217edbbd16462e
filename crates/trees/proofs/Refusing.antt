-- A row that is refused has the fault that the refusal names.
use Rattle.std.proofs.Common.{◌≡◌, ℕ, zero, suc, ◌+◌, ◌<◌, ◌≤◌, Bool, true, false, cond, ◌&&◌, leb, List, [], ◌∷◌, length, get_or, set, replicate, Ok, Err, Result, sym, refl, ap, ◌∙◌, subst, inl, inr, arith}
use Rattle.std.proofs.lemmas.List.{length-replicate}
use Rattle.std.proofs.lemmas.Bool.{and_parts, and_from, leb-true, le-leb, both_ways}
use Rattle.std.proofs.lemmas.Bool.Decides.{nat_tests}
use Rattle.refusal.specs.declared.Refusal.{Refusal}
use Rattle.refusal.specs.declared.Refusal.TheVariants.{NodeCount, BadLink}
use Rattle.grammar.specs.Grammar.{Grammar}
use Rattle.grammar.specs.Members.{◌∈◌}
use Rattle.trees.specs.declared.node.Node.{Node}
use Rattle.trees.specs.Checking.{node, children_symbols, subtree, all_reached, then_all}
use Rattle.trees.specs.Trees.{Forest, none, brother, numbers, Derived, Holds}
use Rattle.trees.specs.Faults.{link, wanted, Leads, Stray, Fault, RefusalNamesAFault}
use Rattle.trees.proofs.Lists.{in_left, in_right}
use Rattle.grammar.proofs.Marks.{Fresh, unmarked}
use Rattle.trees.proofs.Marks.{reached_is_marked}
use Rattle.trees.proofs.Growing.{subtree_grown}
use Rattle.trees.proofs.Comes.{Comes}
use Rattle.trees.proofs.Marking.{Marks, Done, marks_more, subtree_comes}

module _ (g : Grammar) (nodes : List Node) where
  -- a child along the chain is one of the brothers, with what is below it
  record Brother (f : Forest) (n : ℕ) : Type 0 where
    pub below : Forest
    pub holds : Holds nodes (node nodes n).first_child below
    pub derived : Derived g (wanted g nodes n) below
    pub here : n ∈ numbers f
    pub under : (m : ℕ) → m ∈ numbers below → m ∈ numbers f

  nth_brother : (f : Forest) (n k : ℕ) (ss : List ℕ) → Holds nodes (link nodes n k) f → Derived g ss f → (i : ℕ) → i < length ss → Brother f (link nodes n (k + i))
  nth_brother none n k [] h d i l = absurd (omega arith)
  nth_brother none n k (x ∷ xs) h d i l = absurd d
  nth_brother (brother m s p below rest) n k [] h d i l = absurd d
  nth_brother (brother m s p below rest) n k (x ∷ xs) h d zero l =
      let here : link nodes n (k + 0) ≡ m = (let z : k + 0 ≡ k = omega arith in ap (link nodes n) z) ∙ h.0 in
      let first : Brother (brother m s p below rest) m = record {
        below = below;
        holds = h.5;
        derived = subst (λ q. Derived g (children_symbols g q) below) (sym h.4) d.2;
        here = inl refl;
        under = λ y i. inr (in_left (numbers below) (numbers rest) y i);
      } in
      subst (Brother (brother m s p below rest)) (sym here) first
  nth_brother (brother m s p below rest) n k (x ∷ xs) h d (suc i) l =
      let next : Holds nodes (link nodes n (suc k)) rest = subst (λ j. Holds nodes (node nodes j).next_brother rest) (sym h.0) h.6 in
      let b = nth_brother rest n (suc k) xs next d.3 i (omega arith) in
      let same : link nodes n (suc k + i) ≡ link nodes n (k + suc i) = (let z : suc k + i ≡ k + suc i = omega arith in ap (link nodes n) z) in
      let more : Brother (brother m s p below rest) (link nodes n (suc k + i)) = record {
        below = b.below;
        holds = b.holds;
        derived = b.derived;
        here = inr (in_right (numbers below) (numbers rest) (link nodes n (suc k + i)) b.here);
        under = λ y j. inr (in_right (numbers below) (numbers rest) y (b.under y j));
      } in
      subst (Brother (brother m s p below rest)) same more

  -- the links from a node whose children are held lead to it or to a node below it
  led : (path : List ℕ) (n s m x : ℕ) (f : Forest) → Holds nodes (node nodes n).first_child f → Derived g (wanted g nodes n) f → Leads g nodes n s path m x → m ∈ (n ∷ numbers f)
  led [] n s m x f h d l = inl l.0
  led (k ∷ path) n s m x f h d l =
      let z : 0 + k ≡ k = omega arith in
      let b : Brother f (link nodes n k) = subst (λ j. Brother f (link nodes n j)) z (nth_brother f n 0 (wanted g nodes n) h d k l.1) in
      elim (led path (link nodes n k) (get_or (wanted g nodes n) k 0) m x b.below b.holds b.derived l.3) [
        | inl e ↦ inr (subst (λ y. y ∈ numbers f) (sym e) b.here)
        | inr i ↦ inr (b.under m i)
      ]

  -- the first node that is not reached
  abbrev Missing : ℕ → List Bool → Refusal → Type 0
  Missing end s e = (h : ℕ) × (h < end) × (get_or s h false ≡ false) × (BadLink h ≡ e)

  missing_at : (n count : ℕ) (s : List Bool) (e : Refusal) (b : Bool) → get_or s n false ≡ b → (all_reached (suc n) count s ≡ Err e → Missing (suc n + count) s e)
      → cond b (all_reached (suc n) count s) (Err (BadLink n)) ≡ Err e → Missing (n + suc count) s e
  missing_at n count s e b t later k = grind (arith, nat_tests)

  missing : (n count : ℕ) (s : List Bool) (e : Refusal) → all_reached n count s ≡ Err e → Missing (n + count) s e
  missing n zero s e h = absurd cc
  missing n (suc count) s e h = missing_at n count s e (get_or s n false) refl (missing (suc n) count s e) h

  no_marks : Marks g nodes [] (replicate 4096 false)
  no_marks m h = absurd (both_ways (get_or (replicate 4096 false) m false) (unmarked 4096 m) h)

  left_out : (s : List Bool) → length nodes ≤ 4096 → subtree g nodes 64 0 g.vocabulary.start (set (replicate 4096 false) 0 true) ≡ Ok s
      → (h : ℕ) → h < length nodes → get_or s h false ≡ false → Stray g nodes h
  left_out s few e h within missed =
      let blank = replicate 4096 false in
      let w = subtree_grown g nodes few 64 0 g.vocabulary.start (set blank 0 true) s e in
      let ns = 0 ∷ numbers w.below in
      let fresh : Fresh ns blank = (omega arith, unmarked 4096 0, w.fresh) in (
        within,
        λ path x r. both_ways (get_or s h false) missed (
            ap (λ m. get_or m h false) w.marks ∙ reached_is_marked ns blank h (length-replicate 4096 false) fresh (led path 0 g.vocabulary.start h x w.below w.holds w.derived r)
            ),
      )

  by_tree : (r : Result (List Bool) Refusal) (e : Refusal) → length nodes ≤ 4096 → subtree g nodes 64 0 g.vocabulary.start (set (replicate 4096 false) 0 true) ≡ r
      → Comes (Fault g nodes) (Done g nodes []) r → then_all g nodes r ≡ Err e → Fault g nodes e
  by_tree (Err d) e few is c h = let same : d ≡ e = cc in subst (Fault g nodes) same c
  by_tree (Ok s) e few is c h =
      let m = missing 0 (length nodes) s e h in
      let z : 0 + length nodes ≡ length nodes = omega arith in
      subst (Fault g nodes) m.3 (inr (left_out s few is m.0 (omega (arith, m.1)) m.2))

  by_count : (b : Bool) (e : Refusal) → (leb 1 (length nodes) && leb (length nodes) 4096) ≡ b
      → cond b (then_all g nodes (subtree g nodes 64 0 g.vocabulary.start (set (replicate 4096 false) 0 true))) (Err NodeCount) ≡ Err e → Fault g nodes e
  by_count true e is h =
      let few = leb-true (length nodes) 4096 (and_parts (leb 1 (length nodes)) (leb (length nodes) 4096) is).1 in
      by_tree (subtree g nodes 64 0 g.vocabulary.start (set (replicate 4096 false) 0 true)) e few refl
      (subtree_comes g nodes 64 0 g.vocabulary.start [] (set (replicate 4096 false) 0 true) refl (refl, refl) (marks_more g nodes [] 0 g.vocabulary.start (replicate 4096 false) (refl, refl) no_marks)) h
  by_count false e is h =
      let same : NodeCount ≡ e = cc in
      subst (Fault g nodes) same (λ n. both_ways (leb 1 (length nodes) && leb (length nodes) 4096) is (and_from _ _ (le-leb 1 (length nodes) n.0) (le-leb (length nodes) 4096 n.1)))

pub refusal_names_a_fault : RefusalNamesAFault
refusal_names_a_fault g nodes e h = by_count g nodes (leb 1 (length nodes) && leb (length nodes) 4096) e refl h
