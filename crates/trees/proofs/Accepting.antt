-- A row is accepted exactly when it holds a derivation tree, and it holds one at most.
use Rattle.std.proofs.Common.{◌≡◌, ℕ, zero, suc, ◌+◌, ◌<◌, ◌≤◌, Bool, true, false, ◌&&◌, eqb, leb, List, ◌∷◌, length, get_or, set, replicate, Ok, Result, sym, refl, ap, ◌∙◌, inl, inr, arith}
use Rattle.std.specs.List.{AllByRecursion}
use Rattle.std.proofs.lemmas.List.{length-replicate}
use Rattle.std.proofs.ByRecursion.{All-append}
use Rattle.std.proofs.lemmas.Bool.{eq-eqb, leb-true, le-leb, cond-true, and_parts, and_from, both_ways, cases_eq}
use Rattle.std.proofs.lemmas.Bool.Decides.{nat_tests}
use Rattle.refusal.specs.declared.Refusal.{Refusal}
use Rattle.grammar.specs.Grammar.{Grammar}
use Rattle.trees.specs.declared.node.Node.{Node}
use Rattle.trees.specs.Checking.{node, fits, children_symbols, children, subtree, all_reached, then_all}
use Rattle.trees.specs.Trees.{Forest, none, brother, Tree, numbers, tree_numbers, tree_depth, Holds, Stands}
use Rattle.trees.specs.Theorems.{AcceptedHoldsATree, TreesAreAccepted, TreeIsUnique}
use Rattle.trees.proofs.Outcomes.{test_held}
use Rattle.grammar.proofs.Marks.{reach, Fresh, apart_from_fresh, fresh_from_apart, unmarked}
use Rattle.trees.proofs.Marks.{reached_or_marked, reached_is_marked}
use Rattle.trees.proofs.Growing.{subtree_grown, children_go}

module _ (g : Grammar) (nodes : List Node) where
  all_held : (r : Result (List Bool) Refusal) → then_all g nodes r ≡ Ok tt → (s : List Bool) × (r ≡ Ok s) × (all_reached 0 (length nodes) s ≡ Ok tt)
  all_held r e = grind (arith, nat_tests)

  all_marked : (n count : ℕ) (s : List Bool) → all_reached n count s ≡ Ok tt → (m : ℕ) → n ≤ m → m < n + count → get_or s m false ≡ true
  all_marked n zero s e m low high = absurd (omega arith)
  all_marked n (suc count) s e m low high =
      let t = test_held (get_or s n false) _ _ e in
      elim (cases_eq m n) [ inl same ↦ rw same t.0 | inr other ↦ all_marked (suc n) count s t.1 m (omega arith) (omega arith) ]

  none_missing : (n count : ℕ) (s : List Bool) → ((m : ℕ) → n ≤ m → m < n + count → get_or s m false ≡ true) → all_reached n count s ≡ Ok tt
  none_missing n zero s h = refl
  none_missing n (suc count) s h =
      cond-true (get_or s n false) _ _ (h n (omega arith) (omega arith)) ∙ none_missing (suc n) count s (λ m low high. h m (omega arith) (omega arith))

  grown_stands : (s : List Bool) → length nodes ≤ 4096 → subtree g nodes 64 0 g.vocabulary.start (set (replicate 4096 false) 0 true) ≡ Ok s
      → all_reached 0 (length nodes) s ≡ Ok tt → (t : Tree) × Stands g nodes t × (tree_depth t ≤ 64)
  grown_stands s few e all =
      let blank = replicate 4096 false in
      let w = subtree_grown g nodes few 64 0 g.vocabulary.start (set blank 0 true) s e in
      let ns = 0 ∷ numbers w.below in
      let fresh : Fresh ns blank = (omega arith, unmarked 4096 0, w.fresh) in
      let t : Tree = record { symbol = g.vocabulary.start; production = (node nodes 0).production; children = w.below } in (
        t,
        record {
          start = refl;
          root_fits = w.fit;
          derived = w.derived;
          root_symbol = w.symbol;
          root_production = refl;
          held = w.holds;
          once = apart_from_fresh ns blank (length-replicate 4096 false) fresh;
          all = λ n l. elim (reached_or_marked ns blank n (ap (λ m. get_or m n false) (sym w.marks) ∙ all_marked 0 (length nodes) s all n (omega arith) (omega arith))) [
            | inl m ↦ m
            | inr h ↦ absurd (both_ways (get_or blank n false) (unmarked 4096 n) h)
          ];
        },
        w.shallow,
      )

pub accepted_holds_a_tree : AcceptedHoldsATree
accepted_holds_a_tree g nodes e =
    let h = test_held (leb 1 (length nodes) && leb (length nodes) 4096) _ _ e in
    let p = and_parts (leb 1 (length nodes)) (leb (length nodes) 4096) h.0 in
    let few = leb-true (length nodes) 4096 p.1 in
    let a = all_held g nodes _ h.1 in
    (leb-true 1 (length nodes) p.0, few, grown_stands g nodes a.0 few a.1 a.2)

-- the nodes of a forest are among those of the row
numbers_low : (nodes : List Node) (f : Forest) (index : ℕ) → length nodes ≤ 4096 → Holds nodes index f → AllByRecursion (λ n. n < 4096) (numbers f)
numbers_low nodes none index few h = tt
numbers_low nodes (brother n s p below rest) index few h =
    (omega (arith, h.2), All-append (λ m. m < 4096) (numbers below) (numbers rest) (numbers_low nodes below (node nodes n).first_child few h.5) (numbers_low nodes rest (node nodes n).next_brother few h.6))

pub trees_are_accepted : TreesAreAccepted
unfolding subtree
trees_are_accepted g nodes t some few st l =
    let blank = replicate 4096 false in
    let ns = tree_numbers t in
    let x = g.vocabulary.start in
    let p = (node nodes 0).production in
    let i = (node nodes 0).first_child in
    let fresh : Fresh ns blank = fresh_from_apart ns blank (omega arith, numbers_low nodes t.children i few st.held) st.once (λ n m. unmarked 4096 n) in
    let fit : fits g x p ≡ true = ap (fits g x) st.root_production ∙ ap (λ y. fits g y t.production) (sym st.start) ∙ st.root_fits in
    cond-true (leb 1 (length nodes) && leb (length nodes) 4096) _ _ (and_from _ _ (le-leb 1 (length nodes) some) (le-leb (length nodes) 4096 few))
    ∙ ap (then_all g nodes) (
    cond-true (eqb (node nodes 0).symbol x && fits g x p) _ _ (and_from _ _ (eq-eqb (node nodes 0).symbol x (st.root_symbol ∙ st.start)) fit)
    ∙ ap (λ q. children g nodes (subtree g nodes 63) 0 0 i (children_symbols g q) (set blank 0 true)) st.root_production
    ∙ children_go g nodes few t.children 63 (children_symbols g t.production) 0 0 i (set blank 0 true) st.held st.derived (omega arith) fresh.2
    )
    ∙ none_missing g nodes 0 (length nodes) (reach ns blank) (λ m low high. reached_is_marked ns blank m (length-replicate 4096 false) fresh (st.all m (omega arith)))

same_forest : (nodes : List Node) (f h : Forest) (index : ℕ) → Holds nodes index f → Holds nodes index h → f ≡ h
same_forest nodes none none index a b = refl
same_forest nodes none (brother n s p below rest) index a b = absurd (omega (arith, b.0, b.1))
same_forest nodes (brother n s p below rest) none index a b = absurd (omega (arith, a.0, a.1))
same_forest nodes (brother n s p below rest) (brother m x q below' rest') index a b =
    let e₀ : n ≡ m = sym a.0 ∙ b.0 in
    let e₁ : s ≡ x = sym a.3 ∙ ap (λ k. (node nodes k).symbol) e₀ ∙ b.3 in
    let e₂ : p ≡ q = sym a.4 ∙ ap (λ k. (node nodes k).production) e₀ ∙ b.4 in
    let e₃ : below ≡ below' = same_forest nodes below below' (node nodes n).first_child a.5 (rw e₀ b.5) in
    let e₄ : rest ≡ rest' = same_forest nodes rest rest' (node nodes n).next_brother a.6 (rw e₀ b.6) in
    cc

pub tree_is_unique : TreeIsUnique
tree_is_unique g nodes t u a b =
    let e₀ : t.symbol ≡ u.symbol = sym a.root_symbol ∙ b.root_symbol in
    let e₁ : t.production ≡ u.production = sym a.root_production ∙ b.root_production in
    let e₂ : t.children ≡ u.children = same_forest nodes t.children u.children (node nodes 0).first_child a.held b.held in
    same_tree t.symbol u.symbol t.production u.production t.children u.children e₀ e₁ e₂
  where
    same_tree : (s s' p p' : ℕ) (f f' : Forest) → s ≡ s' → p ≡ p' → f ≡ f'
        → ◌≡◌ {A = Tree} (record { symbol = s; production = p; children = f }) (record { symbol = s'; production = p'; children = f' })
    same_tree s s' p p' f f' x y z = rw (x, y, z)
