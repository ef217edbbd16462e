-- Ordered lists of assignments, from ordered parts.
use Rattle.std.proofs.Common.{◌≡◌, ℕ, ◌≢◌, List, [], ◌∷◌, ◌++◌, map, sym, refl, ap, subst, inl, inr}
use Rattle.std.specs.List.{flat_map}
use Rattle.grammar.specs.Members.{◌∈◌}
use Rattle.grammar.specs.Members.{Apart}
use Rattle.trees.proofs.Lists.{in_either}
use Rattle.walk.specs.Programs.{Assignment, Ordered}
use Rattle.walk.specs.Walks.{Step}
use Rattle.walk.specs.Turns.{Earlier}
use Rattle.walk.proofs.Members.{member_splits, from_map, from_flat}

-- nothing that the first one reads or sets is set by the second
pub record Undisturbed {V : Type 0} (a b : Assignment V) : Type 0 where
  pub reads : (c : ℕ) → c ∈ a.arguments → c ≢ b.target
  pub apart : a.target ≢ b.target

module _ {V : Type 0} where
  ordered_append : (xs ys : List (Assignment V)) → Ordered xs → Ordered ys → ((a b : Assignment V) → a ∈ xs → b ∈ ys → Undisturbed a b) → Ordered (xs ++ ys)
  ordered_append [] ys o q h = q
  ordered_append (x ∷ xs) ys o q h = (
    record {
      own = o.0.own;
      reads = λ b m. elim (in_either xs ys b m) [ inl k ↦ o.0.reads b k | inr k ↦ (h x b (inl refl) k).reads ];
      apart = λ b m. elim (in_either xs ys b m) [ inl k ↦ o.0.apart b k | inr k ↦ (h x b (inl refl) k).apart ];
    },
    ordered_append xs ys o.1 q (λ a b m n. h a b (inr m) n),
  )

  pub ordered_map : (f : ℕ → Assignment V) (xs : List ℕ) → Apart xs
      → ((a b : ℕ) → a ∈ xs → b ∈ xs → (c : ℕ) → c ∈ (f a).arguments → c ≢ (f b).target)
      → ((a b : ℕ) → a ∈ xs → b ∈ xs → (f a).target ≡ (f b).target → a ≡ b) → Ordered (map f xs)
  ordered_map f [] o reads targets = tt
  ordered_map f (x ∷ xs) o reads targets = (
    record {
      own = reads x x (inl refl) (inl refl);
      reads = λ b m. let h = from_map f xs b m in rw h.2 (reads x h.0 (inl refl) (inr h.1));
      apart = λ b m. let h = from_map f xs b m in
          rw h.2 (λ e. o.0 (subst (λ y. y ∈ xs) (sym (targets x h.0 (inl refl) (inr h.1) e)) h.1));
    },
    ordered_map f xs o.1 (λ a b m n. reads a b (inr m) (inr n)) (λ a b m n. targets a b (inr m) (inr n)),
  )

  -- each part is ordered, and a part is not disturbed by the parts of later steps
  pub ordered_flat : (f : Step → List (Assignment V)) (steps : List Step) → ((s : Step) → s ∈ steps → Ordered (f s))
      → ((s s' : Step) → Earlier steps s s' → (a b : Assignment V) → a ∈ f s → b ∈ f s' → Undisturbed a b) → Ordered (flat_map f steps)
  ordered_flat f [] each pairs = tt
  ordered_flat f (s ∷ steps) each pairs =
      ordered_append (f s) (flat_map f steps) (each s (inl refl))
      (ordered_flat f steps (λ z m. each z (inr m))
      (λ y z e. pairs y z (record { before = s ∷ e.before; between = e.between; behind = e.behind; split = ap (λ zs. s ∷ zs) e.split })))
      (λ a b m n.
      let k = from_flat f steps b n in
      let split = member_splits steps k.0 k.1 in
      pairs s k.0 (record { before = []; between = split.0; behind = split.1; split = ap (λ zs. s ∷ zs) split.2 }) a b m k.2)
