-- The slots of a production as rules are added.
use Rattle.std.proofs.Common.{◌≡◌, ℕ, suc, ◌+◌, ◌≤◌, true, false, cond, eqb, ◌≢◌, List, [], ◌∷◌, ◌++◌, length, get_or, set, replicate, sym, refl, ap, ◌∙◌, subst, inl, inr, arith, get_or-set_other, get_or-set_same}
use lib.ListN.{get_or-replicate}
use Rattle.std.proofs.lemmas.Bool.{cases_Bool, and_parts, and_from, eq-eqb, ne_eqb, eqb-true, cond-false, both_ways}
use Rattle.std.proofs.lemmas.Bool.Decides.{eqb_tells}
use Rattle.grammar.specs.declared.production.Occurrence.{Occurrence}
use Rattle.grammar.specs.Rules.{same, numbered_from, rule_number, slot, Within, Indexed}

pub same_is : (o p : Occurrence) → same o p ≡ true → o ≡ p
same_is o p h =
    let parts = and_parts _ _ h in
    let position : o.position ≡ p.position = eqb-true _ _ parts.0 in
    let attribute : o.attribute ≡ p.attribute = eqb-true _ _ parts.1 in
    ap (λ n. record { position = n; attribute = o.attribute }) position ∙ ap (λ n. record { position = p.position; attribute = n }) attribute

pub numbered_push : (n : ℕ) (ts : List Occurrence) (t o : Occurrence) → 1 ≤ n
    → numbered_from n (ts ++ t ∷ []) o ≡ cond (eqb (numbered_from n ts o) 0) (cond (same t o) (n + length ts) 0) (numbered_from n ts o)
numbered_push n [] t o l = ap (λ m. cond (same t o) m 0) (omega arith)
numbered_push n (u ∷ ts) t o l = elim (cases_Bool (same u o)) [
  | inl h ↦ rw h (sym (cond-false _ _ _ (ne_eqb n 0 (omega arith))))
  | inr h ↦ rw h (numbered_push (suc n) ts t o (omega arith) ∙ ap (λ m. cond (eqb (numbered_from (suc n) ts o) 0) (cond (same t o) m 0) (numbered_from (suc n) ts o)) (omega arith))
]

pub slots_differ : (o t : Occurrence) → Within o → Within t → same t o ≡ false → slot o ≢ slot t
slots_differ o t a b h e =
    let p : t.position ≡ o.position = omega (arith, a.0, a.1, a.2, b.0, b.1, b.2) in
    let q : t.attribute ≡ o.attribute = omega (arith, a.0, a.1, a.2, b.0, b.1, b.2) in
    both_ways _ h (and_from _ _ (eq-eqb _ _ p) (eq-eqb _ _ q))

-- no rules leave every slot empty
pub indexed_none : Indexed (replicate 576 0) []
indexed_none o w = get_or-replicate 576 (slot o) 0 0 (omega (arith, w.0, w.1, w.2))

-- a rule more for an occurrence that has none
pub indexed_more : (slots : List ℕ) (ts : List Occurrence) (t : Occurrence) (n : ℕ) → length slots ≡ 576 → n ≡ length ts → Within t → rule_number ts t ≡ 0
    → Indexed slots ts → Indexed (set slots (slot t) (n + 1)) (ts ++ t ∷ [])
indexed_more slots ts t n long e w none indexed o v = elim (cases_Bool (same t o)) [
  | inl h ↦
      let is : t ≡ o = same_is t o h in
      let zero_here : rule_number ts o ≡ 0 = subst (λ p. rule_number ts p ≡ 0) is none in
      subst (λ p. get_or (set slots (slot t) (n + 1)) (slot p) 0 ≡ n + 1) is (get_or-set_same slots (slot t) (n + 1) 0 (omega (arith, w.0, w.1, w.2)))
      ∙ sym (numbered_push 1 ts t o (omega arith) ∙ rw (zero_here, h) (omega arith))
  | inr h ↦ get_or-set_other slots (slot t) (slot o) (n + 1) 0 (slots_differ o t v w h) ∙ indexed o v
      ∙ sym (numbered_push 1 ts t o (omega arith) ∙ rw h (same_way (rule_number ts o)))
]
  where
    same_way : (m : ℕ) → cond (eqb m 0) 0 m ≡ m
    same_way m = elim (eqb_tells m 0) [ inl p ↦ rw p.0 (sym p.1) | inr p ↦ rw p.0 refl ]
