-- The least number of the attributes with a rule that takes an attribute.
use Rattle.std.proofs.Common.{◌≡◌, ℕ, ◌≤◌, Bool, true, false, cond, eqb, ◌⊎◌, List, [], ◌∷◌, Some, None, Option, refl, ap, subst, inl, inr, arith}
use Rattle.std.specs.List.{flat_map}
use Rattle.std.proofs.lemmas.Bool.{cases_lt, eqb-true, eq-eqb, or_cases, or_parts, both_ways}
use Rattle.grammar.specs.declared.production.Occurrence.{Occurrence}
use Rattle.grammar.specs.Members.{◌∈◌}
use Rattle.grammar.specs.Grammar.{Grammar, Rule}
use Rattle.walk.specs.Evaluation.{Takes, is_among, lesser, least_taking, FirstTakingIsLeast}
use Rattle.walk.proofs.Members.{in_flat, from_flat}

module _ (a : ℕ) where
  -- one of the rules takes attribute a and sets attribute b
  record Taker (rs : List Rule) (b : ℕ) : Type 0 where
    rule : Rule
    listed : rule ∈ rs
    argument : Occurrence
    in_rule : argument ∈ rule.arguments
    takes : argument.attribute ≡ a
    sets : rule.target.attribute ≡ b

  taken : (os : List Occurrence) → is_among a os ≡ true → (o : Occurrence) × (o ∈ os) × (o.attribute ≡ a)
  taken [] e = absurd cc
  taken (o ∷ os) e = elim (or_cases (eqb o.attribute a) (is_among a os) e) [
    | inl h ↦ (o, inl refl, eqb-true o.attribute a h)
    | inr h ↦ let r = taken os h in (r.0, inr r.1, r.2)
  ]

  not_taken : (os : List Occurrence) → is_among a os ≡ false → (o : Occurrence) → o ∈ os → o.attribute ≡ a → ⊥
  not_taken [] e o m h = m
  not_taken (p ∷ os) e o (inl i) h =
      both_ways (eqb p.attribute a) (or_parts (eqb p.attribute a) (is_among a os) e).0 (subst (λ q. eqb q.attribute a ≡ true) i (eq-eqb o.attribute a h))
  not_taken (p ∷ os) e o (inr m) h = not_taken os (or_parts (eqb p.attribute a) (is_among a os) e).1 o m h

  module _ (r : Rule) (rs : List Rule) where
    first_taker : is_among a r.arguments ≡ true → Taker (r ∷ rs) r.target.attribute
    first_taker e =
        let o = taken r.arguments e in
        record { rule = r; listed = inl refl; argument = o.0; in_rule = o.1; takes = o.2; sets = refl }

    later_taker : (b : ℕ) → Taker rs b → Taker (r ∷ rs) b
    later_taker b t =
        record { rule = t.rule; listed = inr t.listed; argument = t.argument; in_rule = t.in_rule; takes = t.takes; sets = t.sets }

    -- a taker is the first rule or among the others
    first_or_later : (b : ℕ) → Taker (r ∷ rs) b → ((is_among a r.arguments ≡ false → ⊥) × (r.target.attribute ≡ b)) ⊎ Taker rs b
    first_or_later b t = elim t.listed [
      | inl e ↦ inl (
        λ none. not_taken r.arguments none t.argument (subst (λ q. t.argument ∈ q.arguments) e t.in_rule) t.takes,
        subst (λ q. q.target.attribute ≡ b) e t.sets,
      )
      | inr m ↦ inr (record { rule = t.rule; listed = m; argument = t.argument; in_rule = t.in_rule; takes = t.takes; sets = t.sets })
    ]

  module _ (number : ℕ → ℕ) where
    -- the number is the least of the takers' among the rules, and None says that there are none
    abbrev LeastAmong : List Rule → Option ℕ → Type 0
    LeastAmong rs None = (b : ℕ) → Taker rs b → ⊥
    LeastAmong rs (Some p) = ((b : ℕ) × Taker rs b × (number b ≡ p)) × ((b : ℕ) → Taker rs b → p ≤ number b)

    with_a_taker : (r : Rule) (rs : List Rule) (p : Option ℕ) → is_among a r.arguments ≡ true → LeastAmong rs p
        → LeastAmong (r ∷ rs) (lesser (number r.target.attribute) p)
    with_a_taker r rs None e h = (
      (r.target.attribute, first_taker r rs e, refl),
      λ b t. elim (first_or_later r rs b t) [ inl k ↦ omega (arith, ap number k.1) | inr k ↦ absurd (h b k) ],
    )
    with_a_taker r rs (Some p) e h = (
      elim (cases_lt p (number r.target.attribute)) [
        | inl l ↦ (h.0.0, later_taker r rs h.0.0 h.0.1, omega (arith, h.0.2))
        | inr l ↦ (r.target.attribute, first_taker r rs e, omega arith)
      ],
      λ b t. elim (first_or_later r rs b t) [ inl k ↦ omega (arith, ap number k.1) | inr k ↦ omega (arith, h.1 b k) ],
    )

    without_a_taker : (r : Rule) (rs : List Rule) (p : Option ℕ) → is_among a r.arguments ≡ false → LeastAmong rs p → LeastAmong (r ∷ rs) p
    without_a_taker r rs None e h = λ b t. elim (first_or_later r rs b t) [ inl k ↦ k.0 e | inr k ↦ h b k ]
    without_a_taker r rs (Some p) e h = (
      (h.0.0, later_taker r rs h.0.0 h.0.1, h.0.2),
      λ b t. elim (first_or_later r rs b t) [ inl k ↦ absurd (k.0 e) | inr k ↦ h.1 b k ],
    )

    least_among : (rs : List Rule) → LeastAmong rs (least_taking number a rs)
    least_among [] = λ b t. t.listed
    least_among (r ∷ rs) = go (is_among a r.arguments) refl (least_among rs)
      where
        go : (b : Bool) → is_among a r.arguments ≡ b → LeastAmong rs (least_taking number a rs)
            → LeastAmong (r ∷ rs) (cond b (lesser (number r.target.attribute) (least_taking number a rs)) (least_taking number a rs))
        go true e h = with_a_taker r rs (least_taking number a rs) e h
        go false e h = without_a_taker r rs (least_taking number a rs) e h

-- the takers of a grammar are those among the rules of its productions
module _ (g : Grammar) (a b : ℕ) where
  from_taker : Taker a (flat_map (λ p. p.rules) g.productions) b → Takes g a b
  from_taker t =
      let p = from_flat (λ p. p.rules) g.productions t.rule t.listed in
      record {
        production = p.0;
        in_grammar = p.1;
        rule = t.rule;
        in_production = p.2;
        argument = t.argument;
        in_rule = t.in_rule;
        takes = t.takes;
        sets = t.sets;
      }

  to_taker : Takes g a b → Taker a (flat_map (λ p. p.rules) g.productions) b
  to_taker t = record {
    rule = t.rule;
    listed = in_flat (λ p. p.rules) g.productions t.production t.rule t.in_grammar t.in_production;
    argument = t.argument;
    in_rule = t.in_rule;
    takes = t.takes;
    sets = t.sets;
  }

pub first_taking_is_least : FirstTakingIsLeast
first_taking_is_least g number a = (
  λ p e.
      let least = subst (LeastAmong a number rules) e (least_among a number rules) in
      record {
        attained = (least.0.0, from_taker g a least.0.0 least.0.1, least.0.2);
        least = λ b t. least.1 b (to_taker g a b t);
      },
  λ e b t. subst (LeastAmong a number rules) e (least_among a number rules) b (to_taker g a b t),
)
  where
    rules : List Rule
    rules = flat_map (λ p. p.rules) g.productions
