-- Attributes that want a number, and a book that has none yet.
use Rattle.std.proofs.Common.{◌≡◌, ℕ, suc, ◌-◌, ◌<◌, ◌≤◌, Bool, true, false, cond, not, ◌&&◌, ltb, leb, List, [], length, get_or, sym, refl, ap, ◌∙◌, subst, inl, inr, arith}
use Rattle.std.proofs.lemmas.Bool.{cases_Bool, cases_lt, and_parts, and_from, and_left, and_right, lt-ltb, le-ltb, ltb-true, leb-true, le-leb, both_ways, not_from_false, not-true, not-false, cond-true, cond-false}
use Rattle.bitset.specs.Sets.{has}
use Rattle.grammar.specs.declared.vocabulary.AttributeKind.{AttributeKind}
use Rattle.grammar.specs.declared.vocabulary.AttributeKind.TheVariants.{Inherited, Synthesized, Given}
use Rattle.grammar.specs.declared.vocabulary.Attribute.{Attribute}
use Rattle.grammar.specs.Grammar.{Grammar, attribute, is_attribute, given, defined_at, no_attribute}
use Rattle.grammar.specs.Lawful.{Lawful, LawfulProduction, LawfulRule, Used}
use Rattle.grammar.specs.Arcs.{Precedes}
use Rattle.grammar.specs.Books.{unnumbered, wanting_at}
use Rattle.grammar.specs.Numberings.{wants, number_of, Valid, Numbered}
use Rattle.grammar.proofs.FirstNumbers.{known, past}
use Rattle.grammar.proofs.Members.{all_member}

defined_not_given : (kind : AttributeKind) (position : ℕ) → defined_at kind position ≡ true → given kind ≡ false
defined_not_given Inherited position h = refl
defined_not_given Synthesized position h = refl
defined_not_given Given position h = absurd (both_ways false refl h)

-- the attributes of an arc of a lawful grammar want numbers
pub arc_source_wants : (g : Grammar) → Lawful g → (a b : ℕ) → Precedes g a b → wants g a ≡ true
arc_source_wants g lawful a b found =
    let arc = found.2 in
    let p = all_member (LawfulProduction g.vocabulary) g.productions arc.production lawful.productions arc.in_grammar in
    let r = all_member (LawfulRule g.vocabulary arc.production) arc.production.rules arc.rule p.rules arc.in_production in
    let used = all_member (Used g.vocabulary arc.production) arc.rule.arguments arc.argument r.uses arc.in_rule in
    let named : is_attribute g.vocabulary arc.argument.attribute ≡ true = (and_parts _ _ (and_parts _ _ used.0).1).0 in
    and_from _ _ (subst (λ o. is_attribute g.vocabulary o.attribute ≡ true) arc.takes named) (not_from_false _ arc.not_given)

pub arc_target_wants : (g : Grammar) → Lawful g → (a b : ℕ) → Precedes g a b → wants g b ≡ true
arc_target_wants g lawful a b found =
    let arc = found.2 in
    let p = all_member (LawfulProduction g.vocabulary) g.productions arc.production lawful.productions arc.in_grammar in
    let r = all_member (LawfulRule g.vocabulary arc.production) arc.production.rules arc.rule p.rules arc.in_production in
    let named : is_attribute g.vocabulary arc.rule.target.attribute ≡ true = (and_parts _ _ (and_parts _ _ r.defines.0).1).0 in
    let free : given (attribute g.vocabulary arc.rule.target.attribute).kind ≡ false = defined_not_given _ _ r.defines.1 in
    subst (λ o. wants g o.attribute ≡ true) arc.sets (and_from _ _ named (not_from_false _ free))

pub wanted_few : (attributes : List Attribute) (p : ℕ) → length attributes ≤ 64 → (ltb p 64 && wanting_at attributes p) ≡ wanting_at attributes p
wanted_few attributes p few = elim (cases_lt p 64) [
  | inl l ↦ ap (λ b. b && wanting_at attributes p) (lt-ltb p 64 l)
  | inr l ↦ and_left _ _ (le-ltb p 64 l) ∙ sym (and_left _ _ (le-ltb p (length attributes) (omega arith)))
]

-- A book that is not numbered: given attributes have 0, and nothing else has a number.

-- the tests on attributes, by places
module _ (g : Grammar) where
  wants_at : (p : ℕ) → wants g (suc p) ≡ wanting_at g.vocabulary.attributes p
  wants_at p = ap (λ t. (t && leb (suc p) (length g.vocabulary.attributes)) && not (given (attribute g.vocabulary (suc p)).kind)) (lt-ltb 0 (suc p) (omega arith))
      ∙ ap (λ i. ltb p (length g.vocabulary.attributes) && not (given (get_or g.vocabulary.attributes i no_attribute).kind)) less
    where
      less : suc p - 1 ≡ p
      less = omega arith

module _ (g : Grammar) (lawful : Lawful g) where
  abbrev its : List Attribute
  its = g.vocabulary.attributes

  few_of : length its ≤ 64
  few_of = lawful.vocabulary.few_attributes

  place_of : (a : ℕ) → is_attribute g.vocabulary a ≡ true → a - 1 < length its
  place_of a h =
      let parts = and_parts _ _ h in
      let low : 0 < a = ltb-true _ _ parts.0 in
      let high : a ≤ length its = leb-true _ _ parts.1 in
      omega arith

  none_at : (a : ℕ) → wants g a ≡ true → number_of (unnumbered its) a ≡ 255
  none_at a h =
      let parts = and_parts _ _ h in
      known its few_of (a - 1) (place_of a parts.0) ∙ cond-false _ _ _ (not-true _ parts.1)

  none_here : (p : ℕ) → wants g (suc p) ≡ true → get_or (unnumbered its) p 0 ≡ 255
  none_here p h = let less : p ≡ suc p - 1 = omega arith in ap (λ i. get_or (unnumbered its) i 0) less ∙ none_at (suc p) h

  -- no attribute has a number for an empty list of directions
  unvalid : Valid g [] (number_of (unnumbered its))
  unvalid = record {
    at_given = λ a h k. known its few_of (a - 1) (place_of a h) ∙ cond-true _ _ _ k;
    from_one = λ a h. omega (arith, none_at a h);
    rises = λ a b pre l. absurd (omega (arith, none_at b (arc_target_wants g lawful a b pre)));
    clear = λ a b pre l e bar. absurd (omega (arith, none_at b (arc_target_wants g lawful a b pre)));
  }

  other_here : (p : ℕ) → p < 64 → wants g (suc p) ≡ false → get_or (unnumbered its) p 0 ≡ cond (is_attribute g.vocabulary (suc p)) 0 255
  other_here p h w = elim (cases_lt p (length its)) [
    | inl l ↦
        let named : is_attribute g.vocabulary (suc p) ≡ true = and_from _ _ (lt-ltb 0 (suc p) (omega arith)) (le-leb (suc p) (length its) (omega arith)) in
        let is_given : given (get_or its p no_attribute).kind ≡ true = not-false _ (and_first _ _ (lt-ltb p (length its) l) (sym (wants_at g p) ∙ w)) in
        known its few_of p l ∙ cond-true _ _ _ is_given ∙ sym (cond-true _ _ _ named)
    | inr l ↦
        let named : is_attribute g.vocabulary (suc p) ≡ false = and_right (ltb 0 (suc p)) _ (le-ltb p (length its) l) in
        past its few_of p l h ∙ sym (cond-false _ _ _ named)
  ]
    where
      and_first : (x y : Bool) → x ≡ true → (x && y) ≡ false → y ≡ false
      and_first true y e h = h
      and_first false y e h = absurd (both_ways false refl e)

  pub not_numbered : (set : ℕ) → ((p : ℕ) → has set p ≡ wanting_at its p) → Numbered g [] (unnumbered its) 0 set
  not_numbered set bits = record {
    valid = unvalid;
    others = other_here;
    none = λ p h. none_here p (wants_at g p ∙ sym (bits p) ∙ h);
    set = λ p. bits p ∙ sym (wants_at g p) ∙ elim (cases_Bool (wants g (suc p))) [
      | inl h ↦ h ∙ sym (and_from _ _ h (lt-ltb 0 (get_or (unnumbered its) p 0) (omega (arith, none_here p h))))
      | inr h ↦ h ∙ sym (and_left _ _ h)
    ];
    upper = λ p h l. absurd (omega (arith, none_here p h));
    attained = inl refl;
  }
