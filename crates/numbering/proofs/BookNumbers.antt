-- The numbering by places as a numbering of the grammar that a book holds.
use Rattle.std.proofs.Common.{◌≡◌, ℕ, zero, suc, ◌+◌, ◌-◌, ◌*◌, ◌<◌, ◌≤◌, Bool, true, false, cond, not, ◌&&◌, eqb, ltb, leb, List, length, get_or, Decides, sym, refl, ap, ◌∙◌, subst, inl, inr, ⊎_elim, arith}
use mathlib.Core.Path.{fun_ext}
use mathlib.Core.Logic.{∥∥₁_elim}
use mathlib.Core.HLevel.{⊥_prop}
use native.Mathlib.Bridge.{le_prop}
use lib.Bits.{bit_and}
use Rattle.std.proofs.lemmas.Bool.{both_ways, and_parts, and_right, lt-ltb, ltb-true, leb-true, cond-true, not_from_true}
use Rattle.std.proofs.lemmas.Bool.Decides.{Decides-at}
use Rattle.plans.specs.declared.Direction.{Direction}
use Rattle.grammar.specs.declared.vocabulary.Attribute.{Attribute}
use Rattle.grammar.specs.Grammar.{Grammar, attribute, is_attribute, given, no_attribute}
use Rattle.grammar.specs.Lawful.{Lawful}
use Rattle.grammar.specs.Arcs.{Precedes, Barred, precedence, bar, labelled, board_of}
use Rattle.grammar.specs.Numberings.{wants, direction, number_of, Least, Numbered}
use Rattle.grammar.proofs.Relations.{labels_stand_for_relations}
use Rattle.numbering.specs.Graph.{Graph, Arc, ValidOn, LeastOn}
use Rattle.numbering.specs.Places.{marked, wants_at, place_graph, NumberedPlaces}
use Rattle.numbering.proofs.Relations.{arc_ends, least_of}

-- a test on places as a test on attributes, which count from 1
abbrev on_attributes : (ℕ → Bool) → ℕ → Bool
on_attributes test zero = false
on_attributes test (suc p) = test p

abbrev attribute_graph : Graph → Graph
attribute_graph g = record {
  wants = on_attributes g.wants;
  precedes = λ a b. on_attributes (λ p. on_attributes (g.precedes p) b) a;
  barred = λ d a b. on_attributes (λ p. on_attributes (g.barred d p) b) a;
}

module _ (g : Graph) (ds : List Direction) where
  valid_places : (w : ℕ → ℕ) → ValidOn (attribute_graph g) ds w → ValidOn g ds (λ p. w (suc p))
  valid_places w valid = record {
    starts = λ p. valid.starts (suc p);
    rises = λ p q arc. valid.rises (suc p) (suc q) (record { source = arc.source; target = arc.target; arc = arc.arc });
    clear = λ p q arc. valid.clear (suc p) (suc q) (record { source = arc.source; target = arc.target; arc = arc.arc });
  }

  least_attributes : (v : ℕ → ℕ) → LeastOn g ds (λ p. v (suc p)) → LeastOn (attribute_graph g) ds v
  least_attributes v h = record {
    valid = record { starts = starts; rises = rises; clear = clear };
    least = least;
  }
    where
      no_attribute_0 : {P : Type 0} → false ≡ true → P
      no_attribute_0 h = absurd (both_ways false refl h)

      place_arc : (p q : ℕ) → Arc (attribute_graph g) (suc p) (suc q) → Arc g p q
      place_arc p q arc = record { source = arc.source; target = arc.target; arc = arc.arc }

      starts : (a : ℕ) → (attribute_graph g).wants a ≡ true → 1 ≤ v a
      starts zero wanted = no_attribute_0 wanted
      starts (suc p) wanted = h.valid.starts p wanted

      rises : (a b : ℕ) → Arc (attribute_graph g) a b → v b ≤ length ds → v a ≤ v b
      rises zero b arc = no_attribute_0 arc.source
      rises (suc p) zero arc = no_attribute_0 arc.target
      rises (suc p) (suc q) arc = h.valid.rises p q (place_arc p q arc)

      clear : (a b : ℕ) → Arc (attribute_graph g) a b → v b ≤ length ds → v a ≡ v b → (attribute_graph g).barred (direction ds (v b)) a b ≡ false
      clear zero b arc = no_attribute_0 arc.source
      clear (suc p) zero arc = no_attribute_0 arc.target
      clear (suc p) (suc q) arc = h.valid.clear p q (place_arc p q arc)

      least : (w : ℕ → ℕ) → ValidOn (attribute_graph g) ds w → (b : ℕ) → (attribute_graph g).wants b ≡ true → w b ≤ length ds → v b ≤ w b
      least w valid zero wanted = no_attribute_0 wanted
      least w valid (suc q) wanted = h.least (λ p. w (suc p)) (valid_places w valid) q wanted

-- attributes of a grammar and their places
back : (p : ℕ) → suc p - 1 ≡ p
back p = omega arith

module _ (g : Grammar) where
  named_at : (p : ℕ) → is_attribute g.vocabulary (suc p) ≡ ltb p (length g.vocabulary.attributes)
  named_at p = ap (λ b. b && leb (suc p) (length g.vocabulary.attributes)) (lt-ltb 0 (suc p) (omega arith))

  wanted_at : (p : ℕ) → wants_at g.vocabulary.attributes p ≡ wants g (suc p)
  unfolding wants_at
  wanted_at p = sym (ap (λ b. b && not (given (attribute g.vocabulary (suc p)).kind)) (named_at p)
      ∙ ap (λ n. ltb p (length g.vocabulary.attributes) && not (given (get_or g.vocabulary.attributes n no_attribute).kind)) (back p))

  labelled_at : (board : List ℕ) (bit p q : ℕ) → marked board bit p q ≡ labelled board bit (suc p) (suc q)
  unfolding marked
  labelled_at board bit p q =
      let same : 64 * p + q ≡ 64 * (suc p - 1) + (suc q - 1) = omega arith in
      ap (λ n. not (eqb (bit_and (get_or board n 0) bit) 0)) same

  module _ (lawful : Lawful g) where
    small : (a : ℕ) → wants g a ≡ true → (1 ≤ a) × (a ≤ 64)
    small a wanted =
        let named = and_parts _ _ (and_parts _ _ wanted).0 in
        let low = ltb-true 0 a named.0 in
        let high = leb-true a _ named.1 in
        (omega arith, omega (arith, lawful.vocabulary.few_attributes))

    -- the places of a lawful grammar's board
    abbrev places : Graph
    places = place_graph (board_of g) g.vocabulary.attributes

    same_wants : (a : ℕ) → (attribute_graph places).wants a ≡ wants g a
    same_wants zero = refl
    same_wants (suc p) = wanted_at p

    board_precedes : (a b : ℕ) → wants g a ≡ true → wants g b ≡ true → Decides ((attribute_graph places).precedes a b) (Precedes g a b)
    board_precedes zero b wa wb = absurd (both_ways false refl wa)
    board_precedes (suc p) zero wa wb = absurd (both_ways false refl wb)
    board_precedes (suc p) (suc q) wa wb =
        let sa = small (suc p) wa in
        let sb = small (suc q) wb in
        Decides-at _ _ (labelled_at (board_of g) precedence p q) (labels_stand_for_relations g lawful (suc p) (suc q) sa.0 sa.1 sb.0 sb.1).0

    board_barred : (d : Direction) (a b : ℕ) → wants g a ≡ true → wants g b ≡ true → Decides ((attribute_graph places).barred d a b) (Barred g d a b)
    board_barred d zero b wa wb = absurd (both_ways false refl wa)
    board_barred d (suc p) zero wa wb = absurd (both_ways false refl wb)
    board_barred d (suc p) (suc q) wa wb =
        let sa = small (suc p) wa in
        let sb = small (suc q) wb in
        Decides-at _ _ (labelled_at (board_of g) (bar d) p q) ((labels_stand_for_relations g lawful (suc p) (suc q) sa.0 sa.1 sb.0 sb.1).1 d)

-- What holds of every lawful grammar holds where it is only known that the grammar is lawful.
least_known : (g : Grammar) (ds : List Direction) (v : ℕ → ℕ) → ∥ Lawful g ∥₁ → (Lawful g → Least g ds v) → Least g ds v
least_known g ds v known least = record {
  valid = record {
    at_given = λ a h k. let low : v a ≤ 0 = ∥∥₁_elim known le_prop (λ l. omega (arith, (least l).valid.at_given a h k)) in omega arith;
    from_one = λ a h. ∥∥₁_elim known le_prop (λ l. (least l).valid.from_one a h);
    rises = λ a b precedes h. ∥∥₁_elim known le_prop (λ l. (least l).valid.rises a b precedes h);
    clear = λ a b precedes h e barred. ∥∥₁_elim known ⊥_prop (λ l. (least l).valid.clear a b precedes h e barred);
  };
  least = λ w valid b h k. ∥∥₁_elim known le_prop (λ l. (least l).least w valid b h k);
  none = λ b h past w valid. ∥∥₁_elim known le_prop (λ l. (least l).none b h past w valid);
  some = λ b h none. ∥∥₁_elim known le_prop (λ l. (least l).some b h none);
}

module _ (g : Grammar) (lawful : ∥ Lawful g ∥₁) (board : List ℕ) (labels : board ≡ board_of g) (attributes : List Attribute) (these : attributes ≡ g.vocabulary.attributes)
    (ds : List Direction) (numbers : List ℕ) (greatest unnumbered : ℕ)
    (numbered : NumberedPlaces (place_graph board attributes) ds (length attributes) numbers greatest unnumbered) where
  abbrev all : List Attribute
  all = g.vocabulary.attributes

  of_grammar : NumberedPlaces (place_graph (board_of g) all) ds (length all) numbers greatest unnumbered
  of_grammar = subst (λ xs. NumberedPlaces (place_graph (board_of g) xs) ds (length xs) numbers greatest unnumbered) these
      (subst (λ b. NumberedPlaces (place_graph b attributes) ds (length attributes) numbers greatest unnumbered) labels numbered)

  few : length all ≤ 64
  few = ∥∥₁_elim lawful le_prop (λ l. l.vocabulary.few_attributes)

  others : (p : ℕ) → p < 64 → wants g (suc p) ≡ false → get_or numbers p 0 ≡ cond (is_attribute g.vocabulary (suc p)) 0 255
  others p l h = of_grammar.others p l (wanted_at g p ∙ h) ∙ ap (λ b. cond b 0 255) (sym (named_at g p))

  at_given : (a : ℕ) → is_attribute g.vocabulary a ≡ true → given (attribute g.vocabulary a).kind ≡ true → number_of numbers a ≡ 0
  at_given zero named h = absurd (both_ways false refl named)
  at_given (suc p) named h =
      let within = ltb-true p (length all) (sym (named_at g p) ∙ named) in
      ap (λ n. get_or numbers n 0) (back p) ∙ others p (omega (arith, few)) (and_right _ _ (not_from_true _ h)) ∙ cond-true _ 0 255 named

  pub book_least : Least g ds (number_of numbers)
  book_least = least_known g ds (number_of numbers) lawful (λ l.
      least_of g (attribute_graph (place_graph (board_of g) all)) ds (same_wants g l) (arc_ends g l) (board_precedes g l) (board_barred g l) (number_of numbers) at_given
      (least_attributes (place_graph (board_of g) all) ds (number_of numbers)
      (subst (LeastOn (place_graph (board_of g) all) ds) (fun_ext (λ p. ap (λ n. get_or numbers n 0) (sym (back p)))) of_grammar.least)))

  pub book_numbered : Numbered g ds numbers greatest unnumbered
  book_numbered = record {
    valid = book_least.valid;
    others = others;
    none = of_grammar.none;
    set = λ p. of_grammar.set p ∙ ap (λ b. b && ltb (length ds) (get_or numbers p 0)) (wanted_at g p);
    upper = λ p wanted. of_grammar.upper p (wanted_at g p ∙ wanted);
    attained = ⊎_elim (λ e. inl e) (λ m. inr (m.0, sym (wanted_at g m.0) ∙ m.1, m.2, m.3)) of_grammar.attained;
  }
