-- From tests on attributes to the relations of a grammar.
use Rattle.std.proofs.Common.{◌≡◌, ℕ, ◌<◌, ◌≤◌, Bool, true, false, ◌&&◌, eqb, List, [], ◌∷◌, length, Decides, sym, refl, ap, ◌∙◌, subst, ap₂, inl, inr, ⊎_elim, arith}
use Rattle.std.proofs.lemmas.Bool.{both_ways, cases_Bool, cases_lt, and_parts, and_from, or_cases, or_left, or_right, not-true, not_from_false}
use Rattle.std.proofs.lemmas.Bool.Decides.{Decides-and, Decides-eqb, Decides-like}
use Rattle.plans.specs.declared.Direction.{Direction}
use Rattle.grammar.specs.declared.production.Occurrence.{Occurrence}
use Rattle.grammar.specs.Members.{◌∈◌}
use Rattle.grammar.specs.Grammar.{Rule, Production, Grammar, attribute, is_attribute, given}
use Rattle.grammar.specs.Lawful.{Lawful}
use Rattle.grammar.specs.Arcs.{Arc, Precedes, Barred, ahead}
use Rattle.grammar.specs.Numberings.{wants, direction, Valid, Least}
use Rattle.grammar.proofs.Bits.{ahead_decides}
use Rattle.grammar.proofs.Wants.{arc_source_wants, arc_target_wants}
use Rattle.numbering.specs.Graph.{Graph, ValidOn, LeastOn}
use Rattle.numbering.specs.Graph.{Arc as Edge}
use Rattle.numbering.specs.GrammarGraph.{some_of, arc_where, graph_of}

-- in a lawful grammar arcs run between attributes that want numbers
pub arc_ends : (g : Grammar) → Lawful g → (a b : ℕ) → Precedes g a b → (wants g a ≡ true) × (wants g b ≡ true)
arc_ends g lawful a b precedes = (arc_source_wants g lawful a b precedes, arc_target_wants g lawful a b precedes)

-- A graph on the attributes of a grammar whose tests decide the grammar's relations has the same least numberings.
module _ (g : Grammar) (t : Graph) (ds : List Direction)
    (same : (a : ℕ) → t.wants a ≡ wants g a)
    (ends : (a b : ℕ) → Precedes g a b → (wants g a ≡ true) × (wants g b ≡ true))
    (arcs : (a b : ℕ) → wants g a ≡ true → wants g b ≡ true → Decides (t.precedes a b) (Precedes g a b))
    (bars : (d : Direction) (a b : ℕ) → wants g a ≡ true → wants g b ≡ true → Decides (t.barred d a b) (Barred g d a b)) where
  edge_precedes : (a b : ℕ) → Edge t a b → Precedes g a b
  edge_precedes a b edge = (arcs a b (sym (same a) ∙ edge.source) (sym (same b) ∙ edge.target)).0 edge.arc

  edge_of : (a b : ℕ) → Precedes g a b → Edge t a b
  edge_of a b precedes =
      let e = ends a b precedes in
      record { source = same a ∙ e.0; target = same b ∙ e.1; arc = (arcs a b e.0 e.1).1 precedes }

  valid_on : (w : ℕ → ℕ) → Valid g ds w → ValidOn t ds w
  valid_on w valid = record {
    starts = λ a h. valid.from_one a (sym (same a) ∙ h);
    rises = λ a b edge. valid.rises a b (edge_precedes a b edge);
    clear = λ a b edge l e. ⊎_elim
        (λ (barred : t.barred (direction ds (w b)) a b ≡ true).
        absurd (valid.clear a b (edge_precedes a b edge) l e ((bars (direction ds (w b)) a b (sym (same a) ∙ edge.source) (sym (same b) ∙ edge.target)).0 barred)))
        (λ (free : t.barred (direction ds (w b)) a b ≡ false). free)
        (cases_Bool (t.barred (direction ds (w b)) a b));
  }

  pub least_of : (v : ℕ → ℕ) → ((a : ℕ) → is_attribute g.vocabulary a ≡ true → given (attribute g.vocabulary a).kind ≡ true → v a ≡ 0) → LeastOn t ds v → Least g ds v
  least_of v at_given h = record {
    valid = valid;
    least = below;
    none = λ b wanted past w valid_w. ⊎_elim (λ (l : length ds < w b). l) (λ (l : w b ≤ length ds). absurd (omega (arith, below w valid_w b wanted l))) (cases_lt (length ds) (w b));
    some = λ b wanted none. none v valid;
  }
    where
      valid : Valid g ds v
      valid = record {
        at_given = at_given;
        from_one = λ a wanted. h.valid.starts a (same a ∙ wanted);
        rises = λ a b precedes. h.valid.rises a b (edge_of a b precedes);
        clear = λ a b precedes l e barred.
            let edge = edge_of a b precedes in
            let wanted = ends a b precedes in
            both_ways _ (h.valid.clear a b edge l e) ((bars (direction ds (v b)) a b wanted.0 wanted.1).1 barred);
      }

      below : (w : ℕ → ℕ) → Valid g ds w → (b : ℕ) → wants g b ≡ true → w b ≤ length ds → v b ≤ w b
      below w valid_w b wanted = h.least w (valid_on w valid_w) b (same b ∙ wanted)

-- some member of a list passes a test exactly when one has what the test decides
some_decides : {X : Type 0} (test : X → Bool) (P : X → Type 0) → ((x : X) → Decides (test x) (P x)) → (xs : List X) → Decides (some_of test xs) ((x : X) × (x ∈ xs) × P x)
some_decides test P each [] = ((λ h. absurd (both_ways false refl h)), (λ m. absurd m.1))
some_decides {X = X} test P each (x ∷ xs) = (
  (λ h. ⊎_elim
      (λ (e : test x ≡ true). (x, inl refl, (each x).0 e))
      (λ (e : some_of test xs ≡ true). let m = (some_decides test P each xs).0 e in (m.0, inr m.1, m.2))
      (or_cases (test x) (some_of test xs) h)),
  (λ m. ⊎_elim
      (λ (e : m.0 ≡ x). or_left (test x) (some_of test xs) ((each x).1 (subst P e m.2)))
      (λ (e : m.0 ∈ xs). or_right (test x) (some_of test xs) ((some_decides test P each xs).1 (m.0, e, m.2)))
      m.1),
)

module _ (test : ℕ → ℕ → Bool) (g : Grammar) (a b : ℕ) where
  -- an argument, a rule and a production as the tests look for them
  abbrev Takes : Rule → Occurrence → Type 0
  Takes r o = (o.attribute ≡ a) × (test o.position r.target.position ≡ true)

  abbrev Sets : Rule → Type 0
  Sets r = (r.target.attribute ≡ b) × ((o : Occurrence) × (o ∈ r.arguments) × Takes r o)

  abbrev Has : Production → Type 0
  Has p = (r : Rule) × (r ∈ p.rules) × Sets r

  abbrev Found : Type 0
  Found = (p : Production) × (p ∈ g.productions) × Has p

  takes_decides : (r : Rule) (o : Occurrence) → Decides (eqb o.attribute a && test o.position r.target.position) (Takes r o)
  takes_decides r o = Decides-and _ _ (Decides-eqb o.attribute a) ((λ h. h), (λ h. h))

  sets_decides : (r : Rule) → Decides (eqb r.target.attribute b && some_of (λ (o : Occurrence). eqb o.attribute a && test o.position r.target.position) r.arguments) (Sets r)
  sets_decides r = Decides-and _ _ (Decides-eqb r.target.attribute b) (some_decides _ (Takes r) (takes_decides r) r.arguments)

  found_decides : Decides (some_of (λ (p : Production). some_of (λ (r : Rule). eqb r.target.attribute b && some_of (λ (o : Occurrence). eqb o.attribute a && test o.position r.target.position) r.arguments) p.rules) g.productions) Found
  found_decides = some_decides _ Has (λ p. some_decides _ Sets sets_decides p.rules) g.productions

  -- an arc whose positions pass the test
  abbrev Passing : Type 0
  Passing = (j : ℕ) × (k : ℕ) × Arc g a b j k × (test j k ≡ true)

  arc_found : given (attribute g.vocabulary a).kind ≡ false → Found → Passing
  arc_found not_given f =
      let r = f.2.0 in
      let sets = f.2.2 in
      let o = sets.1.0 in
      let takes = sets.1.2 in (
        o.position,
        r.target.position,
        record {
          production = f.0;
          in_grammar = f.1;
          rule = r;
          in_production = f.2.1;
          argument = o;
          in_rule = sets.1.1;
          takes = ap (λ n. record { position = o.position; attribute = n }) takes.0;
          sets = ap (λ n. record { position = r.target.position; attribute = n }) sets.0;
          not_given = not_given;
        },
        takes.1,
      )

  found_arc : Passing → Found
  found_arc m =
      let arc = m.2 in (
        arc.production,
        arc.in_grammar,
        (
          arc.rule,
          arc.in_production,
          (
            ap (λ (o : Occurrence). o.attribute) arc.sets,
            (
              arc.argument,
              arc.in_rule,
              (
                ap (λ (o : Occurrence). o.attribute) arc.takes,
                ap₂ test (ap (λ (o : Occurrence). o.position) arc.takes) (ap (λ (o : Occurrence). o.position) arc.sets) ∙ m.3,
              ),
            ),
          ),
        ),
      )

  arc_where_decides : Decides (arc_where test g a b) Passing
  arc_where_decides = (
    (λ h. let parts = and_parts _ _ h in arc_found (not-true _ parts.0) (found_decides.0 parts.1)),
    (λ m. and_from _ _ (not_from_false _ m.2.not_given) (found_decides.1 (found_arc m))),
  )

-- the tests of a grammar's graph decide precedence and bars
pub precedes_decides : (g : Grammar) (a b : ℕ) → Decides ((graph_of g).precedes a b) (Precedes g a b)
precedes_decides g a b = Decides-like _ (λ m. (m.0, m.1, m.2)) (λ m. (m.0, m.1, m.2, refl)) (arc_where_decides (λ j k. true) g a b)

pub barred_decides : (g : Grammar) (d : Direction) (a b : ℕ) → Decides ((graph_of g).barred d a b) (Barred g d a b)
barred_decides g d a b = Decides-like _ (λ m. (m.0, m.1, m.2, (ahead_decides d m.0 m.1).0 m.3)) (λ m. (m.0, m.1, m.2, (ahead_decides d m.0 m.1).1 m.3)) (arc_where_decides (ahead d) g a b)
