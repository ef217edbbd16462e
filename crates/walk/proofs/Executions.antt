-- Straight-line programs: what their execution fulfils, and that nothing else would.
use Rattle.std.proofs.Common.{◌≡◌, ℕ, ◌<◌, ◌⊎◌, List, [], ◌∷◌, ◌++◌, length, set, Some, None, Option, sym, refl, ap, ◌∙◌, subst, inl, inr, append-nil, length-set}
use Rattle.std.proofs.lemmas.Bool.{cases_eq}
use Rattle.std.specs.List.{slice_get}
use Rattle.refusal.specs.declared.Site.{Site}
use Rattle.grammar.specs.Members.{◌∈◌}
use Rattle.trees.proofs.Lists.{in_left}
use Rattle.walk.specs.Programs.{Store, Assignment, outcome, Fulfilled, AllFulfilled, Executes, execution, Leads, Ordered, Untouched, Within, Stopped, ExecutionFulfils, FulfilmentIsUnique, BeginningsLikewise, ExecutionStopsAtTheUndefined}
use Rattle.walk.proofs.Stores.{set_cell_holds, other_cells_stay, map_alike}

module _ {V : Type 0} where
  -- the same outcome where the arguments have the same values
  outcome_alike : (a : Assignment V) (s t : Store V) → ((c : ℕ) → c ∈ a.arguments → s c ≡ t c) → outcome s a ≡ outcome t a
  outcome_alike a s t h = ap a.value (map_alike s t a.arguments h)

  -- what is fulfilled stays so where neither the arguments nor the target change
  pub fulfilled_alike : (a : Assignment V) (s t : Store V) → ((c : ℕ) → c ∈ a.arguments → s c ≡ t c) → s a.target ≡ t a.target
      → Fulfilled s a → Fulfilled t a
  fulfilled_alike a s t h e f =
      record { value = f.value; defined = sym (outcome_alike a s t h) ∙ f.defined; held = sym e ∙ f.held }

  pub untouched_stay : (program : List (Assignment V)) (s t : List V) → Executes program s t → (c : ℕ) → Untouched program c → slice_get t c ≡ slice_get s c
  untouched_stay [] s t e c h = ap (λ cells. slice_get cells c) e
  untouched_stay (a ∷ rest) s t e c h =
      untouched_stay rest (set s a.target e.0) t e.2 c (λ b m. h b (inr m)) ∙ other_cells_stay s a.target c e.0 (h a (inl refl))

  pub execution_keeps_the_length : (program : List (Assignment V)) (s t : List V) → Executes program s t → length t ≡ length s
  execution_keeps_the_length [] s t e = ap length e
  execution_keeps_the_length (a ∷ rest) s t e = execution_keeps_the_length rest _ t e.2 ∙ length-set s a.target e.0

  -- the first assignment is fulfilled in the end: neither what it reads nor its target is set later
  first_fulfilled : (a : Assignment V) (rest : List (Assignment V)) (s t : List V) → Leads a rest → a.target < length s
      → Executes (a ∷ rest) s t → Fulfilled (slice_get t) a
  first_fulfilled a rest s t l w e = record {
    value = e.0;
    defined = outcome_alike a (slice_get t) (slice_get s) (λ c m. untouched_stay (a ∷ rest) s t e c (λ b. elim [ inl p ↦ rw p (l.own c m) | inr n ↦ l.reads b n c m ])) ∙ e.1;
    held = untouched_stay rest (set s a.target e.0) t e.2 a.target l.apart ∙ set_cell_holds s a.target e.0 w;
  }

  pub all_fulfilled : (program : List (Assignment V)) (s t : List V) → Ordered program → Within program (length s) → Executes program s t
      → AllFulfilled (slice_get t) program
  all_fulfilled [] s t o w e b m = absurd m
  all_fulfilled (a ∷ rest) s t o w e b (inl p) = rw p (first_fulfilled a rest s t o.0 (w a (inl refl)) e)
  all_fulfilled (a ∷ rest) s t o w e b (inr m) =
      all_fulfilled rest (set s a.target e.0) t o.1 (λ b' m'. simp length-set (w b' (inr m'))) e.2 b m

  -- one of the assignments has the cell as its target
  abbrev pub Touched : List (Assignment V) → ℕ → Type 0
  Touched program c = (b : Assignment V) × (b ∈ program) × (c ≡ b.target)

  touched_or_untouched : (program : List (Assignment V)) (c : ℕ) → Touched program c ⊎ Untouched program c
  touched_or_untouched [] c = inr (λ b m. absurd m)
  touched_or_untouched (a ∷ rest) c = elim (cases_eq c a.target) [
    | inl e ↦ inl (a, inl refl, e)
    | inr h ↦ elim (touched_or_untouched rest c) [
      | inl r ↦ inl (r.0, inr r.1, r.2)
      | inr u ↦ inr (λ b. elim [ inl p ↦ rw p h | inr m ↦ u b m ])
    ]
  ]

  -- two stores that fulfil an ordered program agree at its targets if they agree at each argument that is no target
  pub targets_agree : (program : List (Assignment V)) (s t : Store V) → Ordered program → AllFulfilled s program → AllFulfilled t program
      → ((a : Assignment V) → a ∈ program → (c : ℕ) → c ∈ a.arguments → Touched program c ⊎ (s c ≡ t c))
      → (a : Assignment V) → a ∈ program → s a.target ≡ t a.target
  targets_agree [] s t o f g r b m = absurd m
  targets_agree (a ∷ rest) s t o f g r b m =
      step (targets_agree rest s t o.1 (λ e n. f e (inr n)) (λ e n. g e (inr n)) (λ e n c i. known c (r e (inr n) c i)) b) m
    where
      read_alike : (c : ℕ) → c ∈ a.arguments → Touched (a ∷ rest) c ⊎ (s c ≡ t c) → s c ≡ t c
      read_alike c i (inl h) =
          absurd (elim h.1 [ inl e ↦ o.0.own c i (h.2 ∙ ap (λ b. b.target) e) | inr n ↦ o.0.reads h.0 n c i h.2 ])
      read_alike c i (inr e) = e

      first_alike : s a.target ≡ t a.target
      first_alike =
          let p = f a (inl refl) in
          let q = g a (inl refl) in
          let w = outcome_alike a s t (λ c i. read_alike c i (r a (inl refl) c i)) in
          cc

      known : (c : ℕ) → Touched (a ∷ rest) c ⊎ (s c ≡ t c) → Touched rest c ⊎ (s c ≡ t c)
      known c (inl h) =
          elim h.1
          [ inl e ↦ inr (let z : c ≡ a.target = h.2 ∙ ap (λ b. b.target) e in rw z first_alike) | inr n ↦ inl (h.0, n, h.2) ]
      known c (inr e) = inr e

      step : (b ∈ rest → s b.target ≡ t b.target) → b ∈ (a ∷ rest) → s b.target ≡ t b.target
      step ih (inl e) = rw e first_alike
      step ih (inr n) = ih n

pub ordered_leads : {V : Type 0} (before : List (Assignment V)) (a : Assignment V) (behind : List (Assignment V)) → Ordered (before ++ a ∷ behind) → Leads a behind
ordered_leads [] a behind o = o.0
ordered_leads (b ∷ before) a behind o = ordered_leads before a behind o.1

pub execution_fulfils : (V : Type 0) → ExecutionFulfils V
execution_fulfils V program o s t w e =
    (all_fulfilled program s t o w e, untouched_stay program s t e, execution_keeps_the_length program s t e)

pub fulfilment_is_unique : (V : Type 0) → FulfilmentIsUnique V
fulfilment_is_unique V program o s t f g same c = elim (touched_or_untouched program c) [
  | inl h ↦ rw h.2 (targets_agree program s t o f g
      (λ a m d i. elim (touched_or_untouched program d) [ inl k ↦ inl k | inr u ↦ inr (same d u) ]) h.0 h.1)
  | inr u ↦ same c u
]

beginning_is_ordered : {V : Type 0} (done left : List (Assignment V)) → Ordered (done ++ left) → Ordered done
beginning_is_ordered [] left o = tt
beginning_is_ordered (a ∷ done) left o = (
  record { own = o.0.own; reads = λ b m. o.0.reads b (in_left done left b m); apart = λ b m. o.0.apart b (in_left done left b m) },
  beginning_is_ordered done left o.1,
)

pub beginnings_likewise : (V : Type 0) → BeginningsLikewise V
beginnings_likewise V done left o =
    let first = beginning_is_ordered done left o in
    (first, execution_fulfils V done first, fulfilment_is_unique V done first)

pub execution_stops_at_the_undefined : (V : Type 0) → ExecutionStopsAtTheUndefined V
execution_stops_at_the_undefined V [] s =
    record { done = []; left = []; split = refl; executes = refl; whole = λ e. refl; stops = λ i e. cc }
execution_stops_at_the_undefined V (a ∷ rest) s = by_outcome (outcome (slice_get s) a) refl (λ v. execution_stops_at_the_undefined V rest (set s a.target v))
  where
    -- what the execution leaves, by the outcome of the first assignment
    left_by : Option V → List V × Option Site
    left_by o = elim o [ None ↦ (s, Some a.sets) | Some v ↦ execution rest (set s a.target v) ]

    by_outcome : (o : Option V) → outcome (slice_get s) a ≡ o
        → ((v : V) → Stopped rest (set s a.target v) (execution rest (set s a.target v)).0 (execution rest (set s a.target v)).1)
        → Stopped (a ∷ rest) s (left_by o).0 (left_by o).1
    by_outcome None e ih = record {
      done = [];
      left = a ∷ rest;
      split = refl;
      executes = refl;
      whole = λ p. cc;
      stops = λ i p. (a, rest, refl, cc, e);
    }
    by_outcome (Some v) e ih = record {
      done = a ∷ (ih v).done;
      left = (ih v).left;
      split = ap (λ l. a ∷ l) (ih v).split;
      executes = (v, e, (ih v).executes);
      whole = (ih v).whole;
      stops = (ih v).stops;
    }

-- an execution that does not stop is whole
pub whole_execution : {V : Type 0} (program : List (Assignment V)) (s : List V) → (execution program s).1 ≡ None → Executes program s (execution program s).0
whole_execution program s e =
    let stopped = execution_stops_at_the_undefined _ program s in
    let all : program ≡ stopped.done = stopped.split ∙ ap (λ left. stopped.done ++ left) (stopped.whole e) ∙ append-nil stopped.done in
    subst (λ done. Executes done s (execution program s).0) (sym all) stopped.executes
