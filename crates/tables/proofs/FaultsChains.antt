-- Along a chain: every record that is marked stands at a spot that was read, and what a step refuses is a fault.
use Rattle.std.proofs.Common.{◌≡◌, ℕ, zero, suc, ◌+◌, ◌*◌, ◌<◌, ◌≤◌, Bool, true, false, eqb, ltb, List, [], ◌∷◌, ◌++◌, length, get_or, set, Some, None, Option, sym, refl, ◌∙◌, inl, inr, ⊎_elim, arith}
use Rattle.std.proofs.lemmas.List.{length-set, length_push, get_or-set_other}
use Rattle.std.proofs.lemmas.Bool.{cases_eq, ltb-true, ltb-false, eqb-true, eqb-false, or_cases, or_parts}
use Rattle.refusal.specs.declared.Refusal.TheVariants.{CountPassed}
use Rattle.tables.specs.declared.record.Record.{Record}
use Rattle.tables.specs.Chains.{word, record_at, Reading, lost, follow, free, met, along}
use Rattle.tables.specs.Tables.{Chain}
use Rattle.tables.specs.Faults.{Names, Onward, last, Link, Nth, Spot, Leads, At, address, Before, Earlier, WrongIndex, Fault}
use Rattle.tables.proofs.Free.{free_reach}
use Rattle.tables.proofs.FaultsComes.{Comes, comes_then, comes_cond}

-- the marked records stand at spots before the next one, and they are at least so many
pub record Marks (bytes : List ℕ) (next : Spot) (count : ℕ) (s : List Bool) : Type 0 where
  pub size : length s ≡ 4096
  pub left : free s + count ≤ 4096
  pub spots : (m : ℕ) → get_or s m false ≡ true → Earlier bytes m next

-- what comes before one spot comes before the other
abbrev pub Passes : Spot → Spot → Type 0
Passes s t = (a : List ℕ) → Before a (address s) → Before a (address t)

pub earlier_onward : {bytes : List ℕ} {m : ℕ} (s t : Spot) → Passes s t → Earlier bytes m s → Earlier bytes m t
earlier_onward s t w e = record { other = e.other; stands = e.stands; before = w (address e.other) e.before }

pub marks_onward : {bytes : List ℕ} {m n : ℕ} {s : List Bool} (x y : Spot) → Passes x y → n ≤ m → Marks bytes x m s → Marks bytes y n s
marks_onward x y w l a = record { size = a.size; left = let h = a.left in omega arith; spots = λ m e. earlier_onward x y w (a.spots m e) }

pub marks_more : {bytes : List ℕ} {n : ℕ} {s : List Bool} (i : ℕ) (x y : Spot) → length bytes ≤ 49152 → Names bytes i → get_or s i false ≡ false → At bytes x i
    → Passes x y → Before (address x) (address y) → Marks bytes x n s → Marks bytes y (n + 1) (set s i true)
marks_more {s = s} i x y short here unmarked stands w new a =
    let size : length s ≡ 4096 = a.size in
    let within : i < length s = omega arith in
    record {
      size = length-set s i true ∙ size;
      left = let f = free_reach s i within unmarked in let h = a.left in omega arith;
      spots = λ m e. ⊎_elim
          (λ (same : m ≡ i). record { other = x; stands = rw same stands; before = new })
          (λ other. earlier_onward x y w (a.spots m (sym (get_or-set_other s i m true false other) ∙ e)))
          (cases_eq m i);
    }

-- one record more on the way
pub onward_more : (bytes : List ℕ) (index : ℕ) (ps : List ℕ) (i : ℕ) → Onward bytes index ps i → Names bytes i → Onward bytes index (ps ++ i ∷ []) (word bytes i 0)
onward_more bytes index [] i e h = (e, h, refl)
onward_more bytes index (p ∷ ps) i e h = (e.0, e.1, onward_more bytes (word bytes p 0) ps i e.2 h)

pub onward_end : (bytes : List ℕ) (index : ℕ) (ps : List ℕ) (i : ℕ) → Onward bytes index ps i → i ≡ 0 → Chain bytes index ps
onward_end bytes index [] i e z = e ∙ z
onward_end bytes index (p ∷ ps) i e z = (e.0, e.1.0, e.1.1, onward_end bytes (word bytes p 0) ps i e.2 z)

pub last_more : (owner : ℕ) (ps : List ℕ) (i : ℕ) → last owner (ps ++ i ∷ []) ≡ i
last_more owner [] i = refl
last_more owner (p ∷ ps) i = last_more p ps i

pub link_to : (bytes : List ℕ) (owner k : ℕ) (ps : List ℕ) (i : ℕ) → Onward bytes (word bytes owner k) ps i → Link bytes owner k (suc (length ps)) (last owner ps) i
link_to bytes owner k ps i e = record { before = ps; number = refl; holder = refl; leads = e }

pub nth_to : (bytes : List ℕ) (owner k : ℕ) (ps : List ℕ) (i : ℕ) → Onward bytes (word bytes owner k) ps i → Names bytes i → Nth bytes owner k (suc (length ps)) i
nth_to bytes owner k ps i e h = record { holder = last owner ps; link = link_to bytes owner k ps i e; here = h }

-- A chain that begins at word k of its owner, with its spots, and for each of its records the spot that is read next, if it is there; R says what was gathered.
module _ {B : Type 0} (bytes : List ℕ) (admitted : ℕ → ℕ → ℕ → Bool) (short : length bytes ≤ 49152)
    (step : B → Record → Reading B) (limit owner k base : ℕ)
    (spot inside : ℕ → Spot) (R : List ℕ → B → Type 0)
    (leads : (n h i : ℕ) → Link bytes owner k n h i → Leads bytes (spot n) h i)
    (passing : (n : ℕ) → Passes (spot (suc n)) (inside (suc n)))
    (new : (n : ℕ) → Before (address (spot (suc n))) (address (inside (suc n)))) where
  abbrev pub Ends : B → List Bool → Type 0
  Ends b s = (ps : List ℕ) × Chain bytes (word bytes owner k) ps × Marks bytes (spot (suc (length ps))) (base + length ps) s × R ps b

  abbrev pub Found : List ℕ → Option Record → List Bool → Type 0
  Found ps None s = Chain bytes (word bytes owner k) ps × Marks bytes (spot (suc (length ps))) (base + length ps) s
  Found ps (Some r) s = (i : ℕ) × (r ≡ record_at bytes i) × Onward bytes (word bytes owner k) ps i × Names bytes i × Marks bytes (inside (suc (length ps))) (base + suc (length ps)) s

  pub strayed : (ps : List ℕ) (s : List Bool) (i : ℕ) → Marks bytes (spot (suc (length ps))) (base + length ps) s → Onward bytes (word bytes owner k) ps i
      → (eqb i 0 ≡ false) → lost bytes i s ≡ true → WrongIndex bytes (last owner ps)
  strayed ps s i a on nz l = record {
    index = i;
    spot = spot (suc (length ps));
    leads = leads (suc (length ps)) (last owner ps) i (link_to bytes owner k ps i on);
    not_end = let z = eqb-false i 0 nz in omega arith;
    fault = ⊎_elim
        (λ past. inl (ltb-true (length bytes) (12 * i + 12) past))
        (λ marked. inr (a.spots i marked))
        (or_cases (ltb (length bytes) (12 * i + 12)) (get_or s i false) l);
  }

  pub followed : (ps : List ℕ) (s : List Bool) (i : ℕ) → Marks bytes (spot (suc (length ps))) (base + length ps) s → Onward bytes (word bytes owner k) ps i
      → Comes (Fault bytes admitted) (Found ps) (follow bytes (last owner ps) i s)
  followed ps s i a on =
      comes_cond (Fault bytes admitted) (Found ps) (eqb i 0) _ _
      (λ z. (onward_end bytes (word bytes owner k) ps i on (eqb-true i 0 z), a))
      (λ nz. comes_cond (Fault bytes admitted) (Found ps) (lost bytes i s) _ _
      (λ l. strayed ps s i a on nz l)
      (λ l. let parts = or_parts (ltb (length bytes) (12 * i + 12)) (get_or s i false) l in
      let z = eqb-false i 0 nz in
      let within = ltb-false (length bytes) (12 * i + 12) parts.0 in
      let here : Names bytes i = (omega arith, within) in
      let n = suc (length ps) in
      let stands : At bytes (spot n) i = (last owner ps, leads n (last owner ps) i (link_to bytes owner k ps i on), here) in
      let more = marks_more i (spot n) (inside n) short here parts.1 stands (passing (length ps)) (new (length ps)) a in
      (i, refl, on, here, marks_onward (inside n) (inside n) (λ t d. d) (omega arith) more)))

  -- what the step has to show of a record, and what is wrong where there is no room for it
  module _ (takes : (ps : List ℕ) (b : B) (s : List Bool) (i : ℕ) → Onward bytes (word bytes owner k) ps i → Names bytes i
      → Marks bytes (inside (suc (length ps))) (base + suc (length ps)) s → R ps b
      → Comes (Fault bytes admitted) (λ b' s'. Marks bytes (spot (suc (suc (length ps)))) (base + suc (length ps)) s' × R (ps ++ i ∷ []) b') (step b (record_at bytes i) s))
      (passes : (ps : List ℕ) (s : List Bool) (i : ℕ) → Onward bytes (word bytes owner k) ps i → Names bytes i
      → Marks bytes (inside (suc (length ps))) (base + suc (length ps)) s → length ps ≡ limit → Fault bytes admitted (CountPassed i)) where
    pub met_comes : (room : ℕ) (ps : List ℕ) (b : B) (o : Option Record) (s : List Bool) → length ps + room ≡ limit → Found ps o s → R ps b
        → Comes (Fault bytes admitted) Ends (met bytes step room b o s)
    unfolding met
    met_comes zero ps b None s l f h = (ps, f.0, f.1, h)
    met_comes (suc room) ps b None s l f h = (ps, f.0, f.1, h)
    met_comes zero ps b (Some r) s l f h = rw f.1 (passes ps s f.0 f.2 f.3 f.4 (omega arith))
    met_comes (suc room) ps b (Some r) s l f h =
        rw f.1 (
        let i = f.0 in
        let n = length_push ps i in
        comes_then (Fault bytes admitted) (λ b' s'. Marks bytes (spot (suc (suc (length ps)))) (base + suc (length ps)) s' × R (ps ++ i ∷ []) b') Ends (step b (record_at bytes i) s) _
        (takes ps b s i f.2 f.3 f.4 h)
        (λ b' s' g.
        let l' : length (ps ++ i ∷ []) ≡ suc (length ps) = omega arith in
        let a : Marks bytes (spot (suc (length (ps ++ i ∷ [])))) (base + length (ps ++ i ∷ [])) s' = rw l' g.0 in
        let e : last owner (ps ++ i ∷ []) ≡ i = last_more owner ps i in
        comes_then (Fault bytes admitted) (Found (ps ++ i ∷ [])) Ends (follow bytes i (word bytes i 0) s') (met bytes step room b')
        (rw e at (followed (ps ++ i ∷ []) s' (word bytes i 0) a (onward_more bytes (word bytes owner k) ps i f.2 f.3)))
        (λ o s'' found. met_comes room (ps ++ i ∷ []) b' o s'' (omega arith) found g.1)))

    pub along_comes : (b : B) (s : List Bool) → Marks bytes (spot 1) base s → R [] b → Comes (Fault bytes admitted) Ends (along bytes step limit b owner (word bytes owner k) s)
    unfolding along
    along_comes b s a h =
        comes_then (Fault bytes admitted) (Found []) Ends (follow bytes owner (word bytes owner k) s) (met bytes step limit b)
        (followed [] s (word bytes owner k) (marks_onward (spot 1) (spot 1) (λ t d. d) (omega arith) a) refl)
        (λ o s' found. met_comes limit [] b o s' (omega arith) found h)
