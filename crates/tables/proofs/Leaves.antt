-- Chains of records that own no others, and chains whose items make up a list.
use Rattle.std.proofs.Common.{◌≡◌, ℕ, ◌≤◌, Bool, List, [], ◌∷◌, ◌++◌, map, length, Ok, Result, sym, refl, ap, ◌∙◌}
use Rattle.std.specs.List.{AllByRecursion}
use Rattle.std.proofs.lemmas.List.{append_assoc, append-nil, map-id}
use Rattle.refusal.specs.declared.Refusal.{Refusal}
use Rattle.tables.specs.declared.record.Record.{Record}
use Rattle.tables.specs.Chains.{Reading, along}
use Rattle.tables.specs.Tables.{Chain, joined}
use Rattle.tables.proofs.Outcomes.{same_value}
use Rattle.grammar.proofs.Marks.{reach, Fresh}
use Rattle.tables.proofs.Readings.{gathered, Held, Took, Sound, Complete, chain_read, chain_goes}

-- what is gathered, where each item adds one element
module _ {X Y : Type 0} (place : X → ℕ) (rest : X → List ℕ) (P : List Y → X → Type 0) (f : X → Y) where
  abbrev pub push : List Y → X → List Y
  push b x = b ++ f x ∷ []

  pub gathered_list : (xs : List X) (b : List Y) → gathered place rest P push xs b ≡ b ++ map f xs
  gathered_list [] b = sym (append-nil b)
  gathered_list (x ∷ xs) b = gathered_list xs (push b x) ∙ append_assoc b (f x ∷ []) (map f xs)

module _ {X Y : Type 0} (place : X → ℕ) (rest : X → List ℕ) (Q : X → Type 0) (next : Y → X → Y) where
  pub all_from_held : (xs : List X) (b : Y) → Held place rest (λ b x. Q x) next xs b → AllByRecursion Q xs
  all_from_held [] b h = tt
  all_from_held (x ∷ xs) b h = (h.0, all_from_held xs (next b x) h.1)

  pub held_from_all : (xs : List X) (b : Y) → AllByRecursion Q xs → Held place rest (λ b x. Q x) next xs b
  held_from_all [] b h = tt
  held_from_all (x ∷ xs) b h = (h.0, held_from_all xs (next b x) h.1)

abbrev pub itself : ℕ → ℕ
itself p = p

abbrev pub nothing : ℕ → List ℕ
nothing p = []

joined_single : (ps : List ℕ) → joined (map (λ p. p ∷ []) ps) ≡ ps
joined_single [] = refl
joined_single (p ∷ ps) = ap (λ l. p ∷ l) (joined_single ps)

module _ {B : Type 0} (P : B → ℕ → Type 0) (next : B → ℕ → B) where
  pub leaf_took : (p : ℕ) (b : B) (s : List Bool) (b' : B) (s' : List Bool) → P b p → ◌≡◌ {A = Result (B × List Bool) Refusal} (Ok (next b p, s)) (Ok (b', s')) → Took itself nothing P next p b s b' s'
  leaf_took p b s b' s' h e =
      record { item = p; at = refl; holds = h; fresh = tt; gives = sym (ap (λ y. y.0) (same_value e)); marks = sym (ap (λ y. y.1) (same_value e)) }

  pub record Leaves (bytes : List ℕ) (room : ℕ) (b : B) (index : ℕ) (s : List Bool) (b' : B) (s' : List Bool) : Type 0 where
    pub places : List ℕ
    pub chain : Chain bytes index places
    pub few : length places ≤ room
    pub holds : Held itself nothing P next places b
    pub fresh : Fresh places s
    pub gives : b' ≡ gathered itself nothing P next places b
    pub marks : s' ≡ reach places s

  module _ (bytes : List ℕ) (small : length bytes ≤ 49152) (step : B → Record → Reading B) where
    pub leaves_read : Sound itself nothing P next bytes small step → (room : ℕ) (b : B) (holder index : ℕ) (s : List Bool) (b' : B) (s' : List Bool)
        → along bytes step room b holder index s ≡ Ok (b', s') → Leaves bytes room b index s b' s'
    leaves_read sound room b holder index s b' s' e =
        let w = chain_read itself nothing P next bytes small step sound room b holder index s b' s' e in
        record {
          places = w.items;
          chain = rw map-id at w.chain;
          few = w.few;
          holds = w.holds;
          fresh = rw joined_single at w.fresh;
          gives = w.gives;
          marks = rw joined_single at w.marks;
        }

    pub leaves_go : Complete itself nothing P next bytes small step → (ps : List ℕ) (room : ℕ) (b : B) (holder index : ℕ) (s : List Bool)
        → Chain bytes index ps → length ps ≤ room → Held itself nothing P next ps b → Fresh ps s
        → along bytes step room b holder index s ≡ Ok (gathered itself nothing P next ps b, reach ps s)
    leaves_go complete ps room b holder index s c few held fresh =
        let g = chain_goes itself nothing P next bytes small step complete ps room b holder index s (rw map-id c) few held (rw joined_single fresh) in
        rw joined_single at g
