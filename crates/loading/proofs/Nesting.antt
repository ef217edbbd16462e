-- One rule or production more, by what the code finds on the way.
use Rattle.std.proofs.Common.{◌≡◌, ℕ, ◌+◌, ◌<◌, ◌≤◌, Bool, true, false, cond, ◌⊎◌, List, [], map, Some, Ok, Err, Option, Result, sym, refl, ap, ◌∙◌, inl, inr, arith}
use Rattle.std.proofs.lemmas.Bool.{cond-true}
use Rattle.refusal.specs.declared.Refusal.{Refusal}
use Rattle.refusal.specs.declared.Refusal.TheVariants.{NoSuch, BadRule, OutOfMemory}
use Rattle.grammar.specs.declared.production.Occurrence.{Occurrence}
use Rattle.grammar.specs.declared.production.Rule.{Rule as RuleCode}
use Rattle.grammar.specs.Grammar.{Vocabulary, Rule, Production, rule_view, is_inner, occurs}
use Rattle.grammar.specs.Rules.{target_of}
use Rattle.tables.specs.declared.record.Link.{Link}
use Rattle.tables.specs.declared.record.Record.{Record}
use Rattle.tables.specs.Chains.{Reading, and_then, follow, along}
use Rattle.tables.proofs.Along.{Left, stopped}
use Rattle.tables.specs.Reading.{occurrence, position, argument, wants_rule, finished_rule, rule, finished_production, production}
use Rattle.loading.specs.Checks.{target_at}
use Rattle.loading.proofs.Finishing.{same_targets}

-- The target of a rule, by the rules before it.
module _ (bytes : List ℕ) (v : Vocabulary) (admitted : ℕ → ℕ → ℕ → Bool) (left : ℕ) (right : List ℕ) (rules : List RuleCode) (r : Record) (s : List Bool) where
  abbrev o : Occurrence
  o = occurrence r

  abbrev wanted : Bool
  wanted = wants_rule bytes v admitted (map rule_view rules) o

  -- what a rule's target has to be
  pub record Wanted (t : Occurrence) : Type 0 where
    pub names : t ≡ o
    pub occurring : occurs v left right o ≡ true
    pub wanting : wanted ≡ true

  same_answer : target_at v left right (map target_of rules) r ≡ cond (occurs v left right o) (cond wanted (Ok o) (Err (BadRule r.place))) (Err (NoSuch r.place))
  same_answer = rw (same_targets rules) refl

  pub target_wanted : (t : Occurrence) → target_at v left right (map target_of rules) r ≡ Ok t → Wanted t
  target_wanted t h = go (occurs v left right o) refl wanted refl (sym same_answer ∙ h)
    where
      go : (b : Bool) → occurs v left right o ≡ b → (c : Bool) → wanted ≡ c → cond b (cond c (Ok o) (Err (BadRule r.place))) (Err (NoSuch r.place)) ≡ Ok t → Wanted t
      go true p true q e = record { names = cc; occurring = p; wanting = q }
      go true p false q e = absurd (cc)
      go false p c q e = absurd (cc)

  pub target_refused : (d : Refusal) → target_at v left right (map target_of rules) r ≡ Err d → rule bytes v admitted left right (map rule_view rules) r s ≡ Err d
  target_refused d h = go (occurs v left right o) wanted _ (sym same_answer ∙ h)
    where
      go : (b c : Bool) (x : Result (List Rule × List Bool) Refusal) → cond b (cond c (Ok o) (Err (BadRule r.place))) (Err (NoSuch r.place)) ≡ Err d → cond b (cond c x (Err (BadRule r.place))) (Err (NoSuch r.place)) ≡ Err d
      go true true x e = absurd (cc)
      go true false x e = cc
      go false c x e = cc

  module _ (t : Occurrence) (w : Wanted t) where
    rule_is : rule bytes v admitted left right (map rule_view rules) r s ≡ and_then (along bytes (argument bytes v admitted left right) 8 [] r.place r.w3 s) (finished_rule bytes v admitted (map rule_view rules) r)
    rule_is = cond-true _ _ _ w.occurring ∙ cond-true _ _ _ w.wanting

    pub arguments_refused : (d : Refusal) → along bytes (argument bytes v admitted left right) 8 [] r.place r.w3 s ≡ Err d → rule bytes v admitted left right (map rule_view rules) r s ≡ Err d
    arguments_refused d h = rule_is ∙ ap (λ x. and_then x (finished_rule bytes v admitted (map rule_view rules) r)) h

    pub arguments_read : (arguments : List Occurrence) (s' : List Bool) (given : Result (List Rule × List Bool) Refusal)
        → along bytes (argument bytes v admitted left right) 8 [] r.place r.w3 s ≡ Ok (arguments, s')
        → finished_rule bytes v admitted (map rule_view rules) r arguments s' ≡ given
        → rule bytes v admitted left right (map rule_view rules) r s ≡ given
    arguments_read arguments s' given h f = rule_is ∙ ap (λ x. and_then x (finished_rule bytes v admitted (map rule_view rules) r)) h ∙ f

-- A production, from its right side on.
module _ (bytes : List ℕ) (v : Vocabulary) (admitted : ℕ → ℕ → ℕ → Bool) (before : List Production) (r : Record) (s : List Bool) where
  abbrev sides : Result (List ℕ × List Bool) Refusal
  sides = cond (is_inner v r.w1) (along bytes (position bytes v admitted) 8 [] r.place r.w2 s) (Err (NoSuch r.place))

  abbrev onwards : List ℕ → Reading (List Production)
  onwards right s' = and_then (along bytes (rule bytes v admitted r.w1 right) 4096 [] r.place r.w3 s') (finished_production bytes v admitted before r right)

  split : (b : Bool) (x : Result (List ℕ × List Bool) Refusal) → cond b (and_then x onwards) (Err (NoSuch r.place)) ≡ and_then (cond b x (Err (NoSuch r.place))) onwards
  split true x = refl
  split false x = refl

  production_is : production bytes v admitted before r s ≡ and_then sides onwards
  production_is = split (is_inner v r.w1) (along bytes (position bytes v admitted) 8 [] r.place r.w2 s)

  pub right_refused : (d : Refusal) → sides ≡ Err d → production bytes v admitted before r s ≡ Err d
  right_refused d h = production_is ∙ ap (λ x. and_then x onwards) h

  module _ (right : List ℕ) (s' : List Bool) (h : sides ≡ Ok (right, s')) where
    pub rules_refused : (d : Refusal) → along bytes (rule bytes v admitted r.w1 right) 4096 [] r.place r.w3 s' ≡ Err d → production bytes v admitted before r s ≡ Err d
    rules_refused d k = production_is ∙ ap (λ x. and_then x onwards) h ∙ ap (λ x. and_then x (finished_production bytes v admitted before r right)) k

    pub rules_read : (rules : List Rule) (s'' : List Bool) (given : Result (List Production × List Bool) Refusal)
        → along bytes (rule bytes v admitted r.w1 right) 4096 [] r.place r.w3 s' ≡ Ok (rules, s'')
        → finished_production bytes v admitted before r right rules s'' ≡ given
        → production bytes v admitted before r s ≡ given
    rules_read rules s'' given k f = production_is ∙ ap (λ x. and_then x onwards) h ∙ ap (λ x. and_then x (finished_production bytes v admitted before r right)) k ∙ f

-- The reading stands at a production whose right side is read: what its rules refuse, all refuses.
pub production_stops : {bytes : List ℕ} (v : Vocabulary) (admitted : ℕ → ℕ → ℕ → Bool) {before : List Production} {n : ℕ} {link : Link} {s : List Bool} {whole : Result (List Production × List Bool) Refusal}
    → Left bytes (production bytes v admitted) 128 n before link s whole
    → {r : Record} {s₁ : List Bool} {o : Option Record} → Ok (o, s₁) ≡ follow bytes link.holder link.index s → o ≡ Some r → n < 128
    → (right : List ℕ) (s₂ : List Bool) → sides bytes v admitted before r s₁ ≡ Ok (right, s₂)
    → {d : Refusal} → along bytes (rule bytes v admitted r.w1 right) 4096 [] r.place r.w3 s₂ ≡ Err d → whole ≡ Err d
production_stops {bytes} v admitted {before} left {r} {s₁} e is less right s₂ h {d} k =
    stopped left e is less (rules_refused bytes v admitted before r s₁ right s₂ h d k)

-- The reading stands at a rule whose target is found: what its arguments refuse, the rules refuse.
pub rule_stops : {bytes : List ℕ} (v : Vocabulary) (admitted : ℕ → ℕ → ℕ → Bool) (left : ℕ) (right : List ℕ) (rules : List RuleCode) {n : ℕ} {link : Link} {s : List Bool} {whole : Result (List Rule × List Bool) Refusal}
    → Left bytes (rule bytes v admitted left right) 4096 n (map rule_view rules) link s whole
    → {r : Record} {s₁ : List Bool} {o : Option Record} → Ok (o, s₁) ≡ follow bytes link.holder link.index s → o ≡ Some r → n < 4096
    → {t : Occurrence} → target_at v left right (map target_of rules) r ≡ Ok t
    → {d : Refusal} → along bytes (argument bytes v admitted left right) 8 [] r.place r.w3 s₁ ≡ Err d → whole ≡ Err d
rule_stops {bytes} v admitted left right rules stands {r} {s₁} e is less {t} h {d} k =
    stopped stands e is less (arguments_refused bytes v admitted left right rules r s₁ t (target_wanted bytes v admitted left right rules r s₁ t h) d k)

-- where a loop's fault comes out
module _ {A : Type 0} {f : Option Refusal} {d : Refusal} {whole : Result A Refusal} (is : f ≡ Some d) where
  pub told : {d' : Refusal} → f ≡ Some d' → whole ≡ Err d' → (d ≡ OutOfMemory) ⊎ (whole ≡ Err d)
  told q h = inr (cc)

  pub told_either : {d' : Refusal} → f ≡ Some d' → (d' ≡ OutOfMemory) ⊎ (whole ≡ Err d') → (d ≡ OutOfMemory) ⊎ (whole ≡ Err d)
  told_either q (inl h) = inl (cc)
  told_either q (inr h) = inr (cc)

-- Sums that a step needs, apart from all else that is known there.
module _ (n a limit : ℕ) (is : a ≡ n) where
  pub not_full : (a ≡ limit → ⊥) → n ≤ limit → n < limit
  not_full h l = omega arith

  pub full : a ≡ limit → limit ≤ n
  full h = omega arith

-- a record was reached, so there was one more to reach
pub room_left : (free free' found n : ℕ) → free' + found ≡ free → found ≡ 1 → free + n ≤ 4096 → n < 4096
room_left free free' found n e f l = omega arith
