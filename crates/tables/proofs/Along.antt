-- A loop along a chain: what is left of the chain, from where the loop stands, gives what the whole gives.
use Rattle.std.proofs.Common.{◌≡◌, ℕ, suc, ◌+◌, ◌-◌, ◌<◌, ◌≤◌, Bool, List, Some, None, Ok, Err, Option, Result, sym, ap, ◌∙◌, arith}
use Rattle.tables.specs.declared.record.Link.{Link}
use Rattle.tables.specs.declared.record.Record.{Record}
use Rattle.refusal.specs.declared.Refusal.{Refusal}
use Rattle.refusal.specs.declared.Refusal.TheVariants.{CountPassed}
use Rattle.tables.specs.Chains.{Reading, and_then, follow, met, along}

-- n records of at most `limit` are taken in, and b is what they gave
pub record Left {B : Type 0} (bytes : List ℕ) (step : B → Record → Reading B) (limit n : ℕ) (b : B) (link : Link) (s : List Bool) (whole : Result (B × List Bool) Refusal) : Type 0 where
  pub gives : along bytes step (limit - n) b link.holder link.index s ≡ whole

module _ {B : Type 0} {bytes : List ℕ} {step : B → Record → Reading B} {limit n : ℕ} {b : B} {link : Link} {s : List Bool} {whole : Result (B × List Bool) Refusal}
    (left : Left bytes step limit n b link s whole) where
  went : (a : Result (Option Record × List Bool) Refusal) → a ≡ follow bytes link.holder link.index s → whole ≡ and_then a (met bytes step (limit - n) b)
  unfolding along
  went a e = sym left.gives ∙ ap (λ x. and_then x (met bytes step (limit - n) b)) (sym e)

  pub halted : {d : Refusal} → Err d ≡ follow bytes link.holder link.index s → whole ≡ Err d
  halted e = went _ e

  module _ {o : Option Record} {s' : List Bool} (e : Ok (o, s') ≡ follow bytes link.holder link.index s) where
    pub ended : o ≡ None → whole ≡ Ok (b, s')
    unfolding met
    ended is = went _ e ∙ ap (λ x. met bytes step (limit - n) b x s') is

    module _ {r : Record} (is : o ≡ Some r) where
      pub passed : limit ≤ n → whole ≡ Err (CountPassed r.place)
      unfolding met
      passed l =
          let z : limit - n ≡ 0 = omega arith in
          went _ e ∙ ap (λ x. met bytes step (limit - n) b x s') is ∙ ap (λ m. met bytes step m b (Some r) s') z

      module _ (l : n < limit) where
        -- one record more, whatever the step gave
        taken : whole ≡ and_then (step b r s') (λ b' s''. along bytes step (limit - (n + 1)) b' r.place r.next s'')
        unfolding met along
        taken =
            let z : limit - n ≡ suc (limit - (n + 1)) = omega arith in
            went _ e ∙ ap (λ x. met bytes step (limit - n) b x s') is ∙ ap (λ m. met bytes step m b (Some r) s') z

        pub stopped : {d : Refusal} → step b r s' ≡ Err d → whole ≡ Err d
        stopped h = taken ∙ ap (λ x. and_then x (λ b' s''. along bytes step (limit - (n + 1)) b' r.place r.next s'')) h

        pub more : {b' : B} {s'' : List Bool} {m : ℕ} {onward : Link} → step b r s' ≡ Ok (b', s'') → m ≡ n + 1 → onward ≡ record { holder = r.place; index = r.next }
            → Left bytes step limit m b' onward s'' whole
        more {b'} {s''} h j k = record { gives = rw (j, k) (sym (taken ∙ ap (λ x. and_then x (λ c t. along bytes step (limit - (n + 1)) c r.place r.next t)) h)) }

-- a loop that was left by a fault was not left without one
pub not_both : {f : Option Refusal} {d : Refusal} → f ≡ None → f ≡ Some d → ⊥
not_both p q = cc
