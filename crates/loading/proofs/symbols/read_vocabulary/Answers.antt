use Rattle.std.proofs.Common.{◌≡◌, suc, ◌+◌, ◌-◌, length, is_ok, vec_items, vec_len, refl, ap, ◌∙◌, inl, inr, arith, rules}
use Rattle.std.proofs.ResultArms.{chosen}
use Rattle.std.proofs.lemmas.Result.{err_from_is_err_and}
use Rattle.tables.proofs.Along.{ended, halted, passed, stopped, more}
use Rattle.loading.proofs.Gathering.{symbol_bad, symbol_refused, symbol_more, same_symbol}
use Rattle.loading.proofs.symbols.read_vocabulary.Goals as goal

pub returns-in_err-found : goal.returns-in_err-found
returns-in_err-found c =
    let p = err_from_is_err_and c.from_residual.result c.from_residual.ensures.1 in
    rw (p.1, p.2) (record { start = tt; few = tt; value = inr (halted c.symbols.invariant.2 c.in_err-found.ensures.value) })

pub returns-then-len-eq-MOST_SYMBOLS : goal.returns-then-len-eq-MOST_SYMBOLS
returns-then-len-eq-MOST_SYMBOLS c =
    record { start = tt; few = tt; value = inr (passed c.symbols.invariant.2 c.in_ok-found.ensures.value c.in-Some.is (omega arith)) }

pub returns-in_default-try_from : goal.returns-in_default-try_from
returns-in_default-try_from c =
    record {
      start = tt;
      few = tt;
      value = inr (stopped c.symbols.invariant.2 c.in_ok-found.ensures.value c.in-Some.is (omega arith)
          (symbol_bad c.args.table.now.bytes.now c.args.start _ c.in-Some.found c.follow.new.reached (search rules)));
    }

pub returns-in_err-read_attributes : goal.returns-in_err-read_attributes
returns-in_err-read_attributes c =
    let p = err_from_is_err_and c.from_residual-in_err-read_attributes.result c.from_residual-in_err-read_attributes.ensures.1 in
    let number : c.len-in-Some.result + 1 ≡ suc (length (vec_items c.symbols.symbols)) = omega (arith, c.symbols.symbols.ok.0, c.len-in-Some.ensures) in
    rw (p.1, p.2) (record {
      start = tt;
      few = tt;
      value = elim c.in_err-read_attributes.ensures.value [
        | inl h ↦ inl h
        | inr h ↦ inr (stopped c.symbols.invariant.2 c.in_ok-found.ensures.value c.in-Some.is (omega arith)
            (symbol_refused c.args.table.now.bytes.now c.args.start _ c.in-Some.found c.follow.new.reached
            c.in-Ok.kind (c.len-in-Some.result + 1) _ (search rules) number refl _ h))
      ];
    })

pub symbols-preserved : goal.symbols-preserved
symbols-preserved c =
    let ok = ap is_ok c.in_ok-push.was in
    let number : c.len-in-Some.result + 1 ≡ suc (length (vec_items c.symbols.symbols)) = omega (arith, c.symbols.symbols.ok.0, c.len-in-Some.ensures) in
    let first : c.len-in-Some-2.result + 1 ≡ suc (length (vec_items c.symbols.attributes)) = omega (arith, c.symbols.attributes.ok.0, c.len-in-Some-2.ensures) in
    let count : c.len-in-Some-3.result + 1 - (c.len-in-Some-2.result + 1) ≡ length (vec_items c.read_attributes.new.attributes) - length (vec_items c.symbols.attributes) =
    omega (arith, c.symbols.attributes.ok.0, c.read_attributes.new.attributes.ok.0, c.len-in-Some-2.ensures, c.len-in-Some-3.ensures) in
    let one : vec_len c.push.new.self ≡ vec_len c.symbols.symbols + 1 = chosen _ _ _ _ c.push.ensures.len ok in
    let pushed = chosen _ _ _ _ c.push.ensures.items ok ∙ same_symbol (vec_items c.symbols.symbols) c.in-Ok.kind _ _ _ _ first count in (
      omega arith,
      c.in_ok-read_attributes.ensures.few,
      rw pushed (more c.symbols.invariant.2 c.in_ok-found.ensures.value c.in-Some.is (omega arith)
          (symbol_more c.args.table.now.bytes.now c.args.start _ c.in-Some.found c.follow.new.reached
          c.in-Ok.kind (c.len-in-Some.result + 1) _ (search rules) number refl _ _ c.in_ok-read_attributes.ensures.value) one c.next_link-link.ensures),
    )

pub returns : goal.returns
returns c = record {
  start = refl;
  few = c.symbols.invariant.1;
  value = ended c.symbols.invariant.2 c.in_ok-found.ensures.value c.in_default.is;
}
