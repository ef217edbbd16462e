use Rattle.std.proofs.Common.{◌≡◌, ◌+◌, ◌<◌, ◌≤◌, [], ◌∷◌, ◌++◌, length, is_ok, vec_items, vec_len, ap, inr, arith}
use Rattle.std.proofs.ResultArms.{chosen}
use Rattle.std.proofs.lemmas.Result.{err_from_is_err_and}
use Rattle.tables.proofs.Along.{ended, halted, passed, stopped, more}
use Rattle.loading.proofs.Gathering.{attribute_passed, attribute_bad, attribute_more}
use Rattle.loading.proofs.symbols.read_attributes.Goals as goal
use Rattle.loading.proofs.symbols.read_attributes.Goals.{then-len-before-eq-MOST_OF_ONE_SYMBOL-via-then-len-before-eq-MOST_OF_ONE_SYMBOL, then-len-before-eq-MOST_OF_ONE_SYMBOL-via-else-len-before-eq-MOST_OF_ONE_SYMBOL+then-len-eq-MOST_ATTRIBUTES}

pub returns-in_err-found : goal.returns-in_err-found
returns-in_err-found c =
    let p = err_from_is_err_and c.from_residual.result c.from_residual.ensures.1 in
    rw (p.1, p.2) (record { few = tt; more = tt; value = inr (halted c.attributes.invariant.3 c.in_err-found.ensures.value) })

pub returns-then-len-before-eq-MOST_OF_ONE_SYMBOL : goal.returns-then-len-before-eq-MOST_OF_ONE_SYMBOL
returns-then-len-before-eq-MOST_OF_ONE_SYMBOL c =
    let long = c.attributes.attributes.ok.0 in
    record {
      few = tt;
      more = tt;
      value = elim c.then-len-before-eq-MOST_OF_ONE_SYMBOL.branch [
        | then-len-before-eq-MOST_OF_ONE_SYMBOL-via-then-len-before-eq-MOST_OF_ONE_SYMBOL w ↦
            inr (passed c.attributes.invariant.3 c.in_ok-found.ensures.value c.in-Some.is (omega arith))
        | then-len-before-eq-MOST_OF_ONE_SYMBOL-via-else-len-before-eq-MOST_OF_ONE_SYMBOL+then-len-eq-MOST_ATTRIBUTES w ↦
            let full : 64 ≤ length (vec_items c.attributes.attributes) = omega arith in
            inr (stopped c.attributes.invariant.3 c.in_ok-found.ensures.value c.in-Some.is (omega arith)
            (attribute_passed c.args.table.now.bytes.now c.args.owner.number c.args.owner.kind c.args.owner.starts (vec_items c.attributes.attributes) c.in-Some.found c.follow.new.reached full))
      ];
    }

pub returns-in_default-attribute_kind : goal.returns-in_default-attribute_kind
returns-in_default-attribute_kind c =
    let long = c.attributes.attributes.ok.0 in
    let less : length (vec_items c.attributes.attributes) < 64 = omega arith in
    record {
      few = tt;
      more = tt;
      value = inr (stopped c.attributes.invariant.3 c.in_ok-found.ensures.value c.in-Some.is (omega arith)
          (attribute_bad c.args.table.now.bytes.now c.args.owner.number c.args.owner.kind c.args.owner.starts (vec_items c.attributes.attributes) c.in-Some.found c.follow.new.reached less
          c.in_default-attribute_kind.ensures));
    }

pub attributes-preserved : goal.attributes-preserved
attributes-preserved c =
    let ok = ap is_ok c.in_ok-push.was in
    let long = c.attributes.attributes.ok.0 in
    let less : length (vec_items c.attributes.attributes) < 64 = omega arith in
    let pushed : vec_items c.push.new.self ≡ vec_items c.attributes.attributes ++ record { symbol = c.args.owner.number; kind = c.in-Some-attribute_kind.kind } ∷ [] = chosen _ _ _ _ c.push.ensures.items ok in
    let one : vec_len c.push.new.self ≡ vec_len c.attributes.attributes + 1 = chosen _ _ _ _ c.push.ensures.len ok in (
      omega arith,
      omega arith,
      omega arith,
      rw pushed (more c.attributes.invariant.3 c.in_ok-found.ensures.value c.in-Some.is (omega arith)
          (attribute_more c.args.table.now.bytes.now c.args.owner.number c.args.owner.kind c.args.owner.starts (vec_items c.attributes.attributes) c.in-Some.found c.follow.new.reached less
          c.in-Some-attribute_kind.kind c.in-Some-attribute_kind.ensures) (omega arith) c.next_link-link.ensures),
    )

pub returns : goal.returns
returns c = record {
  few = c.attributes.invariant.0;
  more = omega arith;
  value = ended c.attributes.invariant.3 c.in_ok-found.ensures.value c.in_default.is;
}
