use Rattle.std.proofs.Common.{◌≡◌, true, sym, ◌≤◌, map, length, vec_items, refl, ap, ◌∙◌, subst, inr, arith}
use Rattle.std.proofs.lemmas.Result.{err_from_is_err_and}
use Rattle.grammar.specs.Grammar.{production_view}
use Rattle.grammar.specs.Books.{grammar_view, unnumbered}
use Rattle.tables.specs.Chains.{sized}
use Rattle.grammar.specs.Numberings.{Numbered}
use Rattle.tables.proofs.Accepting.{accepted_is_lawful}
use Rattle.loading.proofs.Whole.{acceptable, judged_refusal, symbols_refused, start_bad, productions_refused, all_read, fresh_book}
use Rattle.loading.proofs.loader.load.Goals as goal

pub returns-in_err-vocabulary : goal.returns-in_err-vocabulary
returns-in_err-vocabulary g c =
    let p = err_from_is_err_and c.from_residual-in_err-vocabulary.result c.from_residual-in_err-vocabulary.ensures.1 in
    let bytes = c.in_ok-table.table.bytes.now in
    let same = c.in_ok-table.ensures.ok.0 in
    let fits : true ≡ sized bytes = rw same (sym c.in_ok-table.ensures.ok.1) in
    let admitted = g.K.ValueKind.admitted c.args.kind.now in
    let told = symbols_refused bytes admitted c.head-head.result c.head-head.ensures fits _ c.in_err-vocabulary.ensures.value in
    rw (p.1, p.2, ← same) (record { reading = told; judges = judged_refusal bytes admitted _ told; numbers = tt; passes = tt })

pub returns-then-not-is_inner : goal.returns-then-not-is_inner
returns-then-not-is_inner g c =
    let bytes = c.in_ok-table.table.bytes.now in
    let same = c.in_ok-table.ensures.ok.0 in
    let fits : true ≡ sized bytes = rw same (sym c.in_ok-table.ensures.ok.1) in
    let admitted = g.K.ValueKind.admitted c.args.kind.now in
    let told = inr (start_bad bytes admitted c.head-head.result c.head-head.ensures fits c.in_ok-vocabulary.vocabulary c.in_ok-vocabulary.ensures.start c.read_vocabulary.new.reached c.in_ok-vocabulary.ensures.value c.if-not-is_inner.ensures) in
    rw (← same) (record { reading = told; judges = judged_refusal bytes admitted _ told; numbers = tt; passes = tt })

pub returns-in_err-productions : goal.returns-in_err-productions
returns-in_err-productions g c =
    let p = err_from_is_err_and c.from_residual-in_err-productions.result c.from_residual-in_err-productions.ensures.1 in
    let bytes = c.in_ok-table.table.bytes.now in
    let same = c.in_ok-table.ensures.ok.0 in
    let fits : true ≡ sized bytes = rw same (sym c.in_ok-table.ensures.ok.1) in
    let admitted = g.K.ValueKind.admitted c.args.kind.now in
    let told = productions_refused bytes admitted c.head-head.result c.head-head.ensures fits c.in_ok-vocabulary.vocabulary c.in_ok-vocabulary.ensures.start c.read_vocabulary.new.reached c.in_ok-vocabulary.ensures.value c.if-not-is_inner.ensures _ c.in_err-productions.ensures.value in
    rw (p.1, p.2, ← same) (record { reading = told; judges = judged_refusal bytes admitted _ told; numbers = tt; passes = tt })

pub invariant_of-result : goal.invariant_of-result
invariant_of-result g c =
    let bytes = c.in_ok-table.table.bytes.now in
    let same = c.in_ok-table.ensures.ok.0 in
    let fits : true ≡ sized bytes = rw same (sym c.in_ok-table.ensures.ok.1) in
    let admitted = g.K.ValueKind.admitted c.args.kind.now in
    let read = all_read bytes admitted c.head-head.result c.head-head.ensures fits c.in_ok-vocabulary.vocabulary c.in_ok-vocabulary.ensures.start c.read_vocabulary.new.reached c.in_ok-vocabulary.ensures.value c.if-not-is_inner.ensures
    (map production_view (vec_items c.in_ok-productions.productions)) c.read_productions.new.reached c.in_ok-productions.ensures.value in
    let lawful = (accepted_is_lawful bytes admitted _ read).1 in
    let fresh = fresh_book _ lawful c.unnumbered-numbers.result c.wanting-wanted.result c.as_slice.result.now c.as_slice-2.result.now c.as_slice.ensures.value c.as_slice-2.ensures.value c.unnumbered-numbers.ensures.whole c.wanting-wanted.ensures in
    record {
      lawful = ∣ lawful ∣₁;
      labelled = c.in_ok-productions.ensures.board;
      few = omega (arith, ap length c.new-directions.ensures);
      numbered = ∣ subst (λ ds. Numbered (grammar_view c.in_ok-vocabulary.vocabulary c.in_ok-productions.productions) ds c.unnumbered-numbers.result 0 c.wanting-wanted.result) (sym c.new-directions.ensures) fresh ∣₁;
    }

pub returns : goal.returns
returns g c =
    let bytes = c.in_ok-table.table.bytes.now in
    let same = c.in_ok-table.ensures.ok.0 in
    let fits : true ≡ sized bytes = rw same (sym c.in_ok-table.ensures.ok.1) in
    let admitted = g.K.ValueKind.admitted c.args.kind.now in
    let read = all_read bytes admitted c.head-head.result c.head-head.ensures fits c.in_ok-vocabulary.vocabulary c.in_ok-vocabulary.ensures.start c.read_vocabulary.new.reached c.in_ok-vocabulary.ensures.value c.if-not-is_inner.ensures
    (map production_view (vec_items c.in_ok-productions.productions)) c.read_productions.new.reached c.in_ok-productions.ensures.value in
    let few : length c.as_slice.result.now ≤ 64 = omega (arith, c.as_slice.ensures.len, c.in_ok-vocabulary.ensures.few) in
    record {
      reading = rw (← same) read;
      judges = rw (← same) (acceptable bytes admitted _ read);
      numbers = c.unnumbered-numbers.ensures.whole few ∙ ap unnumbered c.as_slice.ensures.value;
      passes = (refl, c.new-directions.ensures);
    }
