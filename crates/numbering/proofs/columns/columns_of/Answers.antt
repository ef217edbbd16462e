-- Each turn fills one column more.
use Rattle.std.proofs.Common.{◌<◌, arith, length-set}
use Rattle.numbering.specs.Places.{marked}
use Rattle.numbering.proofs.Filling.{column_more}
use Rattle.numbering.proofs.columns.columns_of.Goals as goal

pub loop-place-preserved : goal.loop-place-preserved
loop-place-preserved c =
    let sets = c.loop-place.set-items in
    let here : c.loop-place.place < 64 = omega (arith, c.loop-place.invariant.0) in (
      simp length-set c.loop-place.invariant.0,
      column_more (marked c.args.arcs.now c.args.bit) sets c.loop-place.place c.column.result c.loop-place.invariant.0 here c.column.ensures c.loop-place.invariant.1,
    )
