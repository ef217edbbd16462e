-- The directions of the passes before this one are written.
use Rattle.std.proofs.Common.{◌≡◌, ◌-◌, take}
use Rattle.numbering.proofs.directions.directions_of.Given as goal

abbrev pub invariant-loop-pass : goal.invariant-loop-pass
invariant-loop-pass g l = l.directions ≡ take (l.pass - 1) (g.P.Plan.directions l.plan)
