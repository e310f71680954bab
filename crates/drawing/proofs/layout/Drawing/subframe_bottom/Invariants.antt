use Rattle.std.proofs.Common.{◌+◌, ◌*◌, ◌≤◌}
use Rattle.drawing.proofs.layout.Drawing.subframe_bottom.Given as goal

abbrev pub invariant-loop-m : goal.invariant-loop-m
invariant-loop-m l = l.bottom ≤ l.initial.bottom + 1400000 * l.m
