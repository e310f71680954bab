use Prim.Native.Nat.{◌+◌, ◌≤◌}
use Rattle.joining.specs.Joining.{Clips}
use Rattle.joining.proofs.filling.copy_run.Given as goal

abbrev pub invariant-loop-done : goal.invariant-loop-done
invariant-loop-done l = (l.done ≤ l.count + 3) × Clips l.values l.initial.segment l.segment l.k l.i l.done
