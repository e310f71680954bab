use Prim.Native.Nat.{◌+◌, ◌≤◌}
use Rattle.pattern.specs.Run.{Copied}
use Rattle.pattern.proofs.runs.copy_run.Given as goal

abbrev pub invariant-loop-done : goal.invariant-loop-done
invariant-loop-done l = (l.done ≤ l.count + 7) × Copied l.src l.initial.dst l.dst l.j l.k l.done
