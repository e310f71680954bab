use mathlib.Core.Path.{◌≡◌}
use Prim.Native.Nat.{◌*◌, ◌≤◌}
use Rattle.frame.specs.Frame.{slot_start}
use Rattle.naming.proofs.placing.slot_start.Given as goal

abbrev pub invariant-loop-k : goal.invariant-loop-k
invariant-loop-k l = (l.sum ≡ slot_start l.fields l.k) × (l.sum ≤ 1048560 * l.k)
