use mathlib.Core.Path.{◌≡◌}
use Prim.Native.Nat.{◌≤◌}
use Rattle.opening.proofs.OpenLaws.{sizes_to}
use Rattle.opening.proofs.sizes.Given as goal

abbrev pub invariant-loop-i : goal.invariant-loop-i
invariant-loop-i l = (l.i ≤ l.i-end) × (l.all ≡ sizes_to l.fields.e l.fields.tti l.i)
