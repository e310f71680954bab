use mathlib.Core.Path.{◌≡◌}
use mathlib.Core.Bool.{false}
use Prim.Native.Nat.{◌≤◌}
use Rattle.laws.specs.Sums.{any_to}
use Rattle.writing.specs.Numbers.{slot_outside}
use Rattle.writing.proofs.numbers.slots_outside.Given as goal

abbrev pub invariant-loop-t : goal.invariant-loop-t
invariant-loop-t l = (l.t ≤ l.t-end) × (any_to (slot_outside l.fields) l.t ≡ false)
