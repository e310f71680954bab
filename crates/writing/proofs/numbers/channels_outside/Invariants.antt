use mathlib.Core.Path.{◌≡◌}
use mathlib.Core.Bool.{false}
use Prim.Native.Nat.{◌≤◌}
use Rattle.laws.specs.Sums.{any_to}
use Rattle.writing.specs.Numbers.{channel_outside}
use Rattle.writing.proofs.numbers.channels_outside.Given as goal

abbrev pub invariant-loop-i : goal.invariant-loop-i
invariant-loop-i l = (l.i ≤ l.i-end) × (any_to (channel_outside l.fields) l.i ≡ false)
