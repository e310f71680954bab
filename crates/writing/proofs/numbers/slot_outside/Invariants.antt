use mathlib.Core.Path.{◌≡◌}
use mathlib.Core.Bool.{false}
use Prim.Native.Nat.{◌≤◌}
use lib.Dec.{ltb}
use Rattle.laws.specs.Sums.{any_to}
use Rattle.sheet.specs.Counts.{most_capacity}
use Rattle.sheet.specs.Fields.{capacity_of}
use Rattle.writing.proofs.numbers.slot_outside.Given as goal

abbrev pub invariant-loop-p : goal.invariant-loop-p
invariant-loop-p l = (l.p ≤ l.n) × (any_to (λ k. ltb most_capacity (capacity_of l.fields l.t k)) l.p ≡ false)
