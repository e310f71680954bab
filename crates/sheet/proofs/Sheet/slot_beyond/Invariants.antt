use mathlib.Core.Path.{◌≡◌}
use mathlib.Core.Bool.{false}
use Prim.Native.Nat.{◌≤◌}
use lib.Dec.{ltb}
use Rattle.laws.specs.Sums.{any_to}
use Rattle.sheet.specs.Counts.{most_log}
use Rattle.sheet.specs.Fields.{log_in}
use Rattle.sheet.proofs.Sheet.slot_beyond.Given as goal

abbrev pub invariant-loop-p : goal.invariant-loop-p
invariant-loop-p l = (l.p ≤ l.n) × (any_to (λ k. ltb most_log (log_in l.self.logs l.t k)) l.p ≡ false)
