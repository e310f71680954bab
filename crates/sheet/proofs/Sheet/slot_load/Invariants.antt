use mathlib.Core.Path.{◌≡◌}
use Prim.Native.Nat.{◌+◌, ◌*◌, ◌≤◌}
use lib.Dec.{eqb}
use lib.ListN.{get_or}
use Rattle.laws.specs.Sums.{sum_to, any_to}
use Rattle.sheet.proofs.Sheet.slot_load.Given as goal

abbrev pub invariant-loop-p : goal.invariant-loop-p
invariant-loop-p l = (l.p ≤ l.p-end) × (l.empty ≡ any_to (λ k. eqb (get_or l.self.caps (l.from + k) 0) 0) l.p) × (l.sum ≡ sum_to (λ k. get_or l.self.caps (l.from + k) 0) l.p) × (l.sum ≤ 65535 * l.p)
