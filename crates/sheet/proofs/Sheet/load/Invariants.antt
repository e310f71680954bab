use mathlib.Core.Path.{◌≡◌}
use Prim.Native.Nat.{◌*◌, ◌≤◌}
use Rattle.sheet.specs.Numbers.{whole_load}
use Rattle.sheet.proofs.Sheet.load.Given as goal

abbrev pub invariant-loop-t : goal.invariant-loop-t
invariant-loop-t l = (l.t ≤ l.t-end) × (l.empty ≡ (whole_load l.self.phchs l.self.caps l.t).empty) × (l.sum ≡ (whole_load l.self.phchs l.self.caps l.t).sum) × (l.sum ≤ 1048560 * l.t)
