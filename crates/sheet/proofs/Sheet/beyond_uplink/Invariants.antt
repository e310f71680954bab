use mathlib.Core.Path.{◌≡◌}
use mathlib.Core.Bool.{false}
use Rattle.sheet.specs.Numbers.{some_beyond}
use Rattle.sheet.proofs.Sheet.beyond_uplink.Given as goal

abbrev pub invariant-loop-t : goal.invariant-loop-t
invariant-loop-t l = some_beyond l.self.phchs l.self.logs l.t ≡ false
