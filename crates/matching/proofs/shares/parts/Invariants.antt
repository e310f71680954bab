use mathlib.Core.Path.{◌≡◌}
use Prim.Native.Nat.{◌*◌, ◌≤◌}
use Rattle.laws.specs.Sums.{sum_to}
use Rattle.sheet.specs.Counts.{most_encoded, most_ratio}
use Rattle.matching.proofs.ShareLaws.{weights_in, filled_to}
use Rattle.matching.proofs.shares.parts.Given as goal

abbrev pub invariant-loop-i : goal.invariant-loop-i
invariant-loop-i l = (l.i ≤ l.i-end) × (l.part ≡ sum_to (weights_in l.fields.rm l.fields.e l.fields.tti) l.i) × (l.part ≤ most_ratio * most_encoded * l.i) × (l.all ≡ filled_to (sum_to (weights_in l.fields.rm l.fields.e l.fields.tti)) l.i)
