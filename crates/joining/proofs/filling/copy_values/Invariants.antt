use Rattle.std.proofs.Common.{◌≡◌, ℕ, ◌<◌, get_or}
use lib.Ieee.{nan}
use Rattle.joining.specs.Joining.{clipped}
use Rattle.joining.proofs.filling.copy_values.Given as goal

abbrev pub invariant-loop-i : goal.invariant-loop-i
invariant-loop-i l = (k : ℕ) → k < l.i → get_or l.segment k nan ≡ clipped (get_or l.values k nan)
