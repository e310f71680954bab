use mathlib.Core.Path.{◌≡◌}
use Prim.Native.Nat.{◌*◌, ◌/◌, ◌≤◌}
use lib.ListN.{get_or}
use Rattle.matching.proofs.ShareLaws.{filled_to}
use Rattle.matching.proofs.shares.cuts.Given as goal

abbrev pub invariant-loop-i : goal.invariant-loop-i
invariant-loop-i l = (l.i ≤ l.n) × (l.z ≡ filled_to (λ k. l.d * get_or l.parts k 0 / l.all) l.i)
