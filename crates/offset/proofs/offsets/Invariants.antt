use mathlib.Core.Path.{◌≡◌}
use Prim.Native.Nat.{ℕ, ◌*◌, ◌≤◌}
use lib.ListN.{get_or}
use Rattle.sheet.specs.Counts.{most_frames}
use Rattle.matching.specs.Signed.{signed_by}
use Rattle.offset.specs.Offset.{filled}
use Rattle.offset.proofs.offsets.Given as goal

abbrev pub invariant-loop-x : goal.invariant-loop-x
invariant-loop-x l = (l.s ≡ filled (signed_by l.q.less l.q.size) l.f l.x) × ((i : ℕ) → get_or l.s i 0 ≤ most_frames * 16384)
