use mathlib.Core.Path.{◌≡◌}
use mathlib.Core.Bool.{false}
use Prim.Native.Nat.{◌+◌, ◌*◌, ◌-◌, ◌≤◌}
use lib.ListN.{length, get_or}
use Rattle.pattern.proofs.LeftLaws.{Sending}
use Rattle.pattern.proofs.repeat.Given as goal

abbrev pub invariant-loop-s-2 : goal.invariant-loop-s-2
invariant-loop-s-2 l = (l.bit ≡ get_or l.src l.s.j 0) × (l.s.e ≤ 2 * l.m + 2 * l.n) × (l.s.j ≡ l.initial.s.j) × Sending false l.m l.n l.from l.step l.src l.start l.initial.dst l.dst l.s.e l.s.k l.s.j

abbrev pub decreases-loop-s-2 : goal.decreases-loop-s-2
decreases-loop-s-2 l = 2 * l.m + 1 - l.s.e

abbrev pub invariant-loop-s : goal.invariant-loop-s
invariant-loop-s l = (l.s.e ≤ 2 * l.m + 2 * l.n) × Sending false l.m l.n l.from l.step l.src l.start l.initial.dst l.dst l.s.e l.s.k l.s.j

abbrev pub decreases-loop-s : goal.decreases-loop-s
decreases-loop-s l = length l.src - l.s.j
