use mathlib.Core.Bool.{true}
use Prim.Native.Nat.{◌*◌, ◌-◌, ◌≤◌}
use lib.ListN.{length}
use Rattle.pattern.proofs.LeftLaws.{Sending}
use Rattle.pattern.proofs.puncture.Given as goal

abbrev pub invariant-loop-s : goal.invariant-loop-s
invariant-loop-s l = (l.s.e ≤ 2 * l.n) × (l.m ≤ l.n) × Sending true l.m l.n l.from l.step l.src l.start l.initial.dst l.dst l.s.e l.s.k l.s.j

abbrev pub decreases-loop-s : goal.decreases-loop-s
decreases-loop-s l = length l.src - l.s.j
