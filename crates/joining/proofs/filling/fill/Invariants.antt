use Prim.Native.Nat.{◌-◌}
use lib.ListN.{length}
use Rattle.joining.proofs.FillLaws.{Filling}
use Rattle.joining.proofs.filling.fill.Given as goal

abbrev pub invariant-loop-i : goal.invariant-loop-i
invariant-loop-i l = Filling l.d.less l.d.size l.start l.values l.initial.segment l.segment l.e l.k l.i

abbrev pub decreases-loop-i : goal.decreases-loop-i
decreases-loop-i l = length l.initial.segment - l.i
