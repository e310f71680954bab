use Prim.Native.Nat.{◌*◌, ◌-◌}
use lib.ListN.{length}
use Rattle.interleaving.proofs.FinishWalk.{Settled, Laying}
use Rattle.interleaving.proofs.first.finish.Given as goal

abbrev pub invariant-loop-k : goal.invariant-loop-k
invariant-loop-k l = Laying l.part l.tti l.n (length l.initial.out) l.out l.s l.i l.k

abbrev pub decreases-loop-k : goal.decreases-loop-k
decreases-loop-k l = length l.initial.out - l.k

abbrev pub invariant-loop-s : goal.invariant-loop-s
invariant-loop-s l = Settled l.part l.tti l.n (length l.initial.out) l.out (l.s * l.n)
