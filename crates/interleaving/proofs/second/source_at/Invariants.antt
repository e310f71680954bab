use Prim.Native.Nat.{◌-◌}
use Rattle.interleaving.proofs.SecondWalk.{Passing}
use Rattle.interleaving.proofs.second.source_at.Given as goal

abbrev pub invariant-loop-h : goal.invariant-loop-h
invariant-loop-h l = Passing l.n l.j l.t l.c l.h l.left

abbrev pub decreases-loop-h : goal.decreases-loop-h
decreases-loop-h l = 30 - l.t
