use Rattle.interleaving.proofs.SecondWalk.{Begins}
use Rattle.interleaving.proofs.second.Turns.of.Given as goal

abbrev pub invariant-loop-t : goal.invariant-loop-t
invariant-loop-t l = Begins l.n l.begins l.t
