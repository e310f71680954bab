use Rattle.laws.specs.Above.{NoneAbove}
use Rattle.frame.proofs.checking.most.Given as goal

abbrev pub invariant-loop-x : goal.invariant-loop-x
invariant-loop-x l = NoneAbove l.bytes l.x-index l.m
