use Rattle.mapping.specs.Strides.{Least}
use Rattle.mapping.proofs.least.Given as goal

abbrev pub invariant-loop-cap : goal.invariant-loop-cap
invariant-loop-cap l = Least l.caps l.cap-index l.m
