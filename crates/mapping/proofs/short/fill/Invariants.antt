use Rattle.mapping.specs.Strides.{Along}
use Rattle.mapping.proofs.short.fill.Given as goal

abbrev pub invariant-loop-x : goal.invariant-loop-x
invariant-loop-x g l = let d = g.D.Direction in Along l.caps d.none (d.rows l.from l.to) l.m l.r l.x l.k (d.sent l.from l.to)
