use Rattle.mapping.specs.Strides.{ahead, Standing}
use Rattle.mapping.proofs.short.laid.Given as goal

abbrev pub invariant-loop-m : goal.invariant-loop-m
invariant-loop-m g l = let d = g.D.Direction in Standing l.caps d.none (d.rows l.from l.to) l.m (d.sent l.from l.to)

abbrev pub decreases-loop-m : goal.decreases-loop-m
decreases-loop-m g l = ahead l.caps l.m
