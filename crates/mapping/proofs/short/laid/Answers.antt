use Rattle.std.proofs.Common.{arith}
use Rattle.mapping.proofs.WalkLaws.{along_starts, standing_starts, standing_next, standing_settled}
use Rattle.mapping.proofs.short.laid.Goals as goal

pub start-m-requires : goal.start-m-requires
start-m-requires g c = let p = c.requires in omega (arith, p.0.bits, p.1)

pub loop-m-init : goal.loop-m-init
loop-m-init g c = standing_starts c.start-m.ensures c.requires.0

pub stretch-r-requires : goal.stretch-r-requires
stretch-r-requires g c = (c.loop-m.invariant.mark, omega arith)

pub fill-k-requires : goal.fill-k-requires
fill-k-requires g c = along_starts c.loop-m.invariant c.stretch-r.ensures

pub onward-m-requires : goal.onward-m-requires
onward-m-requires g c = let a = c.fill-k.ensures in (a.leg, a.bit)

pub loop-m-smaller : goal.loop-m-smaller
loop-m-smaller g c = c.onward-m.ensures.nearer

pub loop-m-preserved : goal.loop-m-preserved
loop-m-preserved g c = standing_next c.fill-k.ensures c.onward-m.ensures

pub returns : goal.returns
returns g c = standing_settled c.loop-m.invariant (omega arith)
