use Rattle.std.proofs.Common.{arith}
use Rattle.interleaving.proofs.DirectionLaws.{one_inside}
use Rattle.mapping.proofs.WalkLaws.{base_fits, along_room, along_bit, along_place, along_fits, along_ends}
use Rattle.mapping.proofs.AlongLaws.{filled}
use Rattle.mapping.proofs.short.fill.Goals as goal

pub loop-x-init : goal.loop-x-init
loop-x-init g c = c.requires

pub spot-requires : goal.spot-requires
spot-requires g c = let a = c.loop-x.invariant in (along_room a (omega arith), base_fits a.leg)

pub one-requires : goal.one-requires
one-requires g c =
    let o = c.loop-x in
    one_inside g.met.D.Direction.directed c.args.from.now o.to (along_bit o.invariant (omega arith)) (along_place o.invariant (omega arith) c.spot.ensures.1)

pub overflow_add-k : goal.overflow_add-k
overflow_add-k g c = omega (arith, along_fits c.loop-x.invariant (omega arith))

pub loop-x-preserved : goal.loop-x-preserved
loop-x-preserved g c =
    filled g.met.D.Direction.directed c.args.from.now c.loop-x.to c.one.new.to c.loop-x.invariant (omega arith) _ c.spot.ensures.0 c.one.ensures

pub returns : goal.returns
returns g c = along_ends c.loop-x.invariant (omega arith)
