use Rattle.std.proofs.Common.{refl, arith}
use Rattle.mapping.proofs.HandLaws.{dealing_starts, dealing_near, dealing_ready, dealing_next, dealing_ends}
use Rattle.mapping.proofs.rounds.put_ones.Goals as goal

pub loop-from-init : goal.loop-from-init
loop-from-init c = dealing_starts c.requires

pub put_next-g-requires : goal.put_next-g-requires
put_next-g-requires c = dealing_ready c.loop-from.invariant (omega arith)

pub overflow_add-from : goal.overflow_add-from
overflow_add-from c = omega (arith, dealing_near c.loop-from.invariant)

pub loop-from-preserved : goal.loop-from-preserved
loop-from-preserved c =
    let e = c.put_next-g.ensures in
    dealing_next c.loop-from.invariant (omega arith) 0 e.0 e.1 refl

pub shape_of-frame : goal.shape_of-frame
shape_of-frame c = c.loop-from.invariant.carried.long

pub returns : goal.returns
returns c = dealing_ends c.loop-from.invariant (omega arith)
