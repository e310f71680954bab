use Rattle.std.proofs.Common.{◌∙◌, arith}
use Rattle.mapping.proofs.HandLaws.{dealing_starts, dealing_near, dealing_ready, dealing_second, dealing_third, dealing_round, carried_on}
use Rattle.mapping.proofs.rounds.put_column.Goals as goal

pub loop-from-init : goal.loop-from-init
loop-from-init c = dealing_starts c.requires

pub put_next-g-requires : goal.put_next-g-requires
put_next-g-requires c = dealing_ready c.loop-from.invariant (omega (arith, c.lone_from-last.ensures))

pub overflow_add-from : goal.overflow_add-from
overflow_add-from c = omega (arith, dealing_near c.loop-from.invariant)

pub put_next-g-requires-in-loop-from : goal.put_next-g-requires-in-loop-from
put_next-g-requires-in-loop-from c =
    let e = c.put_next-g.ensures in
    dealing_second c.loop-from.invariant (omega (arith, c.lone_from-last.ensures)) 0 e.0 e.1

pub overflow_add-from-in-loop-from : goal.overflow_add-from-in-loop-from
overflow_add-from-in-loop-from c = omega (arith, dealing_near c.loop-from.invariant)

pub put_next-g-requires-in-loop-from-2 : goal.put_next-g-requires-in-loop-from-2
put_next-g-requires-in-loop-from-2 c =
    let e = c.put_next-g.ensures in
    let f = c.put_next-g-in-loop-from.ensures in
    dealing_third c.loop-from.invariant (omega (arith, c.lone_from-last.ensures)) 0 e.0 e.1 f.0 f.1

pub loop-from-smaller : goal.loop-from-smaller
loop-from-smaller c = omega (arith, c.wrapping_add_usize-from.ensures, dealing_near c.loop-from.invariant)

pub loop-from-preserved : goal.loop-from-preserved
loop-from-preserved c =
    let e = c.put_next-g.ensures in
    let f = c.put_next-g-in-loop-from.ensures in
    let g = c.put_next-g-in-loop-from-2.ensures in
    let o = c.loop-from.invariant in
    dealing_round o (omega (arith, c.lone_from-last.ensures)) 0 e.0 e.1 f.0 f.1 g.0 g.1 (omega (arith, c.wrapping_add_usize-from.ensures, dealing_near o))

pub put_ones-requires : goal.put_ones-requires
put_ones-requires c = c.loop-from.invariant.facing

pub shape_of-frame : goal.shape_of-frame
shape_of-frame c = c.put_ones.ensures.1.long ∙ c.loop-from.invariant.carried.long

pub returns : goal.returns
returns c =
    let e = c.put_ones.ensures in
    let o = c.loop-from.invariant in
    (omega (arith, e.0, o.ahead), carried_on o.carried e.1)
