use Rattle.std.proofs.Common.{arith}
use Rattle.interleaving.proofs.DirectionLaws.{direction_laws, one_inside}
use Rattle.mapping.proofs.lines.one.Goals as goal

-- as of the seat, so of the index: an edit that takes one for the other is refused where what is copied differs
pub one-requires : goal.one-requires
one-requires g c =
    let b = g.met.D.Direction.directed in
    let a = c.args in
    let z = (direction_laws b).sizes a.from.now a.to.now in
    let p = c.requires in
    one_inside b a.from.now a.to.now (omega (arith, z.0, p.seat, p.index.1)) (omega (arith, z.1, p.place))
