use Rattle.std.proofs.Common.{◌+◌, refl, ◌∙◌, arith}
use Rattle.interleaving.proofs.DirectionLaws.{direction_laws}
use Rattle.interleaving.proofs.WholeLaws.{going_starts, going_down, going_on, copied-long, copied_on}
use Rattle.interleaving.proofs.whole.column.Goals as goal

pub loop-seat-init : goal.loop-seat-init
loop-seat-init g c = going_starts c.requires.0 ((direction_laws g.met.D.Direction.directed).made_long c.args.to.now ∙ c.requires.1)

pub loop-seat-preserved : goal.loop-seat-preserved
loop-seat-preserved g c =
    let d = g.met.D.Direction.directed in
    let from = c.args.from.now in
    let o = c.loop-seat in
    let first = copied_on d from o.to o.invariant (omega arith) c.one.ensures refl refl in
    let second = copied_on d from _ first (omega arith) {m = o.k + 2} {i = o.seat + 60} c.one-in-loop-seat.ensures (omega arith) (omega arith) in
    let third = copied_on d from _ second (omega arith) {m = o.k + 3} {i = o.seat + 90} c.one-in-loop-seat-2.ensures (omega arith) (omega arith) in
    copied_on d from _ third (omega arith) c.one-in-loop-seat-3.ensures (omega arith) (omega arith)

pub ones-requires : goal.ones-requires
ones-requires g c = let o = c.loop-seat in (going_down o.invariant, copied-long g.met.D.Direction.directed c.args.from.now o.to o.invariant)

pub returns : goal.returns
returns g c = going_on c.loop-seat.invariant c.ones.ensures
