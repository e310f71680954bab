use Rattle.std.proofs.Common.{◌-◌, length}
use Rattle.interleaving.proofs.WholeLaws.{Going}
use Rattle.interleaving.proofs.whole.column.Given as goal

abbrev pub invariant-loop-seat : goal.invariant-loop-seat
invariant-loop-seat g l =
    let d = g.D.Direction in
    Going d.none (length l.from) (d.seen l.from) (d.made l.initial.to) l.c l.begin (d.made l.to) l.k l.seat

abbrev pub decreases-loop-seat : goal.decreases-loop-seat
decreases-loop-seat g l = length l.from - l.seat
