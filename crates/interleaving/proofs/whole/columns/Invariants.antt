use Rattle.std.proofs.Common.{length}
use Rattle.interleaving.proofs.WholeLaws.{Columned}
use Rattle.interleaving.proofs.whole.columns.Given as goal

abbrev pub invariant-loop-c : goal.invariant-loop-c
invariant-loop-c g l =
    let d = g.D.Direction in
    Columned d.none (length l.from) (d.seen l.from) (d.made l.initial.to) (d.made l.to) l.c-index l.k
