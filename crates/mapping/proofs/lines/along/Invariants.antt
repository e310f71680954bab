use Rattle.std.proofs.Common.{◌≡◌, ◌-◌, ◌<◌, ◌≤◌, length}
use Rattle.interleaving.specs.Second.{read_before}
use Rattle.mapping.specs.Lines.{index_on, spot_on, copied, Walked}
use Rattle.mapping.proofs.LineLaws.{Moving}
use Rattle.mapping.proofs.lines.along.Given as goal

abbrev pub invariant-loop-w-2 : goal.invariant-loop-w-2
invariant-loop-w-2 g l =
    let d = g.D.Direction in
    Moving d.seen d.made d.reads d.writes l.turns.n (length (d.sent l.from l.fn.to)) l.at l.l l.way l.t l.last d.none l.from l.initial.w.i l.initial.to l.w l.to

abbrev pub decreases-loop-w-2 : goal.decreases-loop-w-2
decreases-loop-w-2 g l = l.last - l.w.k

abbrev pub invariant-loop-w : goal.invariant-loop-w
invariant-loop-w g l =
    let d = g.D.Direction in
    Walked l.l l.at l.w
    × (d.made l.to ≡ copied d.none (λ i. d.reads (index_on l.at l.l i) (spot_on l.l i)) (λ i. d.writes (index_on l.at l.l i) (spot_on l.l i)) (d.seen l.from) l.w.i (d.made l.initial.to))
    × (l.t < 30)
    × (read_before l.turns.n l.t ≤ l.w.k)

abbrev pub decreases-loop-w : goal.decreases-loop-w
decreases-loop-w g l = l.end - l.w.k
