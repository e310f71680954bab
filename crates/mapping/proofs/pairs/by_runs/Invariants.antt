use Rattle.std.proofs.Common.{length}
use Rattle.interleaving.specs.Second.{second_interleaved}
use Rattle.mapping.specs.Lines.{part_from}
use Rattle.mapping.proofs.LineLaws.{Stood, On, Over}
use Rattle.mapping.proofs.pairs.by_runs.Given as goal

abbrev pub invariant-loop-j : goal.invariant-loop-j
invariant-loop-j g l =
    let d = g.D.Direction in
    let n = length (d.sent l.from l.initial.to) in
    Stood l.t d.none (part_from l.at n (second_interleaved (d.rows l.from l.to))) (On l.t l.j) (d.sent l.from l.to)
    × Over l.at n (second_interleaved (d.rows l.from l.initial.to)) (second_interleaved (d.rows l.from l.to))
