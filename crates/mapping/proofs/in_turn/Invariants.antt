use Rattle.std.proofs.Common.{length}
use Rattle.interleaving.specs.Second.{second_interleaved}
use Rattle.mapping.specs.Strides.{ahead, Standing}
use Rattle.mapping.specs.Lines.{part_from}
use Rattle.mapping.proofs.LineLaws.{Over}
use Rattle.mapping.proofs.in_turn.Given as goal

abbrev pub invariant-loop-m : goal.invariant-loop-m
invariant-loop-m g l =
    let d = g.D.Direction in
    let n = length (d.sent l.from l.initial.to) in
    Standing l.caps d.none (part_from l.at n (second_interleaved (d.rows l.from l.to))) l.m (d.sent l.from l.to)
    × Over l.at n (second_interleaved (d.rows l.from l.initial.to)) (second_interleaved (d.rows l.from l.to))

abbrev pub decreases-loop-m : goal.decreases-loop-m
decreases-loop-m g l = ahead l.caps l.m
