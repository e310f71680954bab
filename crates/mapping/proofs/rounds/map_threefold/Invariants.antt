use Rattle.std.proofs.Common.{◌≡◌, ◌≤◌, length}
use Rattle.interleaving.specs.Second.{second_interleaved, read_before}
use Rattle.mapping.specs.Rounds.{Carried}
use Rattle.mapping.proofs.rounds.map_threefold.Given as goal

abbrev pub invariant-loop-c : goal.invariant-loop-c
invariant-loop-c l = (l.c-index ≤ 30) × (l.h.k ≡ read_before (length l.bits) l.c-index) × Carried l.caps (second_interleaved l.bits) l.initial.h l.initial.frame l.h l.frame
