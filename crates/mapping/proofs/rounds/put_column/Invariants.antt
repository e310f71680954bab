use Rattle.std.proofs.Common.{◌-◌}
use Rattle.mapping.proofs.HandLaws.{Dealing}
use Rattle.mapping.proofs.rounds.put_column.Given as goal

abbrev pub invariant-loop-from : goal.invariant-loop-from
invariant-loop-from l = Dealing l.caps l.bits l.c l.initial.g l.initial.frame l.from l.g l.frame

abbrev pub decreases-loop-from : goal.decreases-loop-from
decreases-loop-from l = l.last - l.from
