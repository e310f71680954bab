use Rattle.std.proofs.Common.{length}
use Rattle.laws.proofs.SumLaws.{Summed}
use Rattle.mapping.specs.Mapping.{in_runs, at}
use Rattle.mapping.specs.Runs.{had_in}
use Rattle.mapping.proofs.bit_at.Given as goal

abbrev pub invariant-loop-q : goal.invariant-loop-q
invariant-loop-q l = Summed (had_in (at l.caps) (in_runs l.runs.first l.runs.other) l.p l.turn) 65535 (length l.caps) l.sum l.q
