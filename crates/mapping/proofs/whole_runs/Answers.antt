use Rattle.std.proofs.Common.{sym, div-one}
use Rattle.mapping.proofs.whole_runs.Goals as goal

pub returns-then-run-eq1 : goal.returns-then-run-eq1
returns-then-run-eq1 c = rw c.if-run-eq1.true (sym (div-one c.args.x))
