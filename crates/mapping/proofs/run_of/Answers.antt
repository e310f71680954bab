use Rattle.std.proofs.Common.{eq-eqb, ne_eqb}
use Rattle.mapping.specs.Mapping.{in_runs}
use Rattle.mapping.proofs.run_of.Goals as goal

pub returns-then-p-eq0 : goal.returns-then-p-eq0
unfolding in_runs
returns-then-p-eq0 c = let k = c.requires in (rw (eq-eqb c.args.p 0 c.if-p-eq0.true), k.first, k.low)

pub returns-else-p-eq0 : goal.returns-else-p-eq0
unfolding in_runs
returns-else-p-eq0 c = let k = c.requires in (rw (ne_eqb c.args.p 0 c.if-p-eq0.false), k.other, k.little)
