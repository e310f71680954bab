use Rattle.std.proofs.Common.{◌≡◌, sym, arith}
use Rattle.mapping.specs.Mapping.{in_runs, at}
use Rattle.mapping.proofs.RunLaws.{had-own, had-other, had-fits}
use Rattle.mapping.proofs.had_by.Goals as goal

pub returns-then-q-p : goal.returns-then-q-p
returns-then-q-p c =
    let a = c.args in
    let e : a.q ≡ a.p = c.if-q-p.true in
    (rw e (sym (had-own (at a.caps.now) (in_runs a.runs.first a.runs.other) a.p a.turn)), omega arith)

pub overflow_mul-turns_had : goal.overflow_mul-turns_had
overflow_mul-turns_had c = omega (arith, had-fits c.run_of.result c.turns_had.result c.run_of.ensures.2 (omega arith))

pub returns : goal.returns
returns c =
    let a = c.args in
    let h = had-other (at a.caps.now) (in_runs a.runs.first a.runs.other) a.p a.turn a.q c.if-q-p.false in
    let e = c.capacity.ensures.0 in
    (rw (h, ← e, ← c.turns_had.ensures.0, ← c.run_of.ensures.0) c.min.ensures, omega arith)
