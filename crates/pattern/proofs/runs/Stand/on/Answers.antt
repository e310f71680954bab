use native.Mathlib.Omega.{arith}
use Rattle.pattern.proofs.RunLaws.{gone_none}
use Rattle.pattern.proofs.runs.Stand.on.Goals as goal

pub returns-then-step-eq1 : goal.returns-then-step-eq1
returns-then-step-eq1 c = record { run = c.send_run.ensures; beside = λ h. c.if-step-eq1.true }

pub returns : goal.returns
returns c =
    let a = c.args in
    let s = a.self in
    gone_none a.step a.q a.src.now a.dst.now s.e s.k s.j (omega arith)
