use Rattle.std.proofs.Common.{arith}
use Rattle.mapping.proofs.StrideLaws.{turns_past, turns-ahead}
use Rattle.mapping.proofs.turns_had.Goals as goal

pub returns-then-q-p : goal.returns-then-q-p
returns-then-q-p c = let a = c.args in omega (arith, turns_past a.p a.x a.q c.if-q-p.true)

pub returns-else-q-p : goal.returns-else-q-p
returns-else-q-p c = let a = c.args in omega (arith, turns-ahead a.p a.x a.q c.if-q-p.false)
