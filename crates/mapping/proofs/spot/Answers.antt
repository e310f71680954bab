use Rattle.std.proofs.Common.{arith}
use Rattle.mapping.proofs.PlaceLaws.{pos_up, pos_down}
use Rattle.mapping.proofs.spot.Goals as goal

pub returns-then-p-eq0 : goal.returns-then-p-eq0
returns-then-p-eq0 c = let a = c.args in omega (arith, pos_up a.u a.p a.x c.if-p-eq0.true)

pub returns-else-p-eq0 : goal.returns-else-p-eq0
returns-else-p-eq0 c = let a = c.args in omega (arith, pos_down a.u a.p a.x c.if-p-eq0.false)
