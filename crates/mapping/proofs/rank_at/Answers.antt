use Rattle.std.proofs.Common.{sym, arith}
use Rattle.mapping.proofs.PlaceLaws.{filled-up, filled-down}
use Rattle.mapping.proofs.rank_at.Goals as goal

pub returns-then-p-eq0 : goal.returns-then-p-eq0
returns-then-p-eq0 c = let a = c.args in (sym (filled-up a.u a.p a.place c.if-p-eq0.true), omega arith)

pub returns-else-p-eq0 : goal.returns-else-p-eq0
returns-else-p-eq0 c = let a = c.args in (sym (filled-down a.u a.p a.place c.if-p-eq0.false), omega arith)
