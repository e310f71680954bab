use mathlib.Core.Path.{sym}
use native.Mathlib.Omega.{arith}
use Rattle.pattern.specs.Closed.{count}
use Rattle.pattern.proofs.SegmentLaws.{sent_same, sent_less, sent_added}
use Rattle.joining.proofs.hearing.sent_before.Goals.{Else-m-eq0}
use Rattle.joining.proofs.hearing.sent_before.Goals as goal

pub returns-then-m-eq0 : goal.returns-then-m-eq0
returns-then-m-eq0 c = let a = c.args in sym (sent_same a.d.less a.d.size a.n a.e a.bit c.if-m-eq0.true)

pub returns-then-d : goal.returns-then-d
unfolding count
returns-then-d c = let a = c.args in rw c.if-d.true (sym (sent_less a.d.size a.n a.e a.bit (omega arith)))

pub returns-else-d : goal.returns-else-d
unfolding count
returns-else-d c = let a = c.args in rw c.if-d.false (sym (sent_added a.d.size a.n a.e a.bit (omega arith)))
