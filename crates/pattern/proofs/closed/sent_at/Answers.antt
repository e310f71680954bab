use Rattle.pattern.proofs.StoodLaws.{stood_same}
use Rattle.pattern.proofs.closed.sent_at.Goals as goal

pub returns-then-d-eq0 : goal.returns-then-d-eq0
returns-then-d-eq0 c =
    let a = c.args in
    stood_same a.d.less a.d.size a.n a.w a.e a.v c.requires.0 c.if-d-eq0.true c.requires.1
