use Rattle.counters.proofs.CountLaws.{among_none, among-some}
use Rattle.counters.proofs.is_among.Goals as goal

pub returns-then-k-eq0 : goal.returns-then-k-eq0
returns-then-k-eq0 c = let a = c.args in among_none a.k a.n c.if-k-eq0.true

pub returns-else-k-eq0 : goal.returns-else-k-eq0
returns-else-k-eq0 c = let a = c.args in among-some a.k a.n c.if-k-eq0.false
