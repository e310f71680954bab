use Rattle.counters.proofs.CountLaws.{among_none, among-some}
use Rattle.counters.proofs.BitNumber.is_among.Goals as goal

pub returns-then-self-eq0 : goal.returns-then-self-eq0
returns-then-self-eq0 c = let a = c.args in among_none a.self.0 a.n c.if-self-eq0.true

pub returns-else-self-eq0 : goal.returns-else-self-eq0
returns-else-self-eq0 c = let a = c.args in among-some a.self.0 a.n c.if-self-eq0.false
