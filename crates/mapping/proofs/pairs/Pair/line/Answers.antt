use Rattle.mapping.proofs.PairLaws.{traced_first, traced_second}
use Rattle.mapping.proofs.pairs.Pair.line.Goals as goal

pub returns-then-j-self : goal.returns-then-j-self
returns-then-j-self c = traced_first c.requires.0 c.args.j c.if-j-self.true

pub returns : goal.returns
returns c = traced_second c.requires.0 c.args.j c.if-j-self.false c.if-n-j.false
