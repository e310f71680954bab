use Rattle.mapping.proofs.PairLaws.{traced_last}
use Rattle.mapping.proofs.pairs.Pair.last_line.Goals as goal

pub returns : goal.returns
returns c = traced_last c.requires
