use Rattle.std.proofs.Common.{sym, arith}
use lib.ListN.{get_or-eq_default}
use Rattle.mapping.proofs.pairs.share.Goals as goal

pub returns : goal.returns
returns c = (sym (get_or-eq_default c.args.caps.now 0 c.if-p-caps.false), omega arith)
