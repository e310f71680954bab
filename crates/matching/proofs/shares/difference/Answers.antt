use native.Mathlib.Omega.{arith}
use Rattle.matching.proofs.ShareLaws.{change-less, change-more}
use Rattle.matching.proofs.shares.difference.Goals as goal

pub returns-then-v-n : goal.returns-then-v-n
returns-then-v-n c = (change-less c.args.v c.args.n c.if-v-n.true, λ b h k. omega arith)

pub returns : goal.returns
returns c = (change-more c.args.v c.args.n c.if-v-n.false, λ b h k. omega arith)
