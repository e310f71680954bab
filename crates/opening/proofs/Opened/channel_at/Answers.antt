use native.Mathlib.Omega.{arith}
use Rattle.opening.proofs.OpenLaws.{under_first, under_inside, under_ends}
use Rattle.opening.proofs.Opened.channel_at.Goals as goal

pub loop-i-init : goal.loop-i-init
loop-i-init c = under_first c.args.self.now c.args.x c.requires

pub returns-then-x-from : goal.returns-then-x-from
returns-then-x-from c = (under_ends c.args.self.now c.args.x c.requires c.loop-i.i c.loop-i.invariant (omega arith), omega arith)

pub unreachable-requires : goal.unreachable-requires
unreachable-requires c = omega (arith, under_inside c.args.self.now c.args.x c.requires c.loop-i.i c.loop-i.invariant)
