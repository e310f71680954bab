use native.Mathlib.Omega.{arith}
use Rattle.laws.proofs.SumLaws.{summed_none, summed_more, summed_all}
use Rattle.homing.specs.Home.{channel_start}
use Rattle.homing.proofs.finishing.channel_start.Goals as goal

pub loop-j-init : goal.loop-j-init
loop-j-init c = summed_none _ _ _

pub loop-j-preserved : goal.loop-j-preserved
loop-j-preserved c = summed_more c.loop-j.invariant (omega arith) c.equalised-sum.ensures.0 c.equalised-sum.ensures.1

pub returns : goal.returns
unfolding channel_start
returns c = (summed_all c.loop-j.invariant (omega arith), omega (arith, c.loop-j.invariant.most))
