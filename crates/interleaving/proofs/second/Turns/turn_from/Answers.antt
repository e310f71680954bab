use native.Mathlib.Omega.{arith}
use Rattle.interleaving.proofs.SecondWalk.{turn_more}
use Rattle.interleaving.proofs.second.Turns.turn_from.Goals as goal

pub loop-r-preserved : goal.loop-r-preserved
loop-r-preserved c = turn_more c.args.self.now.begun c.loop-r.invariant.0 c.requires.2 (omega arith)
