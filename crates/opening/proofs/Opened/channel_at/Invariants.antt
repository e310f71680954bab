use Rattle.opening.proofs.OpenLaws.{Under}
use Rattle.opening.proofs.Opened.channel_at.Given as goal

abbrev pub invariant-loop-i : goal.invariant-loop-i
invariant-loop-i l = Under l.self.cuts l.x l.i
