use lib.ListN.{get_or}
use Rattle.laws.proofs.SumLaws.{Summed}
use Rattle.homing.proofs.taking.count_taken.Given as goal

abbrev pub invariant-loop-i : goal.invariant-loop-i
invariant-loop-i l = Summed (λ k. get_or l.opened.sizes k 0) 65535 l.i-end l.sum l.i
