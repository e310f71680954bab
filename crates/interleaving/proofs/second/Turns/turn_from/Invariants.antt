use Prim.Native.Nat.{◌-◌, ◌≤◌, ◌<◌}
use Rattle.interleaving.specs.Second.{read_before}
use Rattle.interleaving.proofs.second.Turns.turn_from.Given as goal

abbrev pub invariant-loop-r : goal.invariant-loop-r
invariant-loop-r l = (l.r < 30) × (read_before l.self.n l.r ≤ l.k)

abbrev pub decreases-loop-r : goal.decreases-loop-r
decreases-loop-r l = 30 - l.r
