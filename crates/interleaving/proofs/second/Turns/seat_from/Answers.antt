use mathlib.Core.Path.{refl, ap}
use Prim.Native.Nat.{ℕ, ◌+◌, ◌*◌, ◌-◌}
use lib.ListN.{get_or}
use Rattle.interleaving.proofs.SecondWalk.{seated}
use Rattle.interleaving.proofs.second.Turns.seat_from.Goals as goal

pub returns : goal.returns
returns c =
    let t = c.turn_from-turn in
    seated c.args.self.now.begun t.ensures.0 t.ensures.1 t.ensures.2
    (ap (λ (x : ℕ). 30 * (c.args.k - get_or c.args.self.now.begins t.result 0) + x) c.column_at.ensures.0) refl
