use native.Mathlib.Omega.{arith}
use mathlib.Core.Path.{◌≡◌, refl}
use Prim.Native.Nat.{suc}
use lib.ListN.{get_or}
use Rattle.orders.specs.Orders.{order}
use Rattle.interleaving.specs.Columns.{height}
use Rattle.interleaving.proofs.SecondLaws.{read_suc, read_within}
use Rattle.interleaving.proofs.SecondWalk.{begins-none, begins-at, begins-next}
use Rattle.interleaving.proofs.second.Turns.of.Goals.{After-height_by}
use Rattle.interleaving.proofs.second.Turns.of.Goals as goal

pub loop-t-init : goal.loop-t-init
loop-t-init c = begins-none c.args.n

-- the height of this turn's column
high : (c : After-height_by)
    → c.height_by.result ≡ height 30 c.args.n (get_or order c.loop-t.t 0)
high c = omega (arith, c.height_by.ensures, c.column_at.ensures)

pub overflow_add-begins : goal.overflow_add-begins
overflow_add-begins c =
    let l = c.loop-t in
    omega (arith, c.requires, begins-at l.invariant, high (goal.at.overflow_add-begins c).After-height_by, read_suc c.args.n l.t, read_within c.args.n (suc l.t) (omega arith))

pub loop-t-preserved : goal.loop-t-preserved
loop-t-preserved c = begins-next c.loop-t.invariant (omega arith) (high (goal.at.loop-t-preserved c).After-height_by) refl
