use native.Mathlib.Omega.{arith}
use mathlib.Core.Path.{◌≡◌}
use Prim.Native.Nat.{◌+◌, ◌*◌, ◌<◌}
use Rattle.interleaving.specs.Second.{comes_from}
use Rattle.interleaving.proofs.SecondLaws.{source_below}
use Rattle.interleaving.proofs.SecondWalk.{passing_starts, passing_more, passing_next, passing_ends}
use Rattle.interleaving.proofs.second.source_at.Goals.{After-loop-h, In-loop-h}
use Rattle.interleaving.proofs.second.source_at.Goals as goal

-- there is a next column
more : (c : In-loop-h) → c.loop-h.t + 1 < 30
more c = passing_more c.loop-h.invariant c.requires.0 (omega arith)

-- the element is found
found : (c : After-loop-h)
    → (let a = c.args in
    (30 * c.loop-h.left + c.loop-h.c ≡ comes_from a.n a.j) × (30 * c.loop-h.left + c.loop-h.c < a.n))
found c =
    let e = passing_ends c.loop-h.invariant c.requires.0 (omega arith) in
    (e, omega (arith, e, source_below c.args.n c.args.j c.requires.0))

pub loop-h-init : goal.loop-h-init
loop-h-init c =
    let a = c.args in
    passing_starts a.n a.j c.column_at-c.ensures.0 c.height_of-h.ensures

pub column_at-c-requires-in-loop-h : goal.column_at-c-requires-in-loop-h
column_at-c-requires-in-loop-h c = (c.columns-order.ensures, more (goal.at.column_at-c-requires-in-loop-h c).In-loop-h)

pub loop-h-preserved : goal.loop-h-preserved
loop-h-preserved c =
    passing_next c.loop-h.invariant c.requires.0 (omega arith) c.column_at-c-in-loop-h.ensures.0
    c.height_of-h-in-loop-h.ensures

pub returns : goal.returns
returns c = found (goal.at.returns c).After-loop-h
