use native.Mathlib.Omega.{arith}
use mathlib.Core.Path.{sym, ap, ◌∙◌}
use mathlib.Core.List.{List}
use Prim.Native.Nat.{ℕ, ◌<◌}
use lib.ListN.{length, get_or}
use Rattle.orders.specs.Orders.{column_at}
use Rattle.interleaving.proofs.FinishWalk.{resized, enters, long, reads_in, put, leaves, ends}
use Rattle.interleaving.proofs.first.finish.Goals.{In-loop-k}
use Rattle.interleaving.proofs.first.finish.Goals as goal

pub loop-k-init : goal.loop-k-init
unfolding column_at
loop-k-init c =
    let l = c.loop-s in
    let w = l.invariant in
    enters (resized w (sym w.filling.long)) (omega (arith, c.frames-f.ensures.0)) (c.from-p.ensures ∙ ap (λ (r : List ℕ). get_or r l.s 0) c.row-row.ensures)

-- what is read stands in part
inside : (c : In-loop-k) → c.loop-k.i < length c.args.part.now
inside c = let l = c.loop-k in reads_in l.invariant (omega (arith, long l.invariant))

pub bounds-part-i : goal.bounds-part-i
bounds-part-i c = inside (goal.at.bounds-part-i c).In-loop-k

pub overflow_add-i : goal.overflow_add-i
overflow_add-i c = omega (arith, inside (goal.at.overflow_add-i c).In-loop-k)

pub overflow_add-k : goal.overflow_add-k
overflow_add-k c = omega (arith, c.frames-f.ensures.2)

pub loop-k-smaller : goal.loop-k-smaller
loop-k-smaller c = omega (arith, long c.loop-k.invariant, c.frames-f.ensures.1)

pub loop-k-preserved : goal.loop-k-preserved
loop-k-preserved c =
    let l = c.loop-k in
    put l.invariant (omega (arith, long l.invariant)) c.frames-f.ensures.0

pub loop-s-preserved : goal.loop-s-preserved
loop-s-preserved c =
    let g = c.loop-k.invariant in
    resized (leaves g (omega (arith, long g))) c.loop-s.invariant.filling.long

pub returns : goal.returns
returns c =
    let l = c.loop-s in
    ends l.invariant (omega (arith, c.frames-f.ensures.0))
