use mathlib.Core.Path.{◌∙◌, refl, sym}
use mathlib.Core.Bool.{false}
use Prim.Native.Nat.{◌+◌, ◌*◌, ◌-◌}
use native.Mathlib.Omega.{arith}
use lib.ListN.{length, get_or, set}
use Rattle.pattern.proofs.SegmentLaws.{begins}
use Rattle.pattern.proofs.LeftLaws.{Sending, sending_starts, sending_over, sending_keep, sending_more, more_room, sending_gone, sending_ends}
use Rattle.pattern.proofs.repeat.Goals.{After-loop-s-2}
use Rattle.pattern.proofs.repeat.Goals as goal

pub loop-s-init : goal.loop-s-init
loop-s-init c =
    let a = c.args in
    let b = begins false a.m a.n (length a.dst.now) a.start c.requires.0 c.requires.2 in
    let f = c.first-s.ensures in
    rw (f.0, f.1, f.2) (omega (arith, b.2), sending_starts false a.m a.n a.from a.step a.src.now a.start a.dst.now c.requires.0 c.requires.2 b.1)

pub loop-s-2-init : goal.loop-s-2-init
loop-s-2-init c =
    let i = c.loop-s.invariant in
    (refl, i.0, refl, sending_over i.1 (sym i.1.todo.long))

pub bounds-dst-s : goal.bounds-dst-s
bounds-dst-s c = more_room c.loop-s-2.invariant.3 c.requires.1 (omega arith)

pub loop-s-2-preserved : goal.loop-s-2-preserved
loop-s-2-preserved c =
    let i = c.loop-s-2.invariant in
    (i.0, omega arith, i.2, rw i.0 (sending_more i.3 c.requires.1 (omega arith) (omega arith)))

pub bounds-dst-s-in-loop-s : goal.bounds-dst-s-in-loop-s
bounds-dst-s-in-loop-s c = more_room c.loop-s-2.invariant.3 c.requires.1 (omega arith)

-- the bit was sent its last time
turned : (c : After-loop-s-2) → let s = c.loop-s-2.s in let a = c.args in
    Sending false a.m a.n a.from a.step a.src.now a.start a.dst.now (set c.loop-s-2.dst s.k (get_or a.src.now c.loop-s.s.j 0)) (s.e - 2 * a.m) (s.k + 1) (s.j + a.step)
turned c =
    let i = c.loop-s-2.invariant in
    rw i.0 (sending_over (sending_keep i.3 c.requires.1 (omega arith) (omega arith)) c.loop-s.invariant.1.todo.long)

pub on-s-requires : goal.on-s-requires
on-s-requires c = (c.run_of-run.ensures, omega (arith, c.requires.0.most), omega arith, omega arith, omega (arith, c.requires.1.few))

pub loop-s-smaller : goal.loop-s-smaller
loop-s-smaller c = omega (arith, c.on-s.ensures.run.reads, c.requires.1.some)

pub loop-s-preserved : goal.loop-s-preserved
loop-s-preserved c =
    let g = c.on-s.ensures in
    (omega (arith, g.run.falls), sending_gone (turned (goal.at.loop-s-preserved c).After-loop-s-2) c.requires.1 g)

pub returns : goal.returns
returns c = c.fill.ensures ∙ sending_ends c.loop-s.invariant.1 c.requires.2 (omega arith)
