use mathlib.Core.Path.{◌∙◌}
use mathlib.Core.Bool.{true}
use Prim.Native.Nat.{◌+◌, ◌*◌, ◌≤◌}
use native.Mathlib.Omega.{arith}
use lib.ListN.{length}
use Rattle.pattern.proofs.SegmentLaws.{begins, sized_less}
use Rattle.pattern.proofs.LeftLaws.{Sending, sending_starts, sending_keep, kept_room, sending_drop, sending_gone, sending_ends}
use Rattle.pattern.proofs.puncture.Goals.{then-q-s, else-q-s, Joined-q-s}
use Rattle.pattern.proofs.puncture.Goals as goal

pub loop-s-init : goal.loop-s-init
loop-s-init c =
    let a = c.args in
    let b = begins true a.m a.n (length a.dst.now) a.start c.requires.0 c.requires.2 in
    let w = sized_less a.m a.n (length a.dst.now) a.start c.requires.0 in
    let f = c.first-s.ensures in
    rw (f.0, f.1, f.2) (b.2, omega arith, sending_starts true a.m a.n a.from a.step a.src.now a.start a.dst.now c.requires.0 c.requires.2 b.1)

pub bounds-dst-s : goal.bounds-dst-s
bounds-dst-s c = kept_room c.loop-s.invariant.2 c.requires.1 (omega arith) (omega arith)

-- the bit was kept or dropped
turned : (c : Joined-q-s) → let s = c.if-q-s.s in let a = c.args in
    (s.e ≤ 2 * a.n) × Sending true a.m a.n a.from a.step a.src.now a.start a.dst.now c.if-q-s.dst s.e s.k (s.j + a.step)
turned c =
    let l = c.loop-s in
    let w = c.requires.1 in
    elim c.if-q-s.branch [
      | then-q-s w' ↦ rw (w'.dst-is, w'.s-is) (omega arith, sending_keep l.invariant.2 w (omega arith) (omega arith))
      | else-q-s w' ↦ rw (w'.dst-is, w'.s-is) (omega arith, sending_drop l.invariant.2 w (omega arith) (omega arith) (omega arith))
    ]

pub loop-s-preserved : goal.loop-s-preserved
loop-s-preserved c =
    let t = turned (goal.at.loop-s-preserved c).Joined-q-s in
    let g = c.on-s.ensures in
    (omega (arith, t.0, g.run.falls), c.loop-s.invariant.1, sending_gone t.1 c.requires.1 g)

pub returns : goal.returns
returns c = c.fill.ensures ∙ sending_ends c.loop-s.invariant.2 c.requires.2 (omega arith)
