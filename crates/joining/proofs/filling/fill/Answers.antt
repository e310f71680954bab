use Prim.Native.Nat.{◌*◌}
use native.Mathlib.Nat.{mul-le-mul_right}
use native.Mathlib.Omega.{arith}
use borrow.Author.Tests.{ltb-true}
use Rattle.joining.proofs.FillLaws.{fill_start, fill_turn, fill_once, fill_run, fill_end}
use Rattle.joining.proofs.PlaceLaws.{place-room}
use Rattle.joining.proofs.filling.fill.Goals as goal

pub run_of-run-requires : goal.run_of-run-requires
run_of-run-requires c = let s = c.requires.0 in (omega (arith, s.most), omega (arith, s.few, s.most))

pub overflow_mul-fall : goal.overflow_mul-fall
overflow_mul-fall c = omega (arith, mul-le-mul_right (2 * c.args.d.size) c.run_of-run.ensures, c.requires.0.most)

pub loop-i-init : goal.loop-i-init
loop-i-init c =
    let a = c.args in
    fill_start a.d.less a.d.size a.start a.values.now a.segment.now c.requires.0 c.requires.1

pub hear_next-t-requires : goal.hear_next-t-requires
hear_next-t-requires c =
    let p = c.loop-i.invariant.place in
    (p.here, omega (arith, p.few, p.most), place-room p (omega arith))

pub overflow_add-i-then-fall-e : goal.overflow_add-i-then-fall-e
overflow_add-i-then-fall-e c = omega (arith, c.loop-i.invariant.place.few)

pub overflow_add-k : goal.overflow_add-k
overflow_add-k c = omega (arith, place-room c.loop-i.invariant.place (omega arith))

pub copy_run-requires : goal.copy_run-requires
copy_run-requires c = (omega (arith, ltb-true), omega (arith, ltb-true))

pub overflow_sub-e : goal.overflow_sub-e
overflow_sub-e c = omega (arith, ltb-true)

pub overflow_add-k-then-k-reach : goal.overflow_add-k-then-k-reach
overflow_add-k-then-k-reach c = omega (arith, ltb-true)

pub overflow_add-i-then-k-reach : goal.overflow_add-i-then-k-reach
overflow_add-i-then-k-reach c = omega (arith, ltb-true)

pub offset_bounds-values-k : goal.offset_bounds-values-k
offset_bounds-values-k c = omega (arith, ltb-true)

pub bounds-values-k : goal.bounds-values-k
bounds-values-k c = omega (arith, ltb-true)

pub offset_bounds-segment-i-then-q-e : goal.offset_bounds-segment-i-then-q-e
offset_bounds-segment-i-then-q-e c = omega (arith, ltb-true)

pub bounds-segment-i-then-q-e : goal.bounds-segment-i-then-q-e
bounds-segment-i-then-q-e c = omega (arith, ltb-true, c.copy_run.ensures.long)

pub overflow_sub-e-then-q-e : goal.overflow_sub-e-then-q-e
overflow_sub-e-then-q-e c = omega (arith, ltb-true)

pub overflow_add-k-then-q-e : goal.overflow_add-k-then-q-e
overflow_add-k-then-q-e c = omega (arith, ltb-true)

pub overflow_add-i-then-q-e : goal.overflow_add-i-then-q-e
overflow_add-i-then-q-e c = omega (arith, ltb-true)

pub loop-i-preserved-then-q-e : goal.loop-i-preserved-then-q-e
loop-i-preserved-then-q-e c =
    let l = c.loop-i in
    let f = fill_turn l.invariant (omega arith) c.hear_next-t.ensures c.value.ensures c.clip.ensures in
    let g = fill_run f c.copy_run.ensures (omega (arith, ltb-true)) (omega (arith, ltb-true, f.todo.long)) in
    fill_once g (omega (arith, ltb-true, f.todo.long)) (omega arith) c.clip-then-q-e.ensures

pub loop-i-preserved-else-q-e : goal.loop-i-preserved-else-q-e
loop-i-preserved-else-q-e c =
    let l = c.loop-i in
    let f = fill_turn l.invariant (omega arith) c.hear_next-t.ensures c.value.ensures c.clip.ensures in
    fill_run f c.copy_run.ensures (omega (arith, ltb-true)) (omega (arith, ltb-true, f.todo.long))

pub loop-i-preserved : goal.loop-i-preserved
loop-i-preserved c =
    let l = c.loop-i in
    fill_turn l.invariant (omega arith) c.hear_next-t.ensures c.value.ensures c.clip.ensures

pub returns : goal.returns
returns c = let l = c.loop-i in fill_end l.invariant (omega arith)
