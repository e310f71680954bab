use mathlib.Core.Path.{refl}
use Prim.Native.Nat.{◌*◌, ◌/◌, ◌%◌}
use native.Mathlib.Nat.{div-le_self, le_trans}
use native.Mathlib.Numerals.{add-one}
use Rattle.sheet.specs.Counts.{most_frames}
use Rattle.offset.specs.Offset.{filled}
use Rattle.offset.proofs.Bounds.{zeros_le, set-le}
use Rattle.offset.proofs.offsets.Goals as goal

pub loop-x-init : goal.loop-x-init
unfolding filled
loop-x-init c = (refl, λ i. zeros_le most_frames i (most_frames * 16384))

pub loop-x-preserved : goal.loop-x-preserved
unfolding filled
loop-x-preserved c =
    let y = c.distance-y.result in
    let f = c.args.f in
    let l = c.loop-x in (
      rw (add-one, l.invariant.0, c.distance-y.ensures.0) refl,
      set-le l.s (y % f) (y / f) (most_frames * 16384) l.invariant.1 (le_trans (div-le_self y f) c.distance-y.ensures.1),
    )
