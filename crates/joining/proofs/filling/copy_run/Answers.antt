use mathlib.Core.Path.{◌≡◌, ap}
use Prim.Native.Nat.{ℕ, ◌+◌}
use native.Mathlib.Omega.{arith}
use lib.ListN.{get_or}
use lib.Ieee.{nan}
use Rattle.joining.specs.Joining.{clipped}
use Rattle.laws.proofs.WrittenLaws.{write_none, write_on, write_part}
use Rattle.joining.proofs.filling.copy_run.Goals as goal

pub loop-done-init : goal.loop-done-init
loop-done-init c = let a = c.args in (omega arith, write_none nan _ a.segment.now a.i)

pub copy_four-requires : goal.copy_four-requires
copy_four-requires c = let w = c.loop-done.invariant.1 in (omega arith, omega (arith, w.long))

pub loop-done-preserved : goal.loop-done-preserved
loop-done-preserved c =
    let l = c.loop-done in
    let a = c.args in
    let q : (j : ℕ) → a.k + l.done + j ≡ a.k + (l.done + j) = λ j. omega arith in
    (omega arith, write_on l.invariant.1 c.copy_four.ensures (λ j. ap (λ (x : ℕ). clipped (get_or a.values.now x nan)) (q j)))

pub returns : goal.returns
returns c = write_part c.loop-done.invariant.1 (omega arith)
