use mathlib.Core.Path.{◌≡◌, ap}
use Prim.Native.Nat.{ℕ, ◌+◌}
use native.Mathlib.Omega.{arith}
use lib.ListN.{get_or}
use Rattle.laws.proofs.WrittenLaws.{write_none, write_on, write_part}
use Rattle.pattern.proofs.runs.copy_run.Goals as goal

pub loop-done-init : goal.loop-done-init
loop-done-init c = let a = c.args in (omega arith, write_none 0 _ a.dst.now a.k)

pub copy_eight-requires : goal.copy_eight-requires
copy_eight-requires c = (omega arith, omega (arith, c.loop-done.invariant.1.long))

pub loop-done-preserved : goal.loop-done-preserved
loop-done-preserved c =
    let l = c.loop-done in
    let a = c.args in
    let q : (i : ℕ) → a.j + l.done + i ≡ a.j + (l.done + i) = λ i. omega arith in
    (omega arith, write_on l.invariant.1 c.copy_eight.ensures (λ i. ap (λ (x : ℕ). get_or a.src.now x 0) (q i)))

pub shape_of-dst : goal.shape_of-dst
shape_of-dst c = c.loop-done.invariant.1.long

pub returns : goal.returns
returns c = write_part c.loop-done.invariant.1 (omega arith)
