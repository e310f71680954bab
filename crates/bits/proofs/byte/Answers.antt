use mathlib.Core.Path.{refl, ap, ◌∙◌}
use Prim.Native.Nat.{ℕ, ◌+◌, ◌*◌, ◌<◌}
use native.Mathlib.Omega.{arith}
use Rattle.bits.specs.Bits.{val, bit_of}
use lib.Pow.{pow_mono}
use lib.ListN.{get_or}
use native.Mathlib.Nat.{le_of_suc-le-suc}
use Rattle.bits.proofs.BitLaws.{val-more, val-lt}
use Rattle.bits.proofs.byte.Goals.{At-loop-i}
use Rattle.bits.proofs.byte.Goals as goal

pub loop-i-init : goal.loop-i-init
unfolding val
loop-i-init c = refl

small : (c : At-loop-i) → c.loop-i.i < 8 → c.loop-i.v < 128
small c l =
    let a = c.args in
    omega (arith, pow_mono (le_of_suc-le-suc l), val-lt (bit_of a.bs.now) a.at c.loop-i.i c.requires.1)

pub overflow_mul-v : goal.overflow_mul-v
overflow_mul-v c = omega (arith, small (goal.at.overflow_mul-v c).At-loop-i c.loop-i-test.true)

pub overflow_add-v-in-loop-i : goal.overflow_add-v-in-loop-i
overflow_add-v-in-loop-i c =
    let a = c.args in
    omega (
      arith,
      small (goal.at.overflow_add-v-in-loop-i c).At-loop-i c.loop-i-test.true,
      c.requires.1 (a.at + c.loop-i.i),
    )

pub loop-i-preserved : goal.loop-i-preserved
loop-i-preserved c =
    let a = c.args in
    let l = c.loop-i in
    ap (λ (x : ℕ). x * 2 + get_or a.bs.now (a.at + l.i) 0) l.invariant ∙ val-more (bit_of a.bs.now) a.at l.i
