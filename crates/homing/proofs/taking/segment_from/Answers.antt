use native.Mathlib.Omega.{arith}
use mathlib.Core.Path.{ap}
use Prim.Native.Nat.{ℕ, ◌*◌}
use native.Mathlib.Nat.{mul-le-mul}
use Rattle.laws.proofs.FallLaws.{part_ends}
use Rattle.homing.proofs.taking.segment_from.Goals as goal

pub overflow_mul-result : goal.overflow_mul-result
overflow_mul-result c =
    let a = c.args in
    omega (arith, part_ends c.within.result a.f a.size c.within.ensures.1, mul-le-mul c.requires.1 c.requires.2)

pub returns : goal.returns
returns c =
    let a = c.args in
    (ap (λ (k : ℕ). k * a.size) c.within.ensures.0, part_ends c.within.result a.f a.size c.within.ensures.1, mul-le-mul c.requires.1 c.requires.2)
