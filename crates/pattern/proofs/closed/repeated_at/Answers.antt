use mathlib.Core.Path.{refl}
use mathlib.Core.Bool.{false}
use Prim.Native.Nat.{ℕ, ◌+◌, ◌*◌, ◌-◌, ◌/◌, ◌≤◌}
use native.Mathlib.Omega.{arith}
use Rattle.pattern.proofs.StoodLaws.{Fitting, fitting, stood_added, added_before, added_most}
use Rattle.pattern.proofs.closed.repeated_at.Goals.{Start}
use Rattle.pattern.proofs.closed.repeated_at.Goals as goal

module _ (c : Start) where
  abbrev n : ℕ
  n = c.args.n

  abbrev m : ℕ
  m = c.args.m

  abbrev bit : ℕ
  bit = (2 * n * c.args.v + c.args.e - 1) / (2 * c.args.w)

  fits : Fitting n c.args.w c.args.e c.args.v
  fits = fitting false m n c.args.w c.args.e c.args.v c.requires.0 c.requires.1 c.requires.2

  product : 2 * m * bit ≤ 1965960000
  product =
      added_most m n c.args.w c.args.e bit c.requires.0
      (stood_added m n c.args.w c.args.e c.args.v c.requires.0 c.requires.1 c.requires.2 refl).within

  before : bit + (2 * m * bit + 2 * n - c.args.e) / (2 * n) ≤ c.args.v
  before = added_before m n c.args.w c.args.e c.args.v c.requires.0 c.requires.1 c.requires.2 refl

pub overflow_mul-bit-2 : goal.overflow_mul-bit-2
overflow_mul-bit-2 c = omega (arith, fits (goal.at.overflow_mul-bit-2 c).Start)

pub overflow_add-bit : goal.overflow_add-bit
overflow_add-bit c = omega (arith, fits (goal.at.overflow_add-bit c).Start)

pub overflow_sub-bit : goal.overflow_sub-bit
overflow_sub-bit c = omega (arith, fits (goal.at.overflow_sub-bit c).Start)

pub overflow_mul-bit-3 : goal.overflow_mul-bit-3
overflow_mul-bit-3 c = omega (arith, fits (goal.at.overflow_mul-bit-3 c).Start)

pub overflow_mul-copy-2 : goal.overflow_mul-copy-2
overflow_mul-copy-2 c = omega (arith, product (goal.at.overflow_mul-copy-2 c).Start)

pub overflow_add-copy : goal.overflow_add-copy
overflow_add-copy c = omega (arith, fits (goal.at.overflow_add-copy c).Start, product (goal.at.overflow_add-copy c).Start)

pub overflow_sub-copy : goal.overflow_sub-copy
overflow_sub-copy c = omega (arith, fits (goal.at.overflow_sub-copy c).Start)

pub nonzero_div-copy : goal.nonzero_div-copy
nonzero_div-copy c = omega (arith, fits (goal.at.nonzero_div-copy c).Start)

pub overflow_add-copy-2 : goal.overflow_add-copy-2
overflow_add-copy-2 c = omega (arith, before (goal.at.overflow_add-copy-2 c).Start)

pub overflow_sub-copy-2 : goal.overflow_sub-copy-2
overflow_sub-copy-2 c = before (goal.at.overflow_sub-copy-2 c).Start

pub returns : goal.returns
returns c = let a = c.args in stood_added a.m a.n a.w a.e a.v c.requires.0 c.requires.1 c.requires.2 refl
