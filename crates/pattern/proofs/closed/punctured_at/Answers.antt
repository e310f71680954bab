use mathlib.Core.Bool.{true}
use native.Mathlib.Omega.{arith}
use Rattle.pattern.proofs.StoodLaws.{Fitting, fitting, stood_dropped}
use Rattle.pattern.proofs.closed.punctured_at.Goals.{Start}
use Rattle.pattern.proofs.closed.punctured_at.Goals as goal

fits : (c : Start) → Fitting c.args.n c.args.w c.args.e c.args.v
fits c = let a = c.args in fitting true a.m a.n a.w a.e a.v c.requires.0 c.requires.1 c.requires.2

pub overflow_mul-bit-2 : goal.overflow_mul-bit-2
overflow_mul-bit-2 c = omega (arith, fits (goal.at.overflow_mul-bit-2 c).Start)

pub overflow_add-bit : goal.overflow_add-bit
overflow_add-bit c = omega (arith, fits (goal.at.overflow_add-bit c).Start)

pub overflow_sub-bit : goal.overflow_sub-bit
overflow_sub-bit c = omega (arith, fits (goal.at.overflow_sub-bit c).Start)

pub overflow_mul-bit-4 : goal.overflow_mul-bit-4
overflow_mul-bit-4 c = omega (arith, fits (goal.at.overflow_mul-bit-4 c).Start)

pub returns : goal.returns
returns c = let a = c.args in stood_dropped a.m a.n a.w a.e a.v c.requires.0 c.requires.1 c.requires.2
