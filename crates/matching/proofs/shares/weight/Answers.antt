use native.Mathlib.Omega.{arith}
use mathlib.Core.Path.{ap₂}
use Prim.Native.Nat.{◌*◌}
use Rattle.matching.proofs.ShareLaws.{weight_most}
use Rattle.matching.proofs.shares.weight.Goals as goal

pub overflow_mul-result : goal.overflow_mul-result
overflow_mul-result c = omega (arith, weight_most {a = c.from.result} {b = c.segment.result} (omega arith) (omega arith))

pub returns : goal.returns
returns c = (ap₂ ◌*◌ c.from.ensures c.segment.ensures.0, weight_most (omega arith) (omega arith))
