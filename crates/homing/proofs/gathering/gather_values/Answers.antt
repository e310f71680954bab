use native.Mathlib.Omega.{arith}
use lib.Ieee.{nan}
use Rattle.homing.proofs.ThroughLaws.{through-end}
use Rattle.homing.proofs.gathering.gather_values.Goals as goal

pub returns : goal.returns
returns c = through-end nan _ _ c.loop-h.invariant (omega arith)
