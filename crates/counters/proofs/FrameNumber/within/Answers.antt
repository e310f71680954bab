use mathlib.Core.Path.{refl}
use native.Mathlib.Nat.{mod-lt}
use Rattle.counters.proofs.FrameNumber.within.Goals as goal

pub returns : goal.returns
returns c = (refl, mod-lt _ c.requires)
