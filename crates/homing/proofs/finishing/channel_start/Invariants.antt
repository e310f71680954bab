use Prim.Native.Nat.{◌*◌}
use Rattle.laws.proofs.SumLaws.{Summed}
use Rattle.sheet.specs.Counts.{most_frames}
use Rattle.sheet.specs.Sizes.{equalised_of}
use Rattle.homing.proofs.finishing.channel_start.Given as goal

abbrev pub invariant-loop-j : goal.invariant-loop-j
invariant-loop-j l = Summed (equalised_of l.fields) (most_frames * 65535) l.i l.sum l.j
