use mathlib.Core.Path.{◌≡◌}
use Rattle.bits.specs.Bits.{val, bit_of}
use Rattle.bits.proofs.byte.Given as goal

abbrev pub invariant-loop-i : goal.invariant-loop-i
invariant-loop-i l = l.v ≡ val (bit_of l.bs) l.at l.i
