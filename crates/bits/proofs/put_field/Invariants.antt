use mathlib.Core.Path.{◌≡◌}
use lib.Seq.{paste}
use Rattle.bits.specs.Bits.{field}
use Rattle.bits.proofs.put_field.Given as goal

abbrev pub invariant-loop-i : goal.invariant-loop-i
invariant-loop-i l = l.bs ≡ paste l.initial.bs l.at (field l.n l.v) l.i
