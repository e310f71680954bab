use mathlib.Core.Path.{◌≡◌}
use Prim.Native.Nat.{◌≤◌}
use Rattle.sheet.specs.Reading.{channels_to}
use Rattle.sheet.proofs.fields.read_channels.Given as goal

abbrev pub invariant-loop-k : goal.invariant-loop-k
invariant-loop-k l = (l.k ≤ l.n) × (l.c ≡ channels_to l.s l.k)
