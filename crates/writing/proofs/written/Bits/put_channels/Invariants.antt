use mathlib.Core.Path.{◌≡◌}
use Prim.Native.Nat.{◌≤◌}
use Rattle.sheet.specs.Layout.{channel_at}
use Rattle.writing.specs.Written.{channel_bits, BitsWritten}
use Rattle.writing.proofs.written.Bits.put_channels.Given as goal

abbrev pub invariant-loop-i : goal.invariant-loop-i
invariant-loop-i l = (l.i ≤ l.i-end) × (l.self.at ≡ channel_at l.i) × BitsWritten l.self (channel_bits l.fields l.i)
