use Prim.Native.Nat.{◌+◌, ◌*◌, ◌≤◌}
use Rattle.sheet.specs.Counts.{most_channels, most_codes}
use Rattle.sheet.specs.Layout.{channel_at, slot_width}
use Rattle.writing.specs.Written.{slots_bits, BitsWritten}
use Rattle.writing.proofs.written.Bits.put_slots.Given as goal

abbrev pub invariant-loop-t : goal.invariant-loop-t
invariant-loop-t l = (l.t ≤ l.t-end) × (l.self.at ≤ channel_at most_channels + slot_width 1 most_codes * l.t) × BitsWritten l.self (slots_bits l.fields l.t)
