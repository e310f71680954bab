use mathlib.Core.Path.{◌≡◌}
use Prim.Native.Nat.{◌+◌, ◌*◌, ◌≤◌}
use Rattle.sheet.specs.Counts.{most_channels, most_codes}
use Rattle.sheet.specs.Layout.{channel_at, log_width, slot_width}
use Rattle.writing.specs.Written.{code_bits, slots_bits, BitsWritten}
use Rattle.writing.proofs.written.Bits.put_slot.Given as goal

abbrev pub invariant-loop-p : goal.invariant-loop-p
invariant-loop-p l =
    (l.p ≤ l.n) × (l.self.at ≤ channel_at most_channels + slot_width 1 most_codes * l.t + slot_width 1 l.p) × (l.width ≡ log_width l.fields.uplink) × (l.width ≤ log_width 1)
    × BitsWritten l.self (code_bits l.fields l.t (slots_bits l.fields l.t) l.p)
