use mathlib.Core.Path.{◌≡◌}
use Prim.Native.Nat.{◌+◌, ◌*◌, ◌≤◌}
use Rattle.sheet.specs.Counts.{most_channels, most_codes, most_paired}
use Rattle.sheet.specs.Layout.{channel_at, slot_width}
use Rattle.sheet.specs.Fields.{uplink_in, slot_from}
use Rattle.sheet.specs.Reading.{logs_to}
use Rattle.sheet.proofs.fields.read_logs.Given as goal

abbrev pub invariant-loop-i : goal.invariant-loop-i
invariant-loop-i l = (l.i ≤ l.t) × (l.at ≡ slot_from l.s l.start l.i) × (l.at ≤ channel_at most_channels + slot_width 1 most_codes * l.i) × (l.logs ≡ logs_to l.s l.start (most_paired * l.i)) × (uplink_in l.s ≡ 1)
