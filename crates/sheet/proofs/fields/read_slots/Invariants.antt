use mathlib.Core.Path.{◌≡◌}
use Prim.Native.Nat.{◌+◌, ◌*◌, ◌%◌, ◌≤◌}
use Rattle.sheet.specs.Counts.{most_channels, most_codes}
use Rattle.sheet.specs.Layout.{log_width, channel_at, slot_width}
use Rattle.sheet.specs.Fields.{uplink_in, slot_from, phchs_in}
use Rattle.sheet.specs.Reading.{slots_to}
use Rattle.sheet.proofs.fields.read_slots.Given as goal

abbrev pub invariant-loop-j : goal.invariant-loop-j
invariant-loop-j l =
    (l.j ≤ l.p) × (l.p ≡ phchs_in l.s l.start l.i) × (l.at ≡ slot_from l.s l.start l.i + slot_width (uplink_in l.s) l.j) × (l.at ≤ channel_at most_channels + slot_width 1 most_codes * l.i + slot_width 1 l.j)
    × (l.r ≡ slots_to l.s l.start (l.i + 1) (most_codes * l.i + l.j)) × (l.before ≤ log_width 1) × (l.up ≡ 0 → (l.before ≡ 0) × (l.at % 4 ≡ 0))

abbrev pub invariant-loop-i : goal.invariant-loop-i
invariant-loop-i l =
    (l.i ≤ l.t) × (l.at ≡ slot_from l.s l.start l.i) × (l.at ≤ channel_at most_channels + slot_width 1 most_codes * l.i) × (l.r ≡ slots_to l.s l.start l.i (most_codes * l.i))
    × (l.before ≡ log_width (uplink_in l.s)) × (l.up ≡ 0 → l.at % 4 ≡ 0)
