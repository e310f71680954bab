use mathlib.Core.Path.{◌≡◌}
use Prim.Native.Nat.{◌+◌, ◌*◌, ◌≤◌}
use lib.ListN.{get_or}
use Rattle.laws.specs.Sums.{sum_to}
use Rattle.sheet.specs.Counts.{most_channels, most_codes}
use Rattle.sheet.specs.Layout.{channel_at, slot_width}
use Rattle.sheet.proofs.Sheet.bits_needed.Given as goal

abbrev pub invariant-loop-t : goal.invariant-loop-t
invariant-loop-t l = (l.t ≤ l.t-end) × (l.sum ≡ l.initial.sum + sum_to (λ k. slot_width l.self.uplink (get_or l.self.phchs k 0)) l.t) × (l.sum ≤ channel_at most_channels + slot_width 1 most_codes * l.t)
