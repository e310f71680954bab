use mathlib.Core.Path.{◌≡◌}
use mathlib.Core.List.{List}
use Prim.Native.Nat.{ℕ}
use native.Mathlib.Omega.{arith}
use Rattle.bits.specs.Bits.{bits_at}
use Rattle.sheet.proofs.SlotLaws.{version_of, mode_of, channels_of, slots_of, uplink_of, lcr_of, slots_read, joined}
use Rattle.sheet.proofs.fields.read_fields.Goals.{After-read_byte-second}
use Rattle.sheet.proofs.fields.read_fields.Goals as goal

-- the two bytes of the head
module _ (c : After-read_byte-second) where
  abbrev s : List ℕ
  s = c.args.s.now

  one : c.read_byte-first.result ≡ bits_at s 0 8
  one = c.read_byte-first.ensures.0

  two : c.read_byte-second.result ≡ bits_at s 8 8
  two = c.read_byte-second.ensures.0

pub read_slots-r-requires : goal.read_slots-r-requires
read_slots-r-requires c = (uplink_of (s (goal.at.read_slots-r-requires c).After-read_byte-second) (one (goal.at.read_slots-r-requires c).After-read_byte-second) (two (goal.at.read_slots-r-requires c).After-read_byte-second), omega arith, omega arith, omega arith)

pub read_logs-logs-requires : goal.read_logs-logs-requires
read_logs-logs-requires c =
    record {
      uplink = uplink_of (s (goal.at.read_logs-logs-requires c).After-read_byte-second) (one (goal.at.read_logs-logs-requires c).After-read_byte-second) (two (goal.at.read_logs-logs-requires c).After-read_byte-second);
      few = omega arith;
      near = omega arith;
      codes = slots_read (s (goal.at.read_logs-logs-requires c).After-read_byte-second) _ _ _ c.read_slots-r.ensures (omega arith);
    }

pub returns : goal.returns
returns c =
    joined (s (goal.at.returns c).After-read_byte-second) _ _ (version_of (s (goal.at.returns c).After-read_byte-second) (one (goal.at.returns c).After-read_byte-second) (two (goal.at.returns c).After-read_byte-second)) (mode_of (s (goal.at.returns c).After-read_byte-second) (one (goal.at.returns c).After-read_byte-second) (two (goal.at.returns c).After-read_byte-second)) (channels_of (s (goal.at.returns c).After-read_byte-second) (one (goal.at.returns c).After-read_byte-second) (two (goal.at.returns c).After-read_byte-second)) (slots_of (s (goal.at.returns c).After-read_byte-second) (one (goal.at.returns c).After-read_byte-second) (two (goal.at.returns c).After-read_byte-second))
    (uplink_of (s (goal.at.returns c).After-read_byte-second) (one (goal.at.returns c).After-read_byte-second) (two (goal.at.returns c).After-read_byte-second)) (lcr_of (s (goal.at.returns c).After-read_byte-second) (one (goal.at.returns c).After-read_byte-second) (two (goal.at.returns c).After-read_byte-second)) c.read_channels-c.ensures c.read_slots-r.ensures c.read_logs-logs.ensures
