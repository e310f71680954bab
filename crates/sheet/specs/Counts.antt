-- The counts of document 01, each said once.
use Rattle.std.specs.Prelude.{ℕ, ◌+◌, ◌*◌, ◌/◌, ◌^◌}
use Rattle.sheet.specs.Layout.{channel_at, slot_width}

-- transport channels, slots, and physical channels (codes) of a slot
abbrev pub most_channels : ℕ
most_channels = 16

abbrev pub most_slots : ℕ
most_slots = 15

abbrev pub most_codes : ℕ
most_codes = 16

abbrev pub most_capacities : ℕ
most_capacities = most_slots * most_codes

-- sub-frames of a frame, and the slots of one at 1.28 Mcps
abbrev pub most_subframes : ℕ
most_subframes = 2

abbrev pub most_lcr_slots : ℕ
most_lcr_slots = 7

-- physical channels of an uplink slot
abbrev pub most_paired : ℕ
most_paired = 2

abbrev pub most_logs : ℕ
most_logs = most_slots * most_paired

-- the sum of all equalised sizes, and that of all capacities
abbrev pub most_bits : ℕ
most_bits = 60000

-- the ranges of a channel's fields and of a capacity
abbrev pub most_tti : ℕ
most_tti = 3

-- the frames of the longest TTI
abbrev pub most_frames : ℕ
most_frames = 2 ^ most_tti

abbrev pub most_encoded : ℕ
most_encoded = 16383

abbrev pub most_ratio : ℕ
most_ratio = 256

abbrev pub most_capacity : ℕ
most_capacity = 4095

-- the base-two logarithm of an uplink spreading factor
abbrev pub most_log : ℕ
most_log = 4

-- the bits that the fields of the longest sheet need that is accepted, and its bytes: in downlink, since an uplink slot has two codes at most
abbrev pub sheet_needed : ℕ
sheet_needed = channel_at most_channels + slot_width 0 most_codes * most_slots

abbrev pub longest_sheet : ℕ
longest_sheet = (sheet_needed + 7) / 8

-- and those of the longest that has a sheet's form: its fields are each in range, though 13 refuses it
abbrev pub most_needed : ℕ
most_needed = channel_at most_channels + slot_width 1 most_codes * most_slots

abbrev pub longest_form : ℕ
longest_form = (most_needed + 7) / 8
