-- How wide the fields of a sheet are, in bits, and where they stand: the table of document 01, 'The format sheet'.
use Rattle.std.specs.Prelude.{List, [], ◌∷◌, ℕ, zero, suc, ◌+◌, ◌*◌, get_or}

-- the head: version, mode, I-1 without its top bit, T, uplink, 1.28 Mcps, the top bit of I-1, a spare bit
abbrev pub head_widths : List ℕ
head_widths = 4 ∷ 1 ∷ 3 ∷ 4 ∷ 1 ∷ 1 ∷ 1 ∷ 1 ∷ []

-- the first k of some widths, added up: the bit at which field k begins
abbrev pub width_to : List ℕ → ℕ → ℕ
width_to ws zero = 0
width_to ws (suc k) = width_to ws k + get_or ws k 0

-- a channel: TTI, E, RM-1
abbrev pub tti_width : ℕ
tti_width = 2

abbrev pub encoded_width : ℕ
encoded_width = 14

abbrev pub ratio_width : ℕ
ratio_width = 8

-- a slot: P-1, and P times, in uplink the logarithm of the spreading factor, which downlink has not, and U. `up` is 1 in uplink and else 0
abbrev pub codes_width : ℕ
codes_width = 4

abbrev pub log_width : ℕ → ℕ
log_width up = 3 * up

abbrev pub capacity_width : ℕ
capacity_width = 12

-- the bit at which channel i begins, counted from 0; with i channels, the bit at which the first slot begins
abbrev pub channel_at : ℕ → ℕ
channel_at i = width_to head_widths 8 + (tti_width + encoded_width + ratio_width) * i

-- the bits of a slot of p physical channels, and the bit, counted from the slot's first, at which what it has of its physical channel p begins
abbrev pub slot_width : ℕ → ℕ → ℕ
slot_width up p = codes_width + (log_width up + capacity_width) * p

-- the fields of the head by their names
abbrev pub version_at : ℕ
version_at = width_to head_widths 0

abbrev pub version_width : ℕ
version_width = get_or head_widths 0 0

abbrev pub mode_at : ℕ
mode_at = width_to head_widths 1

abbrev pub mode_width : ℕ
mode_width = get_or head_widths 1 0

abbrev pub count_at : ℕ
count_at = width_to head_widths 2

abbrev pub count_width : ℕ
count_width = get_or head_widths 2 0

abbrev pub slots_at : ℕ
slots_at = width_to head_widths 3

abbrev pub slots_width : ℕ
slots_width = get_or head_widths 3 0

abbrev pub uplink_at : ℕ
uplink_at = width_to head_widths 4

abbrev pub uplink_width : ℕ
uplink_width = get_or head_widths 4 0

abbrev pub lcr_at : ℕ
lcr_at = width_to head_widths 5

abbrev pub lcr_width : ℕ
lcr_width = get_or head_widths 5 0

abbrev pub top_at : ℕ
top_at = width_to head_widths 6

abbrev pub top_width : ℕ
top_width = get_or head_widths 6 0

abbrev pub spare_at : ℕ
spare_at = width_to head_widths 7

abbrev pub spare_width : ℕ
spare_width = get_or head_widths 7 0
