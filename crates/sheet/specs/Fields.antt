-- The fields of a sheet, as its bytes have them. Channels, slots and physical channels are counted from 0 here.
use Rattle.std.specs.Prelude.{List, ℕ, zero, suc, ◌+◌, ◌*◌, ◌/◌, ◌%◌, ◌^◌, get_or, replicate}
use Rattle.laws.specs.Tables.{table, up_to}
use Rattle.bits.specs.Bits.{bits_at}
use Rattle.sheet.specs.Counts.{most_channels, most_slots, most_codes, most_capacities, most_paired, most_logs}
use Rattle.sheet.specs.Layout.{head_widths, width_to, count_width, tti_width, encoded_width, ratio_width, codes_width, log_width, capacity_width, channel_at, slot_width}
use Rattle.sheet.specs.declared.Sheet.{Sheet}

-- field k of the head, counted from 0
abbrev pub head_in : List ℕ → ℕ → ℕ
head_in s k = bits_at s (width_to head_widths k) (get_or head_widths k 0)

-- I and T of the bytes, and their uplink bit. Of the four bits of I-1 the first stands apart, behind T
abbrev pub channels_in : List ℕ → ℕ
channels_in s = 2 ^ count_width * head_in s 6 + head_in s 2 + 1

abbrev pub slots_in : List ℕ → ℕ
slots_in s = head_in s 3

abbrev pub uplink_in : List ℕ → ℕ
uplink_in s = head_in s 4

-- the bit that marks the 1.28 Mcps option (the low chip rate)
abbrev pub lcr_in : List ℕ → ℕ
lcr_in s = head_in s 5

-- the bit of the head that is spare
abbrev pub spare_in : List ℕ → ℕ
spare_in s = head_in s 7

-- TTI, E and RM of channel i of the bytes
abbrev pub tti_in : List ℕ → ℕ → ℕ
tti_in s i = bits_at s (channel_at i) tti_width

abbrev pub encoded_in : List ℕ → ℕ → ℕ
encoded_in s i = bits_at s (channel_at i + tti_width) encoded_width

abbrev pub ratio_in : List ℕ → ℕ → ℕ
ratio_in s i = bits_at s (channel_at i + (tti_width + encoded_width)) ratio_width + 1

-- the bit at which slot t begins, slot 0 being at `start`: each slot before it has its own count of capacities
unfoldable pub slot_from : List ℕ → ℕ → ℕ → ℕ
slot_from s start zero = start
slot_from s start (suc t) = slot_from s start t + slot_width (uplink_in s) (bits_at s (slot_from s start t) codes_width + 1)

-- P of slot t
abbrev pub phchs_in : List ℕ → ℕ → ℕ → ℕ
phchs_in s start t = bits_at s (slot_from s start t) codes_width + 1

-- what slot t has of its physical channel p: the logarithm of the spreading factor, which is 0 in downlink, and U
abbrev pub code_log : List ℕ → ℕ → ℕ → ℕ → ℕ
code_log s start t p = bits_at s (slot_from s start t + slot_width (uplink_in s) p) (log_width (uplink_in s))

abbrev pub code_capacity : List ℕ → ℕ → ℕ → ℕ → ℕ
code_capacity s start t p = bits_at s (slot_from s start t + slot_width (uplink_in s) p + log_width (uplink_in s)) capacity_width

-- where an array has w of them for each slot: f of physical channel m mod w of slot m div w; 0 where there is none
abbrev pub code_in : ℕ → (List ℕ → ℕ → ℕ → ℕ → ℕ) → List ℕ → ℕ → ℕ → ℕ
code_in w f s start m = up_to (phchs_in s start (m / w)) (m % w) (f s start (m / w) (m % w))

-- and the array, of all slots of a sheet's bytes
abbrev pub codes_in : ℕ → (List ℕ → ℕ → ℕ → ℕ → ℕ) → List ℕ → List ℕ
codes_in w f s = table (λ m. up_to (w * slots_in s) m (code_in w f s (channel_at (channels_in s)) m)) 0 (most_slots * w)

-- the fields of the bytes, whatever they are; 0 past I, T and P
unfoldable pub sheet_of : List ℕ → Sheet
sheet_of s =
    record {
      version = head_in s 0;
      mode = head_in s 1;
      channels = channels_in s;
      slots = slots_in s;
      uplink = uplink_in s;
      lcr = lcr_in s;
      tti = table (λ i. up_to (channels_in s) i (tti_in s i)) 0 most_channels;
      e = table (λ i. up_to (channels_in s) i (encoded_in s i)) 0 most_channels;
      rm = table (λ i. up_to (channels_in s) i (ratio_in s i)) 0 most_channels;
      phchs = table (λ t. up_to (slots_in s) t (phchs_in s (channel_at (channels_in s)) t)) 0 most_slots;
      caps = codes_in most_codes code_capacity s;
      logs = codes_in most_paired code_log s;
    }

-- a sheet of zeros: what a refused call gives
abbrev pub blank : Sheet
blank =
    record {
      version = 0;
      mode = 0;
      channels = 0;
      slots = 0;
      uplink = 0;
      lcr = 0;
      tti = replicate most_channels 0;
      e = replicate most_channels 0;
      rm = replicate most_channels 0;
      phchs = replicate most_slots 0;
      caps = replicate most_capacities 0;
      logs = replicate most_logs 0;
    }

-- TTI, E and RM of channel i of the fields
abbrev pub tti_of : Sheet → ℕ → ℕ
tti_of sh i = get_or sh.tti i 0

abbrev pub encoded_of : Sheet → ℕ → ℕ
encoded_of sh i = get_or sh.e i 0

abbrev pub ratio_of : Sheet → ℕ → ℕ
ratio_of sh i = get_or sh.rm i 0

-- P of slot t, and of its physical channel p, U and the logarithm of the spreading factor
abbrev pub phchs_of : Sheet → ℕ → ℕ
phchs_of sh t = get_or sh.phchs t 0

abbrev pub capacity_of : Sheet → ℕ → ℕ → ℕ
capacity_of sh t p = get_or sh.caps (most_codes * t + p) 0

-- there is one for each of two, since 13 refuses an uplink slot that has more
abbrev pub log_in : List ℕ → ℕ → ℕ → ℕ
log_in logs t p = up_to most_paired p (get_or logs (most_paired * t + p) 0)

abbrev pub log_of : Sheet → ℕ → ℕ → ℕ
log_of sh t p = log_in sh.logs t p
