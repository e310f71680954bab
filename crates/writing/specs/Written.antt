-- The bits of a sheet's fields, one field after the other; its bytes; what writing answers.
use Rattle.std.specs.Prelude.{◌≡◌, cond, List, [], ◌∷◌, ◌++◌, ℕ, zero, suc, ◌-◌, ◌*◌, ◌/◌, ◌%◌, ◌^◌, eqb, get_or, length}
use Rattle.laws.specs.Tables.{table, up_to}
use Rattle.counters.specs.Lines.{given, Answer, answer_of}
use Rattle.bits.specs.Bits.{field, packed, bit_of}
use Rattle.sheet.specs.Counts.{most_channels, most_slots, most_codes, most_capacities, most_paired, most_logs, longest_form}
use Rattle.sheet.specs.Layout.{head_widths, count_width, tti_width, encoded_width, ratio_width, codes_width, log_width, capacity_width}
use Rattle.sheet.specs.Fields.{tti_of, encoded_of, ratio_of, phchs_of, capacity_of, log_of}
use Rattle.sheet.specs.Sizes.{bytes_needed}
use Rattle.sheet.specs.declared.Sheet.{Sheet}
use Rattle.writing.specs.declared.written.Bits.{Bits}
use Rattle.writing.specs.Numbers.{field_number, write_number}

-- I-1 as it stands in the head: the bits behind its top one, and that
abbrev pub low_of : Sheet → ℕ
low_of sh = (sh.channels - 1) % 2 ^ count_width

abbrev pub top_of : Sheet → ℕ
top_of sh = (sh.channels - 1) / 2 ^ count_width

-- what stands in the head's fields: version, mode, I-1 without its top bit, T, uplink, 1.28 Mcps, the top bit of I-1, 0
abbrev pub head_values : Sheet → List ℕ
head_values sh = sh.version ∷ sh.mode ∷ low_of sh ∷ sh.slots ∷ sh.uplink ∷ sh.lcr ∷ top_of sh ∷ 0 ∷ []

-- the first k of them
unfoldable pub head_to : Sheet → ℕ → List ℕ
head_to sh zero = []
head_to sh (suc k) = head_to sh k ++ field (get_or head_widths k 0) (get_or (head_values sh) k 0)

abbrev pub head_bits : Sheet → List ℕ
head_bits sh = head_to sh 8

-- those, and TTI, E, RM-1 of the first i channels
unfoldable pub channel_bits : Sheet → ℕ → List ℕ
channel_bits sh zero = head_bits sh
channel_bits sh (suc i) =
    ((channel_bits sh i ++ field tti_width (tti_of sh i)) ++ field encoded_width (encoded_of sh i)) ++ field ratio_width (ratio_of sh i - 1)

-- bits before, then P-1 of slot t, and of its first p physical channels, in uplink, the logarithm, and U
unfoldable pub code_bits : Sheet → ℕ → List ℕ → ℕ → List ℕ
code_bits sh t before zero = before ++ field codes_width (phchs_of sh t - 1)
code_bits sh t before (suc p) =
    (code_bits sh t before p ++ field (log_width sh.uplink) (log_of sh t p)) ++ field capacity_width (capacity_of sh t p)

-- the head, the channels and the first t slots
unfoldable pub slots_bits : Sheet → ℕ → List ℕ
slots_bits sh zero = channel_bits sh sh.channels
slots_bits sh (suc t) = code_bits sh t (slots_bits sh t) (phchs_of sh t)

abbrev pub sheet_bits : Sheet → List ℕ
sheet_bits sh = slots_bits sh sh.slots

-- the bytes: eight bits each, zeros past the last field
abbrev pub bytes_of : Sheet → List ℕ
bytes_of sh = packed (bit_of (sheet_bits sh)) (bytes_needed sh)

-- what asking for the length answers: the bytes that the sheet will have
abbrev pub length_answer : Sheet → Answer
length_answer sh = answer_of (field_number sh) (bytes_needed sh)

-- what writing into a buffer that was `old` answers, and what the buffer then holds
abbrev pub write_answer : Sheet → List ℕ → Answer
write_answer sh old = answer_of (write_number sh (length old)) (bytes_needed sh)

abbrev pub written_to : Sheet → List ℕ → List ℕ
written_to sh old = given (write_number sh (length old)) (bytes_of sh) old

-- entry m, which is x, of an array that has w of them for each slot, one a physical channel; 0 past T and P
abbrev pub code_trimmed : ℕ → Sheet → ℕ → ℕ → ℕ
code_trimmed w sh m x = up_to (w * sh.slots) m (up_to (phchs_of sh (m / w)) (m % w) x)

-- the fields with zeros past I, T and P, and in downlink for the logarithms: what a sheet that was written is read as
unfoldable pub trimmed : Sheet → Sheet
trimmed sh =
    record {
      version = sh.version;
      mode = sh.mode;
      channels = sh.channels;
      slots = sh.slots;
      uplink = sh.uplink;
      lcr = sh.lcr;
      tti = table (λ i. up_to sh.channels i (tti_of sh i)) 0 most_channels;
      e = table (λ i. up_to sh.channels i (encoded_of sh i)) 0 most_channels;
      rm = table (λ i. up_to sh.channels i (ratio_of sh i)) 0 most_channels;
      phchs = table (λ t. up_to sh.slots t (phchs_of sh t)) 0 most_slots;
      caps = table (λ m. code_trimmed most_codes sh m (get_or sh.caps m 0)) 0 most_capacities;
      logs = table (λ m. code_trimmed most_paired sh m (cond (eqb sh.uplink 0) 0 (get_or sh.logs m 0))) 0 most_logs;
    }

-- n bits, one to a byte, of which the first are those of a list and the others 0
pub record Holds (bs : List ℕ) (n : ℕ) (bits : List ℕ) : Type 0 where
  pub long : length bs ≡ n
  pub same : (i : ℕ) → get_or bs i 0 ≡ get_or bits i 0

-- the bits of a list are written, and the next place is behind them
pub record BitsWritten (b : Bits) (bits : List ℕ) : Type 0 where
  pub holds : Holds b.bits (8 * longest_form) bits
  pub at : b.at ≡ length bits
