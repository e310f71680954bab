-- What stored sheets keep: a sheet as releases 1 to 3 had it, its numbers of bits written out, its numbers, its bytes, its frame and its names. Release 1 is
-- document 01's, with eight channels and no uplink; release 2 is C-11's, with uplink; release 3 is C-16's, with sixteen channels. None knows sub-frames.
use Rattle.std.specs.Prelude.{◌≡◌, cond, List, [], ◌∷◌, ◌++◌, ℕ, zero, suc, ◌+◌, ◌-◌, ◌*◌, ◌/◌, ◌%◌, ◌≤◌, ◌<◌, eqb, length, take, drop}
use Rattle.laws.specs.Tables.{table, up_to}
use Rattle.laws.specs.Joined.{joined}
use Rattle.bits.specs.Bits.{bits_at, field, packed, bit_of}
use Rattle.sheet.specs.Fields.{tti_of, encoded_of, ratio_of, phchs_of, capacity_of, log_of}
use Rattle.sheet.specs.Sizes.{equalised_all, slot_capacity, places_all}
use Rattle.sheet.specs.declared.Sheet.{Sheet}
use Rattle.interleaving.specs.Second.{second_interleaved, comes_from}
use Rattle.mapping.specs.Mapping.{ones, slot_of, number_of, filled_as}
use Rattle.frame.specs.Frame.{caps_of, runs_of, slot_start, multiplexed_bits}
use Rattle.demands.specs.Exactly.{Saying, says}
use Rattle.demands.specs.Table.{NoCapacity, BadUplink, NoBits, bytes_says}

pub data Release : Type 0 where
  release1 release2 release3 : Release

-- ---- the fields of its bytes

-- of the four bits behind T those that were taken into use after it: the first for uplink, the second for 1.28 Mcps, the third for the top of I-1
abbrev pub stored_taken : Release → List ℕ → ℕ
stored_taken release1 s = bits_at s 12 3
stored_taken release2 s = bits_at s 13 2
stored_taken release3 s = bits_at s 13 1

-- those that are spare in it
abbrev pub stored_spare : Release → List ℕ → ℕ
stored_spare release1 s = bits_at s 12 4
stored_spare release2 s = bits_at s 13 3
stored_spare release3 s = bits_at s 13 1 + bits_at s 15 1

-- its uplink bit: release 1 has none
abbrev pub stored_uplink : Release → List ℕ → ℕ
stored_uplink release1 s = 0
stored_uplink release2 s = bits_at s 12 1
stored_uplink release3 s = bits_at s 12 1

-- I, which three bits count, and in release 3 a fourth before them; and T
abbrev pub stored_i : Release → List ℕ → ℕ
stored_i release1 s = bits_at s 5 3 + 1
stored_i release2 s = bits_at s 5 3 + 1
stored_i release3 s = 8 * bits_at s 14 1 + bits_at s 5 3 + 1

abbrev pub stored_t : List ℕ → ℕ
stored_t s = bits_at s 8 4

-- where slot t begins, counted from 0; with all T, where the padding does. The head has 16 bits, a channel 24, a slot P-1 in 4 and P times a logarithm in 3, if
-- there is one, and U in 12
unfoldable pub stored_slot : Release → List ℕ → ℕ → ℕ
stored_slot r s zero = 16 + 24 * stored_i r s
stored_slot r s (suc t) = stored_slot r s t + (4 + (3 * stored_uplink r s + 12) * (bits_at s (stored_slot r s t) 4 + 1))

abbrev pub stored_p : Release → List ℕ → ℕ → ℕ
stored_p r s t = bits_at s (stored_slot r s t) 4 + 1

-- where what slot t has of its physical channel p begins
abbrev pub stored_code : Release → List ℕ → ℕ → ℕ → ℕ
stored_code r s t p = stored_slot r s t + (4 + (3 * stored_uplink r s + 12) * p)

-- what stands past I, T and P is 0: so is what is there for a ninth channel
unfoldable pub stored_sheet : Release → List ℕ → Sheet
stored_sheet r s =
    let u = stored_uplink r s in
    record {
      version = bits_at s 0 4;
      mode = bits_at s 4 1;
      channels = stored_i r s;
      slots = stored_t s;
      uplink = u;
      lcr = 0;
      tti = table (λ i. up_to (stored_i r s) i (bits_at s (16 + 24 * i) 2)) 0 16;
      e = table (λ i. up_to (stored_i r s) i (bits_at s (16 + 24 * i + 2) 14)) 0 16;
      rm = table (λ i. up_to (stored_i r s) i (bits_at s (16 + 24 * i + 16) 8 + 1)) 0 16;
      phchs = table (λ t. up_to (stored_t s) t (stored_p r s t)) 0 15;
      caps =
          table (λ m. up_to (16 * stored_t s) m (up_to (stored_p r s (m / 16)) (m % 16) (bits_at s (stored_code r s (m / 16) (m % 16) + 3 * u) 12))) 0 240;
      logs = table (λ m. up_to (2 * stored_t s) m (up_to (stored_p r s (m / 2)) (m % 2) (bits_at s (stored_code r s (m / 2) (m % 2)) (3 * u)))) 0 30;
    }

-- ---- its numbers

-- its lines after 4, D being the sum of all capacities: release 1 has none of 13
abbrev pub old_says : Sheet → List Saying
old_says sh =
    says 6 (60000 < equalised_all sh) ∷
    says 7 (60000 < places_all sh) ∷
    says 8 (NoBits sh) ∷
    []

abbrev pub stored_load : Release → Sheet → List Saying
stored_load release1 sh = says 5 (NoCapacity sh) ∷ old_says sh
stored_load release2 sh = says 5 (NoCapacity sh) ∷ says 13 (BadUplink sh) ∷ old_says sh
stored_load release3 sh = says 5 (NoCapacity sh) ∷ says 13 (BadUplink sh) ∷ old_says sh

abbrev pub stored_says : Release → List ℕ → List Saying
stored_says r s = bytes_says s (stored_sheet r s) (stored_slot r s (stored_t s)) (stored_spare r s) (stored_load r (stored_sheet r s))

-- ---- the fields that it has, and the bytes that it wrote of them: one after the other, and zeros to a whole byte

abbrev pub stored_most : Release → ℕ
stored_most release1 = 8
stored_most release2 = 8
stored_most release3 = 16

abbrev pub written_uplink : Release → Sheet → ℕ
written_uplink release1 sh = 0
written_uplink release2 sh = sh.uplink
written_uplink release3 sh = sh.uplink

pub record Known (r : Release) (sh : Sheet) : Type 0 where
  pub few : sh.channels ≤ stored_most r
  pub uplink : sh.uplink ≡ written_uplink r sh
  pub lcr : sh.lcr ≡ 0

-- the four bits behind T
abbrev pub stored_flags : Release → Sheet → List ℕ
stored_flags release1 sh = field 4 0
stored_flags release2 sh = field 1 sh.uplink ++ field 3 0
stored_flags release3 sh = field 1 sh.uplink ++ (field 1 0 ++ (field 1 ((sh.channels - 1) / 8) ++ field 1 0))

-- the head and the first i channels
unfoldable pub stored_channels : Release → Sheet → ℕ → List ℕ
stored_channels r sh zero =
    field 4 sh.version ++ (field 1 sh.mode ++ (field 3 ((sh.channels - 1) % 8) ++ (field 4 sh.slots ++ stored_flags r sh)))
stored_channels r sh (suc i) =
    stored_channels r sh i ++ (field 2 (tti_of sh i) ++ (field 14 (encoded_of sh i) ++ field 8 (ratio_of sh i - 1)))

-- the first p physical channels of slot t
unfoldable pub stored_codes : Release → Sheet → ℕ → ℕ → List ℕ
stored_codes r sh t zero = []
stored_codes r sh t (suc p) = stored_codes r sh t p ++ (field (3 * written_uplink r sh) (log_of sh t p) ++ field 12 (capacity_of sh t p))

-- the head, the channels and the first t slots
unfoldable pub stored_slots : Release → Sheet → ℕ → List ℕ
stored_slots r sh zero = stored_channels r sh sh.channels
stored_slots r sh (suc t) = stored_slots r sh t ++ (field 4 (phchs_of sh t - 1) ++ stored_codes r sh t (phchs_of sh t))

abbrev pub stored_bytes : Release → Sheet → List ℕ
stored_bytes r sh = let bits = stored_slots r sh sh.slots in packed (bit_of bits) ((length bits + 7) / 8)

-- ---- its frame: no sub-frames, and in release 1 each slot's bits one at a time

-- of D elements slot t's part
abbrev pub stored_part : {A : Type 0} → Sheet → ℕ → List A → List A
stored_part sh t xs = take (slot_capacity sh t) (drop (slot_start sh t) xs)

-- step 8, by the mode: over all D elements, then cut; or each slot's part by itself
abbrev pub stored_bits : {A : Type 0} → Sheet → List A → ℕ → List A
stored_bits sh xs t = cond (eqb sh.mode 0) (stored_part sh t (second_interleaved xs)) (second_interleaved (stored_part sh t xs))

abbrev pub stored_runs : Release → Sheet → ℕ → ℕ → ℕ
stored_runs release1 sh t = ones
stored_runs release2 sh t = runs_of sh t
stored_runs release3 sh t = runs_of sh t

unfoldable pub stored_frame : Release → Sheet → ℕ → List ℕ → List ℕ
stored_frame r sh frame contents =
    joined (λ t. let bits = stored_bits sh (multiplexed_bits sh frame contents) t in slot_of (stored_runs r sh t) (caps_of sh t) bits bits) sh.slots

-- ---- the index of the multiplexed frame that stands at a place of it; slot, PhCH and place are counted from 1

abbrev pub stored_number : Release → Sheet → ℕ → ℕ → ℕ → ℕ
stored_number r sh t p place = number_of (capacity_of sh t) (stored_runs r sh t) (phchs_of sh t) p (filled_as (capacity_of sh t p) (p + 1) place)

abbrev pub stored_from : Sheet → ℕ → ℕ → ℕ
stored_from sh t k =
    cond (eqb sh.mode 0) (comes_from (places_all sh) (slot_start sh t + k)) (slot_start sh t + comes_from (slot_capacity sh t) k)

abbrev pub stored_index : Release → Sheet → ℕ → ℕ → ℕ → ℕ
stored_index r sh slot phch place = stored_from sh (slot - 1) (stored_number r sh (slot - 1) (phch - 1) place)
