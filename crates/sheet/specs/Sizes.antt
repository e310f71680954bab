-- The sizes that a sheet's fields give: N, T_i, their sum, the sum of E, the sub-frames, D, and the sheet's own length.
use Rattle.std.specs.Prelude.{cond, ℕ, ◌+◌, ◌-◌, ◌*◌, ◌/◌, ◌^◌, eqb}
use Rattle.laws.specs.Sums.{sum_to}
use Rattle.sheet.specs.Layout.{channel_at, slot_width}
use Rattle.sheet.specs.Fields.{tti_of, encoded_of, phchs_of, capacity_of}
use Rattle.sheet.specs.declared.Sheet.{Sheet}

-- TTI 0 to 3 = 10, 20, 40, 80 ms: F = 1, 2, 4, 8
abbrev pub frames_in : ℕ → ℕ
frames_in tti = 2 ^ tti

-- step 1: N = floor((E-1)/F)+1, and N = 0 for E = 0
abbrev pub segment_in : ℕ → ℕ → ℕ
segment_in e f = cond (eqb e 0) 0 ((e - 1) / f + 1)

-- F, N and T_i = F x N of channel i
abbrev pub frames_of : Sheet → ℕ → ℕ
frames_of sh i = frames_in (tti_of sh i)

abbrev pub size_of : Sheet → ℕ → ℕ
size_of sh i = segment_in (encoded_of sh i) (frames_of sh i)

abbrev pub equalised_of : Sheet → ℕ → ℕ
equalised_of sh i = frames_of sh i * size_of sh i

-- the sums of all E and of all equalised sizes
abbrev pub encoded_all : Sheet → ℕ
encoded_all sh = sum_to (encoded_of sh) sh.channels

abbrev pub equalised_all : Sheet → ℕ
equalised_all sh = sum_to (equalised_of sh) sh.channels

-- the capacity of slot t, and the sum of all capacities, which is the places of a sub-frame
abbrev pub slot_capacity : Sheet → ℕ → ℕ
slot_capacity sh t = sum_to (capacity_of sh t) (phchs_of sh t)

abbrev pub places_all : Sheet → ℕ
places_all sh = sum_to (slot_capacity sh) sh.slots

-- the sub-frames of a frame, each with all of the sheet's slots: two at 1.28 Mcps, and else one; and D, the places of the frame
unfoldable pub subframes_of : Sheet → ℕ
subframes_of sh = 1 + sh.lcr

abbrev pub capacity_all : Sheet → ℕ
capacity_all sh = subframes_of sh * places_all sh

-- the bit at which slot t begins, and the bits and the bytes that the fields need
abbrev pub slot_at : Sheet → ℕ → ℕ
slot_at sh t = channel_at sh.channels + sum_to (λ k. slot_width sh.uplink (phchs_of sh k)) t

abbrev pub bits_needed : Sheet → ℕ
bits_needed sh = slot_at sh sh.slots

abbrev pub bytes_needed : Sheet → ℕ
bytes_needed sh = (bits_needed sh + 7) / 8
