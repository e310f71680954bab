-- A frame of anything: steps 1 to 9 of document 01, one after the other, for elements of any type. Channels, sub-frames and slots are counted
-- from 0 here.
use Rattle.std.specs.Prelude.{Bool, cond, not, ◌&&◌, List, ℕ, ◌+◌, ◌*◌, ◌%◌, ◌^◌, eqb, take, drop}
use Rattle.laws.specs.Sums.{sum_to}
use Rattle.laws.specs.Joined.{joined, in_rows}
use Rattle.sheet.specs.Counts.{most_codes, most_paired}
use Rattle.sheet.specs.Fields.{tti_of, encoded_of, phchs_of, log_of}
use Rattle.sheet.specs.Sizes.{frames_of, size_of, slot_capacity, places_all, subframes_of}
use Rattle.sheet.specs.declared.Sheet.{Sheet}
use Rattle.matching.specs.Shares.{change_of}
use Rattle.offset.specs.Offset.{start_of}
use Rattle.pattern.specs.Pattern.{as_is}
use Rattle.pattern.specs.Text.{matched_text}
use Rattle.interleaving.specs.First.{equalised, segment_of}
use Rattle.interleaving.specs.Second.{second_interleaved}
use Rattle.mapping.specs.Mapping.{ones, first_run, second_run, in_runs, slot_of}

-- step 5: e of channel i in a frame
unfoldable pub start_at : Sheet → ℕ → ℕ → ℕ
start_at sh frame i = start_of (size_of sh i) (change_of sh i) (tti_of sh i) frame

-- steps 2, 3 and 6: what channel i sends in a frame of its T_i elements t. f says what is sent for copy j of an element
unfoldable pub sent_of : {A B : Type 0} → (A → ℕ → B) → Sheet → ℕ → ℕ → List A → List B
sent_of f sh frame i t =
    matched_text f (change_of sh i) (size_of sh i) (start_at sh frame i) (segment_of (tti_of sh i) (frame % frames_of sh i) (size_of sh i) t)

-- step 7: channel after channel, ts i being the T_i elements of channel i
unfoldable pub multiplexed : {A B : Type 0} → (A → ℕ → B) → Sheet → ℕ → (ℕ → List A) → List B
multiplexed f sh frame ts = joined (λ i. sent_of f sh frame i (ts i)) sh.channels

-- the capacities of slot t
unfoldable pub caps_of : Sheet → ℕ → List ℕ
caps_of sh t = take (phchs_of sh t) (drop (most_codes * t) sh.caps)

-- whether slot t is an uplink one of two physical channels, and the spreading factor of its physical channel p
abbrev pub paired_in : Sheet → ℕ → Bool
paired_in sh t = not (eqb sh.uplink 0) && eqb (phchs_of sh t) most_paired

abbrev pub factor_of : Sheet → ℕ → ℕ → ℕ
factor_of sh t p = 2 ^ log_of sh t p

-- how many bits each physical channel of slot t takes at its turn: of such a pair, by the spreading factors, and else one
unfoldable pub runs_of : Sheet → ℕ → ℕ → ℕ
runs_of sh t =
    cond (paired_in sh t) (in_runs (first_run (factor_of sh t 0) (factor_of sh t 1)) (second_run (factor_of sh t 0) (factor_of sh t 1))) ones

-- where slot t begins in its sub-frame, and where sub-frame h begins in the frame
abbrev pub slot_start : Sheet → ℕ → ℕ
slot_start sh t = sum_to (slot_capacity sh) t

abbrev pub subframe_start : Sheet → ℕ → ℕ
subframe_start sh h = h * places_all sh

-- of D elements in the frame's order, the part of slot t of sub-frame h
unfoldable pub slot_part : {A : Type 0} → Sheet → ℕ → ℕ → List A → List A
slot_part sh h t xs = take (slot_capacity sh t) (drop (subframe_start sh h + slot_start sh t) xs)

-- of the D multiplexed elements, the share of slot t, for all sub-frames; and of such a share, what is sub-frame h's
unfoldable pub slot_share : {A : Type 0} → Sheet → ℕ → List A → List A
slot_share sh t xs = take (subframes_of sh * slot_capacity sh t) (drop (subframes_of sh * slot_start sh t) xs)

unfoldable pub share_part : {A : Type 0} → Sheet → ℕ → ℕ → List A → List A
share_part sh h t ys = take (slot_capacity sh t) (drop (h * slot_capacity sh t) ys)

-- the frame: sub-frame after sub-frame, and in each slot after slot
abbrev pub in_slots : {A : Type 0} → Sheet → (ℕ → ℕ → List A) → List A
in_slots sh g = in_rows g (subframes_of sh) sh.slots

-- step 8. Mode 0: over all D elements, then cut into sub-frames and slots. Mode 1: cut into slots first, each slot's share by itself, which is then
-- cut into sub-frames
unfoldable pub slot_bits : {A : Type 0} → Sheet → List A → ℕ → ℕ → List A
slot_bits sh xs h t =
    cond (eqb sh.mode 0) (slot_part sh h t (second_interleaved xs)) (share_part sh h t (second_interleaved (slot_share sh t xs)))

-- step 9 of one slot. Each place of it is written, so that it does not matter what stood there before
abbrev pub slot_mapped : {A : Type 0} → Sheet → ℕ → List A → List A
slot_mapped sh t bits = slot_of (runs_of sh t) (caps_of sh t) bits bits

-- steps 8 and 9, of sub-frame h and of all
unfoldable pub spread_subframe : {A : Type 0} → Sheet → ℕ → List A → List A
spread_subframe sh h xs = joined (λ t. slot_mapped sh t (slot_bits sh xs h t)) sh.slots

unfoldable pub spread : {A : Type 0} → Sheet → List A → List A
spread sh xs = in_slots sh (λ h t. slot_mapped sh t (slot_bits sh xs h t))

-- steps 2 to 9
unfoldable pub frame_of : {A B : Type 0} → (A → ℕ → B) → Sheet → ℕ → (ℕ → List A) → List B
frame_of f sh frame ts = spread sh (multiplexed f sh frame ts)

-- step 1, of the contents: channels in order, E bits each, fillers 0
unfoldable pub contents_of : Sheet → List ℕ → ℕ → List ℕ
contents_of sh contents i = take (encoded_of sh i) (drop (sum_to (encoded_of sh) i) contents)

unfoldable pub bits_of : Sheet → List ℕ → ℕ → List ℕ
bits_of sh contents i = equalised 0 (tti_of sh i) (size_of sh i) (contents_of sh contents i)

-- steps 1 to 7, and 1 to 9
unfoldable pub multiplexed_bits : Sheet → ℕ → List ℕ → List ℕ
multiplexed_bits sh frame contents = multiplexed as_is sh frame (bits_of sh contents)

unfoldable pub bit_frame : Sheet → ℕ → List ℕ → List ℕ
bit_frame sh frame contents = frame_of as_is sh frame (bits_of sh contents)
