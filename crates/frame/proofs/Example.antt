-- Frames of document 01's sheet, of one whose offset is not that of frame 0, and of two of 1.28 Mcps, computed.
use mathlib.Core.Path.{◌≡◌, refl}
use mathlib.Core.List.{[], ◌∷◌}
use Prim.Native.Nat.{◌+◌}
use Rattle.laws.specs.Sums.{sum_to}
use Rattle.laws.specs.Tables.{table}
use Rattle.laws.specs.Joined.{joined, in_rows}
use Rattle.bits.specs.Bits as Bits
use Rattle.sheet.specs.Fields.{slot_from, sheet_of}
use Rattle.sheet.specs.Sizes.{subframes_of}
use Rattle.orders.specs.Orders.{orders, column_at, row_of, order}
use Rattle.offset.specs.Ints.{floor_div, floor_over, ceil_over, mod_over}
use Rattle.offset.specs.Offset.{remainder_of, q_of, euclid, gcd, added_of, q_f, y_of, filled, S, start_of}
use Rattle.pattern.specs.Pattern.{as_is}
use Rattle.pattern.specs.Text.{punctured_text, while_low, repeated_text, matched_text}
use Rattle.interleaving.specs.Columns.{column, columns}
use Rattle.interleaving.specs.First.{equalised, first_interleaved, segment_of}
use Rattle.interleaving.specs.Second.{second_interleaved}
use Rattle.mapping.specs.Mapping.{passed, one_more, onward, taker, after_bit, pos_of, place, run, mapped}
use Rattle.frame.specs.Frame.{start_at, sent_of, multiplexed, caps_of, runs_of, slot_part, slot_share, share_part, slot_bits, spread, frame_of, contents_of, bits_of, bit_frame}

-- 10 10 00 06 00 00 04: E = 6, F = 1, D = 4. Contents 1,0,1,1,0,0 give the frame 0,0,1,0
pub sheet_bits_lem : bit_frame (sheet_of (16 ∷ 16 ∷ 0 ∷ 6 ∷ 0 ∷ 0 ∷ 4 ∷ [])) 0 (1 ∷ 0 ∷ 1 ∷ 1 ∷ 0 ∷ 0 ∷ []) ≡ 0 ∷ 0 ∷ 1 ∷ 0 ∷ []
unfolding sheet_of slot_from subframes_of table Bits.val Bits.bit_at sum_to joined in_rows orders column_at row_of order floor_div floor_over ceil_over mod_over remainder_of q_of euclid gcd added_of q_f y_of filled S start_of punctured_text while_low repeated_text matched_text column columns first_interleaved segment_of second_interleaved passed one_more onward taker after_bit pos_of place run mapped start_at sent_of multiplexed caps_of runs_of slot_part slot_bits spread frame_of equalised contents_of bits_of bit_frame
sheet_bits_lem = refl

-- E = 40, F = 4, D = 7: N = 10, d = -3, and in frame 1 e starts at 7. Of bits 1 to 40, column 2 is sent without its bits 2, 5 and 8
pub second-frame : frame_of as_is (sheet_of (16 ∷ 16 ∷ 128 ∷ 40 ∷ 0 ∷ 0 ∷ 7 ∷ [])) 1 (λ i. table (λ k. k + 1) 0 40) ≡ 3 ∷ 35 ∷ 23 ∷ 11 ∷ 39 ∷ 27 ∷ 15 ∷ []
unfolding sheet_of slot_from subframes_of table Bits.val Bits.bit_at sum_to joined in_rows orders column_at row_of order floor_div floor_over ceil_over mod_over remainder_of q_of euclid gcd added_of q_f y_of filled S start_of punctured_text while_low repeated_text matched_text column columns first_interleaved segment_of second_interleaved passed one_more onward taker after_bit pos_of place run mapped start_at sent_of multiplexed caps_of runs_of slot_part slot_bits spread frame_of
second-frame = refl

-- C-14: two slots of two places in each of two sub-frames, so that D = 8, and one channel of bits 1 to 8, none dropped and none repeated. Mode 0: 8 bits are
-- interleaved to 1, 6, 4, 2, 7, 5, 3, 8, and sub-frame 1 has the first half. Mode 1: slot 1's bits 1 to 4 to 1, 4, 2, 3 and slot 2's bits 5 to 8 to 5, 8, 6, 7, of
-- each of which sub-frame 1 has the first half
pub halves :
    (frame_of as_is (sheet_of (16 ∷ 36 ∷ 0 ∷ 8 ∷ 0 ∷ 0 ∷ 2 ∷ 0 ∷ 2 ∷ [])) 0 (λ i. table (λ k. k + 1) 0 8) ≡ 1 ∷ 6 ∷ 4 ∷ 2 ∷ 7 ∷ 5 ∷ 3 ∷ 8 ∷ [])
    × (frame_of as_is (sheet_of (24 ∷ 36 ∷ 0 ∷ 8 ∷ 0 ∷ 0 ∷ 2 ∷ 0 ∷ 2 ∷ [])) 0 (λ i. table (λ k. k + 1) 0 8) ≡ 1 ∷ 4 ∷ 5 ∷ 8 ∷ 2 ∷ 3 ∷ 6 ∷ 7 ∷ [])
unfolding sheet_of slot_from subframes_of table Bits.val Bits.bit_at sum_to joined in_rows orders column_at row_of order floor_div floor_over ceil_over mod_over remainder_of q_of euclid gcd added_of q_f y_of filled S start_of punctured_text while_low repeated_text matched_text column columns first_interleaved segment_of second_interleaved passed one_more onward taker after_bit pos_of place run mapped start_at sent_of multiplexed caps_of runs_of slot_part slot_share share_part slot_bits spread frame_of
halves = (refl, refl)
