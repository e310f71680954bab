-- Frames of labels and names, computed: document 01's sheet, and three sheets whose frames an independent model of the document gave.
use mathlib.Core.Path.{◌≡◌, refl}
use mathlib.Core.List.{List, [], ◌∷◌, ◌++◌}
use Prim.Native.Nat.{ℕ}
use Rattle.laws.specs.Sums.{sum_to}
use Rattle.laws.specs.Tables.{table}
use Rattle.laws.specs.Joined.{joined, in_rows}
use Rattle.laws.specs.Least.{first}
use Rattle.bits.specs.Bits as Bits
use Rattle.sheet.specs.Fields.{slot_from, sheet_of}
use Rattle.sheet.specs.Sizes.{subframes_of}
use Rattle.sheet.specs.declared.Sheet.{Sheet}
use Rattle.orders.specs.Orders.{orders, column_at, row_of, order}
use Rattle.matching.specs.Shares.{channel_of}
use Rattle.offset.specs.Ints.{floor_div, floor_over, ceil_over, mod_over}
use Rattle.offset.specs.Offset.{remainder_of, q_of, euclid, gcd, added_of, q_f, y_of, filled, S, start_of}
use Rattle.pattern.specs.Closed.{count, changed, sent_before, source_of, copy_of}
use Rattle.pattern.specs.Text.{punctured_text, while_low, repeated_text, matched_text}
use Rattle.interleaving.specs.Columns.{column, columns}
use Rattle.interleaving.specs.First.{first_interleaved, segment_of}
use Rattle.interleaving.specs.Second as Second
use Rattle.mapping.specs.Mapping.{passed, one_more, onward, taker, after_bit, pos_of, place, run, mapped, number_of, filled_as}
use Rattle.frame.specs.Frame.{start_at, sent_of, multiplexed, caps_of, runs_of, slot_part, slot_share, share_part, slot_bits, spread, frame_of}
use Rattle.naming.specs.Name.{Name, labels, label_frame, slot_bit_at, read_from, multiplexed_at, bit_number, name_at, name_of}

abbrev name : ℕ → ℕ → ℕ → Name
name c b j = record { channel = c; bit = b; copy = j }

-- 10 10 00 06 00 00 04: one channel, E = 6, F = 1; one slot, D = 4. The frame is bits 2, 6, 3, 5
unfoldable pub short : Sheet
short = sheet_of (16 ∷ 16 ∷ 0 ∷ 6 ∷ 0 ∷ 0 ∷ 4 ∷ [])

unfoldable pub short_names : List Name
short_names = name 1 2 0 ∷ name 1 6 0 ∷ name 1 3 0 ∷ name 1 5 0 ∷ []

pub short_labelled : label_frame short 0 ≡ short_names
unfolding short short_names sheet_of slot_from subframes_of table Bits.val Bits.bit_at sum_to joined in_rows orders column_at row_of order floor_div floor_over ceil_over mod_over remainder_of q_of euclid gcd added_of q_f y_of filled S start_of punctured_text while_low repeated_text matched_text column columns first_interleaved segment_of Second.second_interleaved passed one_more onward taker after_bit pos_of place run mapped start_at sent_of multiplexed caps_of runs_of slot_part slot_share share_part slot_bits spread frame_of labels label_frame
short_labelled = refl

pub short_directly : table (name_of short 0 1 1 1) 1 4 ≡ short_names
unfolding short short_names sheet_of slot_from subframes_of table Bits.val Bits.bit_at sum_to first orders column_at order floor_div floor_over ceil_over mod_over remainder_of q_of euclid gcd added_of q_f y_of filled S start_of count changed sent_before source_of copy_of channel_of Second.turn_at Second.comes_from number_of filled_as start_at runs_of slot_bit_at read_from multiplexed_at bit_number name_at name_of
short_directly = refl

-- one channel, E = 13, F = 4; one slot of 10, 1 and 9 places; mode 1; frame 109, in which column 2 is sent, each bit five times; bit 15 is a filler
unfoldable pub repeated : Sheet
repeated = sheet_of (24 ∷ 16 ∷ 128 ∷ 13 ∷ 0 ∷ 32 ∷ 10 ∷ 0 ∷ 16 ∷ 9 ∷ [])

unfoldable pub repeated_names : List Name
repeated_names = name 1 3 0 ∷ name 1 15 0 ∷ name 1 11 3 ∷ name 1 15 3 ∷ name 1 11 1 ∷ name 1 15 1 ∷ name 1 11 4 ∷ name 1 7 4 ∷ name 1 3 2 ∷ name 1 15 2 ∷ name 1 11 0 ∷ name 1 7 0 ∷ name 1 3 3 ∷ name 1 7 3 ∷ name 1 3 1 ∷ name 1 7 1 ∷ name 1 3 4 ∷ name 1 15 4 ∷ name 1 11 2 ∷ name 1 7 2 ∷ []

pub repeated_labelled : label_frame repeated 109 ≡ repeated_names
unfolding repeated repeated_names sheet_of slot_from subframes_of table Bits.val Bits.bit_at sum_to joined in_rows orders column_at row_of order floor_div floor_over ceil_over mod_over remainder_of q_of euclid gcd added_of q_f y_of filled S start_of punctured_text while_low repeated_text matched_text column columns first_interleaved segment_of Second.second_interleaved passed one_more onward taker after_bit pos_of place run mapped start_at sent_of multiplexed caps_of runs_of slot_part slot_share share_part slot_bits spread frame_of labels label_frame
repeated_labelled = refl

pub repeated_directly : table (name_of repeated 109 1 1 1) 1 10 ++ table (name_of repeated 109 1 1 2) 1 1 ++ table (name_of repeated 109 1 1 3) 1 9 ≡ repeated_names
unfolding repeated repeated_names sheet_of slot_from subframes_of table Bits.val Bits.bit_at sum_to first orders column_at order floor_div floor_over ceil_over mod_over remainder_of q_of euclid gcd added_of q_f y_of filled S start_of count changed sent_before source_of copy_of channel_of Second.turn_at Second.comes_from number_of filled_as start_at runs_of slot_bit_at read_from multiplexed_at bit_number name_at name_of
repeated_directly = refl

-- channels E = 16 and 75, F = 2, RM = 3 and 2; slots of 9, 10 and 10 places; mode 1; frame 105
unfoldable pub punctured : Sheet
punctured = sheet_of (25 ∷ 48 ∷ 64 ∷ 16 ∷ 2 ∷ 64 ∷ 75 ∷ 1 ∷ 0 ∷ 9 ∷ 0 ∷ 10 ∷ 0 ∷ 10 ∷ [])

unfoldable pub punctured_names : List Name
punctured_names = name 1 2 0 ∷ name 1 16 0 ∷ name 1 10 0 ∷ name 2 10 0 ∷ name 1 6 0 ∷ name 2 4 0 ∷ name 1 14 0 ∷ name 1 8 0 ∷ name 2 8 0 ∷ name 2 14 0 ∷ name 2 30 0 ∷ name 2 24 0 ∷ name 2 40 0 ∷ name 2 18 0 ∷ name 2 34 0 ∷ name 2 28 0 ∷ name 2 44 0 ∷ name 2 20 0 ∷ name 2 38 0 ∷ name 2 48 0 ∷ name 2 64 0 ∷ name 2 58 0 ∷ name 2 74 0 ∷ name 2 50 0 ∷ name 2 68 0 ∷ name 2 60 0 ∷ name 2 76 0 ∷ name 2 54 0 ∷ name 2 70 0 ∷ []

pub punctured_labelled : label_frame punctured 105 ≡ punctured_names
unfolding punctured punctured_names sheet_of slot_from subframes_of table Bits.val Bits.bit_at sum_to joined in_rows orders column_at row_of order floor_div floor_over ceil_over mod_over remainder_of q_of euclid gcd added_of q_f y_of filled S start_of punctured_text while_low repeated_text matched_text column columns first_interleaved segment_of Second.second_interleaved passed one_more onward taker after_bit pos_of place run mapped start_at sent_of multiplexed caps_of runs_of slot_part slot_share share_part slot_bits spread frame_of labels label_frame
punctured_labelled = refl

pub punctured_directly : table (name_of punctured 105 1 1 1) 1 9 ++ table (name_of punctured 105 1 2 1) 1 10 ++ table (name_of punctured 105 1 3 1) 1 10 ≡ punctured_names
unfolding punctured punctured_names sheet_of slot_from subframes_of table Bits.val Bits.bit_at sum_to first orders column_at order floor_div floor_over ceil_over mod_over remainder_of q_of euclid gcd added_of q_f y_of filled S start_of count changed sent_before source_of copy_of channel_of Second.turn_at Second.comes_from number_of filled_as start_at runs_of slot_bit_at read_from multiplexed_at bit_number name_at name_of
punctured_directly = refl

-- channels E = 12, 30 and 29, F = 4, RM = 3, 2 and 2; slots of 12, 4, 4, 9 and of 6, 12, 1, 1 places; mode 0; frame 143
unfoldable pub mixed : Sheet
mixed = sheet_of (18 ∷ 32 ∷ 128 ∷ 12 ∷ 2 ∷ 128 ∷ 30 ∷ 1 ∷ 128 ∷ 29 ∷ 1 ∷ 48 ∷ 12 ∷ 0 ∷ 64 ∷ 4 ∷ 0 ∷ 147 ∷ 0 ∷ 96 ∷ 12 ∷ 0 ∷ 16 ∷ 1 ∷ [])

unfoldable pub mixed_names : List Name
mixed_names = name 1 4 0 ∷ name 3 20 1 ∷ name 3 28 1 ∷ name 2 8 0 ∷ name 3 16 2 ∷ name 3 32 2 ∷ name 1 4 1 ∷ name 2 4 1 ∷ name 2 20 1 ∷ name 3 16 0 ∷ name 2 12 1 ∷ name 3 32 0 ∷ name 3 24 2 ∷ name 2 28 0 ∷ name 1 8 1 ∷ name 3 4 1 ∷ name 2 20 0 ∷ name 3 12 1 ∷ name 1 4 3 ∷ name 2 24 1 ∷ name 1 8 2 ∷ name 3 24 0 ∷ name 3 8 0 ∷ name 2 32 1 ∷ name 2 16 0 ∷ name 1 12 1 ∷ name 3 8 2 ∷ name 2 12 0 ∷ name 2 4 0 ∷ name 2 28 1 ∷ name 3 28 0 ∷ name 2 16 1 ∷ name 3 20 0 ∷ name 2 4 2 ∷ name 1 4 2 ∷ name 3 32 1 ∷ name 2 12 2 ∷ name 2 32 0 ∷ name 2 24 0 ∷ name 3 16 1 ∷ name 1 12 0 ∷ name 3 8 1 ∷ name 3 24 1 ∷ name 3 4 0 ∷ name 1 12 2 ∷ name 2 24 2 ∷ name 1 8 0 ∷ name 3 12 0 ∷ name 2 8 1 ∷ []

pub mixed_labelled : label_frame mixed 143 ≡ mixed_names
unfolding mixed mixed_names sheet_of slot_from subframes_of table Bits.val Bits.bit_at sum_to joined in_rows orders column_at row_of order floor_div floor_over ceil_over mod_over remainder_of q_of euclid gcd added_of q_f y_of filled S start_of punctured_text while_low repeated_text matched_text column columns first_interleaved segment_of Second.second_interleaved passed one_more onward taker after_bit pos_of place run mapped start_at sent_of multiplexed caps_of runs_of slot_part slot_share share_part slot_bits spread frame_of labels label_frame
mixed_labelled = refl

pub mixed_directly : table (name_of mixed 143 1 1 1) 1 12 ++ table (name_of mixed 143 1 1 2) 1 4 ++ table (name_of mixed 143 1 1 3) 1 4 ++ table (name_of mixed 143 1 1 4) 1 9 ++ table (name_of mixed 143 1 2 1) 1 6 ++ table (name_of mixed 143 1 2 2) 1 12 ++ table (name_of mixed 143 1 2 3) 1 1 ++ table (name_of mixed 143 1 2 4) 1 1 ≡ mixed_names
unfolding mixed mixed_names sheet_of slot_from subframes_of table Bits.val Bits.bit_at sum_to first orders column_at order floor_div floor_over ceil_over mod_over remainder_of q_of euclid gcd added_of q_f y_of filled S start_of count changed sent_before source_of copy_of channel_of Second.turn_at Second.comes_from number_of filled_as start_at runs_of slot_bit_at read_from multiplexed_at bit_number name_at name_of
mixed_directly = refl
