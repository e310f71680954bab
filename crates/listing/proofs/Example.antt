-- Document 01's example of the lister and two refused sheets, computed.
use mathlib.Core.Path.{◌≡◌, refl}
use mathlib.Core.List.{[], ◌∷◌}
use Rattle.laws.specs.Sums.{sum_to, any_to}
use Rattle.laws.specs.Tables.{table}
use Rattle.bits.specs.Bits.{val, bit_at}
use Rattle.sheet.specs.Fields.{slot_from, sheet_of}
use Rattle.sheet.specs.Sizes.{subframes_of}
use Rattle.listing.specs.Listing.{least_from, decimal_of, head_line, with_line, lines_to, refusal, listing_of}

-- channels 1 slots 1 capacity 4
-- 1 F 1 E 6 N 6 V 4
pub example : listing_of (16 ∷ 16 ∷ 0 ∷ 6 ∷ 0 ∷ 0 ∷ 4 ∷ [])
    ≡ 99 ∷ 104 ∷ 97 ∷ 110 ∷ 110 ∷ 101 ∷ 108 ∷ 115 ∷ 32 ∷ 49 ∷ 32 ∷ 115 ∷ 108 ∷ 111 ∷ 116 ∷ 115 ∷ 32 ∷ 49 ∷ 32 ∷ 99 ∷ 97 ∷ 112 ∷ 97 ∷ 99 ∷ 105 ∷ 116 ∷ 121 ∷ 32 ∷ 52 ∷ 10 ∷ 49 ∷ 32 ∷ 70 ∷ 32 ∷ 49 ∷ 32 ∷ 69 ∷ 32 ∷ 54 ∷ 32 ∷ 78 ∷ 32 ∷ 54 ∷ 32 ∷ 86 ∷ 32 ∷ 52 ∷ 10 ∷ []
unfolding val bit_at table sum_to any_to slot_from sheet_of subframes_of least_from decimal_of head_line with_line lines_to listing_of
example = refl

-- one byte more: refused 4
pub longer : listing_of (16 ∷ 16 ∷ 0 ∷ 6 ∷ 0 ∷ 0 ∷ 4 ∷ 0 ∷ []) ≡ 114 ∷ 101 ∷ 102 ∷ 117 ∷ 115 ∷ 101 ∷ 100 ∷ 32 ∷ 52 ∷ 10 ∷ []
unfolding val bit_at table sum_to slot_from sheet_of subframes_of least_from decimal_of refusal listing_of
longer = refl

-- no byte: refused 1
pub empty : listing_of [] ≡ 114 ∷ 101 ∷ 102 ∷ 117 ∷ 115 ∷ 101 ∷ 100 ∷ 32 ∷ 49 ∷ 10 ∷ []
unfolding least_from decimal_of refusal listing_of
empty = refl
