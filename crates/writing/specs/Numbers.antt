-- The lines of writing a sheet from its fields: 2 to 5, 13, 14, 6 to 8, and 11 for the buffer.
use Rattle.std.specs.Prelude.{Bool, not, ◌||◌, List, [], ◌∷◌, ◌++◌, ℕ, eqb, ltb}
use Rattle.laws.specs.Sums.{any_to}
use Rattle.counters.specs.Lines.{Line, line, first_of}
use Rattle.sheet.specs.Counts.{most_channels, most_slots, most_codes, most_tti, most_encoded, most_ratio, most_capacity}
use Rattle.sheet.specs.Fields.{tti_of, encoded_of, ratio_of, phchs_of, capacity_of}
use Rattle.sheet.specs.Sizes.{bytes_needed}
use Rattle.sheet.specs.Numbers.{load_lines}
use Rattle.sheet.specs.declared.Sheet.{Sheet}

-- 4: a field is outside its range, and none of 2, 3, 5, 13 and 14 names it
abbrev pub outside : ℕ → ℕ → ℕ → Bool
outside least most x = ltb x least || ltb most x

abbrev pub channel_outside : Sheet → ℕ → Bool
channel_outside sh i = ltb most_tti (tti_of sh i) || (ltb most_encoded (encoded_of sh i) || outside 1 most_ratio (ratio_of sh i))

abbrev pub slot_outside : Sheet → ℕ → Bool
slot_outside sh t = outside 1 most_codes (phchs_of sh t) || any_to (λ p. ltb most_capacity (capacity_of sh t p)) (phchs_of sh t)

abbrev pub flag_outside : Sheet → Bool
flag_outside sh = ltb 1 sh.mode || (ltb 1 sh.uplink || ltb 1 sh.lcr)

abbrev pub field_outside : Sheet → Bool
field_outside sh =
    flag_outside sh
    || (outside 1 most_channels sh.channels
    || (ltb most_slots sh.slots || (any_to (channel_outside sh) sh.channels || any_to (slot_outside sh) sh.slots)))

-- the lines that look at the fields alone
abbrev pub field_lines : Sheet → List Line
field_lines sh =
    line (not (eqb sh.version 1)) 2 ∷
    line (eqb sh.slots 0) 3 ∷
    line (field_outside sh) 4 ∷
    load_lines sh

abbrev pub field_number : Sheet → ℕ
field_number sh = first_of (field_lines sh)

-- those, and the line of a buffer of n bytes
abbrev pub write_lines : Sheet → ℕ → List Line
write_lines sh n = field_lines sh ++ line (not (eqb n (bytes_needed sh))) 11 ∷ []

abbrev pub write_number : Sheet → ℕ → ℕ
write_number sh n = first_of (write_lines sh n)
