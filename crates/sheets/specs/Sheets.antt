-- What reading a sheet, asking for its length and writing it leave.
use Rattle.std.specs.Prelude.{Bool, List, [], ◌∷◌, ◌++◌, ℕ, length}
use Rattle.counters.specs.Lines.{Line, line, first_of, answer_of}
use Rattle.counters.specs.Lines.{Answer}
use Rattle.sheet.specs.Fields.{sheet_of}
use Rattle.sheet.specs.Sizes.{bytes_needed}
use Rattle.sheet.specs.Numbers.{read_lines}
use Rattle.sheet.specs.declared.Sheet.{Sheet}
use Rattle.writing.specs.Numbers.{field_lines, write_lines, write_number}
use Rattle.writing.specs.Written.{bytes_of}
use Rattle.looking.specs.Outcome.{Outcome, wrote}
use Rattle.looking.specs.Looking.{not_long}
use Rattle.sheets.specs.Flat.{flat_count, flat_of, sheet_from}

-- 11: a row of fields has not 549 numbers
abbrev pub not_flat : ℕ → Bool
not_flat n = not_long n flat_count

-- umv_sheet_read: 1 to 5, 13, 14, 6 to 8, then 11 where the fields' buffer has not 549 numbers
abbrev pub read_into_lines : List ℕ → ℕ → List Line
read_into_lines s n = read_lines s ++ line (not_flat n) 11 ∷ []

abbrev pub read_into : List ℕ → List ℕ → Outcome ℕ
read_into s old = wrote (first_of (read_into_lines s (length old))) flat_count (flat_of (sheet_of s)) old

-- sheet_write, from a struct of fields into a buffer that was `old`
abbrev pub write_into : Sheet → List ℕ → Outcome ℕ
write_into sh old = wrote (write_number sh (length old)) (bytes_needed sh) (bytes_of sh) old

-- umv_sheet_length and umv_sheet_write, from a row of numbers: where there are not 549, there are no fields to ask anything else of
abbrev pub length_from_lines : List ℕ → List Line
length_from_lines l = line (not_flat (length l)) 11 ∷ field_lines (sheet_from l)

abbrev pub answer_made : ℕ → ℕ → Answer
answer_made number at = record { number = number; at = at }

abbrev pub length_from : List ℕ → Answer
length_from l = answer_of (first_of (length_from_lines l)) (bytes_needed (sheet_from l))

abbrev pub write_from_lines : List ℕ → ℕ → List Line
write_from_lines l n = line (not_flat (length l)) 11 ∷ write_lines (sheet_from l) n

abbrev pub write_from : List ℕ → List ℕ → Outcome ℕ
write_from l old = wrote (first_of (write_from_lines l (length old))) (bytes_needed (sheet_from l)) (bytes_of (sheet_from l)) old
