-- The lines of the table of numbers that a sheet alone has, 1 to 5, 13, 14, and 6 to 8, and what reading a sheet answers.
use Rattle.std.specs.Prelude.{Bool, not, ◌&&◌, ◌||◌, List, [], ◌∷◌, ℕ, ◌+◌, ◌-◌, ◌*◌, Result, eqb, ltb, length, get_or}
use Rattle.laws.specs.Sums.{sum_to, any_to}
use Rattle.counters.specs.Lines.{Line, line, first_of, given}
use Rattle.counters.specs.Refusals.{answer_number, value_or}
use Rattle.counters.specs.declared.refusal.Refusal.{Refusal}
use Rattle.bits.specs.Bits.{bits_at}
use Rattle.sheet.specs.Counts.{most_codes, most_paired, most_lcr_slots, most_bits, most_log}
use Rattle.sheet.specs.Fields.{spare_in, sheet_of, blank, encoded_of, phchs_of, capacity_of, log_in}
use Rattle.sheet.specs.Sizes.{equalised_all, places_all, capacity_all, bits_needed, bytes_needed}
use Rattle.sheet.specs.declared.sizes.Load.{Load}
use Rattle.sheet.specs.declared.Sheet.{Sheet}

-- 4: sheet length not what its fields need, or a spare or padding bit set
abbrev pub misfit : List ℕ → Bool
misfit s =
    not (eqb (length s) (bytes_needed (sheet_of s)))
    || (not (eqb (spare_in s) 0) || not (eqb (bits_at s (bits_needed (sheet_of s)) (8 * length s - bits_needed (sheet_of s))) 0))

-- 5: a capacity is 0
abbrev pub empty_place : Sheet → Bool
empty_place sh = any_to (λ t. any_to (λ p. eqb (capacity_of sh t p) 0) (phchs_of sh t)) sh.slots

-- 13: an uplink slot has more than two physical channels, or a logarithm over 4
abbrev pub slot_beyond : List ℕ → ℕ → ℕ → Bool
slot_beyond logs t n = ltb most_paired n || any_to (λ p. ltb most_log (log_in logs t p)) n

abbrev pub some_beyond : List ℕ → List ℕ → ℕ → Bool
some_beyond phchs logs n = any_to (λ t. slot_beyond logs t (get_or phchs t 0)) n

abbrev pub beyond_uplink : Sheet → Bool
beyond_uplink sh = not (eqb sh.uplink 0) && some_beyond sh.phchs sh.logs sh.slots

-- 14: at 1.28 Mcps a sub-frame has more than seven slots
abbrev pub beyond_subframe : Sheet → Bool
beyond_subframe sh = not (eqb sh.lcr 0) && ltb most_lcr_slots sh.slots

-- what n capacities from `from` on come to, and those of n slots
abbrev pub slot_load : List ℕ → ℕ → ℕ → Load
slot_load caps from n =
    record { empty = any_to (λ p. eqb (get_or caps (from + p) 0) 0) n; sum = sum_to (λ p. get_or caps (from + p) 0) n }

abbrev pub whole_load : List ℕ → List ℕ → ℕ → Load
whole_load phchs caps n =
    record {
      empty = any_to (λ t. (slot_load caps (most_codes * t) (get_or phchs t 0)).empty) n;
      sum = sum_to (λ t. (slot_load caps (most_codes * t) (get_or phchs t 0)).sum) n;
    }

-- what the capacities of a sheet come to: the lines 5 and 7 need it
abbrev pub load_of : Sheet → Load
load_of sh = record { empty = empty_place sh; sum = places_all sh }

-- 8: every E is 0
abbrev pub silent : Sheet → Bool
silent sh = not (any_to (λ i. not (eqb (encoded_of sh i) 0)) sh.channels)

-- the lines from 5 on, which look at fields alone: every list of a sheet's lines ends with them
abbrev pub load_lines : Sheet → List Line
load_lines sh =
    line (empty_place sh) 5 ∷
    line (beyond_uplink sh) 13 ∷
    line (beyond_subframe sh) 14 ∷
    line (ltb most_bits (equalised_all sh)) 6 ∷
    line (ltb most_bits (capacity_all sh)) 7 ∷
    line (silent sh) 8 ∷
    []

-- the lines of a sheet's bytes
abbrev pub read_lines : List ℕ → List Line
read_lines s =
    line (ltb (length s) 2) 1 ∷
    line (not (eqb (sheet_of s).version 1)) 2 ∷
    line (eqb (sheet_of s).slots 0) 3 ∷
    line (misfit s) 4 ∷
    load_lines (sheet_of s)

abbrev pub read_number : List ℕ → ℕ
read_number s = first_of (read_lines s)

-- what a caller is told of a sheet: its number, and its fields where that is 0
pub record SheetAnswer : Type 0 where
  pub number : ℕ
  pub sheet : Sheet

-- the fields where no line holds, zeros where one does
abbrev pub read_answer : List ℕ → SheetAnswer
read_answer s = record { number = read_number s; sheet = given (read_number s) (sheet_of s) blank }

-- what reading a sheet leaves, in these terms
abbrev pub read_left : Result Sheet Refusal → SheetAnswer
read_left r = record { number = answer_number r; sheet = value_or blank r }
