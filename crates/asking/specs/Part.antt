-- What asking for a channel's part of a multiplexed frame answers, and the part.
use Rattle.std.specs.Prelude.{List, [], ◌∷◌, ◌++◌, ℕ, ◌+◌, ◌-◌, ◌*◌, Result, length}
use Rattle.counters.specs.Lines.{Line, line, first_of, given}
use Rattle.counters.specs.Refusals.{answer_number, value_or}
use Rattle.counters.specs.declared.refusal.Refusal.{Refusal}
use Rattle.sheet.specs.Fields.{sheet_of}
use Rattle.sheet.specs.Sizes.{capacity_all}
use Rattle.sheet.specs.Numbers.{read_lines}
use Rattle.sheet.specs.declared.Sheet.{Sheet}
use Rattle.matching.specs.Shares.{cut_of, share_of, channel_part}
use Rattle.looking.specs.Looking.{no_trch, not_long}
use Rattle.asking.specs.declared.part.PartSpan.{PartSpan}

-- what C is told
pub record PartAnswer : Type 0 where
  pub number : ℕ
  pub start : ℕ
  pub length : ℕ

-- the sheet's own numbers, then 10 where TrCH k does not exist, then 11 where the frame has not D values
abbrev pub part_lines : List ℕ → ℕ → ℕ → List Line
part_lines s k n = read_lines s ++ line (no_trch (sheet_of s) k) 10 ∷ line (not_long n (capacity_all (sheet_of s))) 11 ∷ []

abbrev pub part_number : List ℕ → ℕ → ℕ → ℕ
part_number s k n = first_of (part_lines s k n)

abbrev pub part_made : ℕ → ℕ → ℕ → PartAnswer
part_made number start long = record { number = number; start = start; length = long }

-- channel i's part, which is counted from 0 here, begins at the Z before it and is as long as its share
abbrev pub part_in : Sheet → ℕ → PartAnswer
part_in sh i = part_made 0 (cut_of sh i) (share_of sh i)

abbrev pub no_part : ℕ → PartAnswer
no_part number = part_made number 0 0

abbrev pub part_answer : List ℕ → ℕ → ℕ → PartAnswer
part_answer s k n = given (part_number s k n) (part_in (sheet_of s) (k - 1)) (no_part (part_number s k n))

-- what the call answers, in these terms
abbrev pub part_given : PartSpan → PartAnswer
part_given p = part_made 0 p.start p.length

abbrev pub no_part_found : PartSpan
no_part_found = record { start = 0; length = 0 }

abbrev pub part_left : Result PartSpan Refusal → PartAnswer
part_left r =
    let p = value_or no_part_found r in
    part_made (answer_number r) p.start p.length

-- the part of a multiplexed frame of anything: empty where refused
abbrev pub part_of : {A : Type 0} → List ℕ → ℕ → List A → List A
part_of s k vs = given (part_number s k (length vs)) (channel_part (sheet_of s) (k - 1) vs) []

-- where it lies, as a block of memory and an offset in bytes: in the caller's own frame of n values, each of `size` bytes, `start` values on
abbrev pub part_at : ℕ → List ℕ → ℕ → ℕ → ℕ × ℕ → ℕ × ℕ
part_at size s k n frame = (frame.0, (part_answer s k n).start * size + frame.1)
