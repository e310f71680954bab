-- What building a frame, multiplexing and spreading leave.
use Rattle.std.specs.Prelude.{Bool, cond, List, ◌++◌, ℕ, length}
use Rattle.counters.specs.Lines.{Line, first_of}
use Rattle.sheet.specs.Fields.{sheet_of}
use Rattle.sheet.specs.Sizes.{encoded_all, capacity_all}
use Rattle.sheet.specs.Numbers.{read_lines}
use Rattle.frame.specs.Frame.{spread, multiplexed_bits, bit_frame}
use Rattle.frame.specs.Bit.{is_bit, first_bad}
use Rattle.looking.specs.Outcome.{Outcome}
use Rattle.looking.specs.Looking.{frame_lines, look_lines, looked}

-- build and multiplex: the sheet's own numbers and 9, then the contents, of which the sum of E is needed, and D places in the buffer of n
abbrev pub content_lines : List ℕ → ℕ → List ℕ → ℕ → List Line
content_lines s frame contents n =
    frame_lines s frame ++ look_lines is_bit contents (encoded_all (sheet_of s)) n (capacity_all (sheet_of s))

-- steps 1 to 9, into a frame that was `old`
abbrev pub build_into : List ℕ → ℕ → List ℕ → List ℕ → Outcome ℕ
build_into s frame contents old =
    looked (first_of (content_lines s frame contents (length old))) (first_bad contents) (capacity_all (sheet_of s)) (bit_frame (sheet_of s) frame contents) old

-- steps 1 to 7
abbrev pub multiplex_into : List ℕ → ℕ → List ℕ → List ℕ → Outcome ℕ
multiplex_into s frame contents old =
    looked (first_of (content_lines s frame contents (length old))) (first_bad contents) (capacity_all (sheet_of s)) (multiplexed_bits (sheet_of s) frame contents) old

-- spread: the sheet's own numbers, then the multiplexed bits, of which D are needed, and D places
abbrev pub spread_lines : List ℕ → List ℕ → ℕ → List Line
spread_lines s bits n = read_lines s ++ look_lines is_bit bits (capacity_all (sheet_of s)) n (capacity_all (sheet_of s))

-- steps 8 and 9
abbrev pub spread_into : List ℕ → List ℕ → List ℕ → Outcome ℕ
spread_into s bits old =
    looked (first_of (spread_lines s bits (length old))) (first_bad bits) (capacity_all (sheet_of s)) (spread (sheet_of s) bits) old
