-- What the calls that bring soft values home leave: gathering, taking back and finishing.
use Rattle.std.specs.Prelude.{◌||◌, List, [], ◌∷◌, ◌++◌, ℕ, ◌-◌, Float, length}
use Rattle.std.specs.Float.{nan}
use Rattle.counters.specs.Lines.{Line, line, first_of}
use Rattle.sheet.specs.Fields.{sheet_of, encoded_of}
use Rattle.sheet.specs.Sizes.{capacity_all, equalised_all}
use Rattle.sheet.specs.Numbers.{read_lines}
use Rattle.joining.specs.Range.{in_range, first_out}
use Rattle.homing.specs.Gather.{gathered}
use Rattle.homing.specs.Home.{taken_back_of, taken_count, finished_of}
use Rattle.looking.specs.Outcome.{Outcome, wrote}
use Rattle.looking.specs.Looking.{frame_lines, no_trch, not_long, look_lines, looked}

-- gather: the sheet's own numbers, then the frame's values, of which D are needed, and D places
abbrev pub gather_lines : List ℕ → List Float → ℕ → List Line
gather_lines s frame n = read_lines s ++ look_lines in_range frame (capacity_all (sheet_of s)) n (capacity_all (sheet_of s))

-- steps 9 and 8 undone
abbrev pub gather_into : List ℕ → List Float → List Float → Outcome Float
gather_into s frame old =
    looked (first_of (gather_lines s frame (length old))) (first_out frame) (capacity_all (sheet_of s)) (gathered nan (sheet_of s) frame) old

-- take_back: the sheet's own numbers and 9, then the frame's values, of which D are needed, and a buffer of all T_i
abbrev pub take_lines : List ℕ → ℕ → List Float → ℕ → List Line
take_lines s number frame n = frame_lines s number ++ look_lines in_range frame (capacity_all (sheet_of s)) n (equalised_all (sheet_of s))

-- steps 9 to 6 undone, into a buffer that was `old`; the sum of N values are written
abbrev pub take_into : List ℕ → ℕ → List Float → List Float → Outcome Float
take_into s number frame old =
    looked (first_of (take_lines s number frame (length old))) (first_out frame) (taken_count (sheet_of s)) (taken_back_of (sheet_of s) number frame old) old

-- finish: the sheet's own numbers, then 10 where TrCH k does not exist, then 11: the buffer has all T_i, and `coded` E of the channel
abbrev pub finish_lines : List ℕ → ℕ → ℕ → ℕ → List Line
finish_lines s k m n =
    read_lines s
    ++ line (no_trch (sheet_of s) k) 10
    ∷ line (not_long m (equalised_all (sheet_of s)) || not_long n (encoded_of (sheet_of s) (k - 1))) 11
    ∷ []

-- steps 2 and 1 undone for one channel; the values are not looked at
abbrev pub finish_into : List ℕ → ℕ → List Float → List Float → Outcome Float
finish_into s k buffer old =
    wrote (first_of (finish_lines s k (length buffer) (length old))) (encoded_of (sheet_of s) (k - 1)) (finished_of (sheet_of s) (k - 1) buffer) old
