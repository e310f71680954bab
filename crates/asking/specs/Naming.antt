-- What asking for the name of a place answers.
use Rattle.std.specs.Prelude.{not, List, [], ◌∷◌, ◌++◌, ℕ, Result}
use Rattle.counters.specs.Lines.{Line, line, first_of, given}
use Rattle.counters.specs.Refusals.{answer_number, value_or}
use Rattle.counters.specs.declared.refusal.Refusal.{Refusal}
use Rattle.sheet.specs.Fields.{sheet_of}
use Rattle.naming.specs.Name.{Name, name_of, name_in, has_place}
use Rattle.naming.specs.declared.PlaceName.{PlaceName}
use Rattle.looking.specs.Looking.{frame_lines}

pub record Naming : Type 0 where
  pub number : ℕ
  pub name : Name

abbrev pub naming : ℕ → Name → Naming
naming n name = record { number = n; name = name }

-- the same, the name by its numbers
abbrev pub name_left : ℕ → ℕ → ℕ → ℕ → Naming
name_left n channel bit copy = naming n (record { channel = channel; bit = bit; copy = copy })

-- the zeros of a refusal
abbrev pub no_name : Name
no_name = record { channel = 0; bit = 0; copy = 0 }

-- the sheet's own numbers and 9, then 10 where the sub-frame, the slot, the PhCH or the place does not exist
abbrev pub name_lines : List ℕ → ℕ → ℕ → ℕ → ℕ → ℕ → List Line
name_lines s frame subframe slot phch place = frame_lines s frame ++ line (not (has_place (sheet_of s) subframe slot phch place)) 10 ∷ []

abbrev pub name_number : List ℕ → ℕ → ℕ → ℕ → ℕ → ℕ → ℕ
name_number s frame subframe slot phch place = first_of (name_lines s frame subframe slot phch place)

abbrev pub name_answer : List ℕ → ℕ → ℕ → ℕ → ℕ → ℕ → Naming
name_answer s frame subframe slot phch place =
    naming (name_number s frame subframe slot phch place)
    (given (name_number s frame subframe slot phch place) (name_of (sheet_of s) frame subframe slot phch place) no_name)

-- what the call answers, in these terms
abbrev pub no_name_found : PlaceName
no_name_found = record { trch = record { 0 = 0 }; bit = record { 0 = 0 }; copy = 0 }

abbrev pub naming_left : Result PlaceName Refusal → Naming
naming_left r = naming (answer_number r) (name_in (value_or no_name_found r))
