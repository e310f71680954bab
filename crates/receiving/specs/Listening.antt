-- What asking for one bit and for a channel's link record answers.
use Rattle.std.specs.Prelude.{Bool, ◌||◌, List, [], ◌∷◌, ◌++◌, ℕ, ◌-◌, eqb, ltb, Float, Result}
use Rattle.counters.specs.Lines.{Line, line, first_of, given}
use Rattle.counters.specs.Refusals.{answer_number, answer_index, value_or}
use Rattle.counters.specs.declared.refusal.Refusal.{Refusal}
use Rattle.sheet.specs.Fields.{sheet_of}
use Rattle.sheet.specs.Sizes.{size_of, capacity_all}
use Rattle.sheet.specs.declared.Sheet.{Sheet}
use Rattle.joining.specs.Joining.{value_of, count_of}
use Rattle.joining.specs.Range.{in_range, first_out}
use Rattle.joining.specs.declared.Heard.{Heard}
use Rattle.joining.specs.declared.Heard.TheVariants.{Nothing}
use Rattle.joining.specs.declared.linking.Link.{Link}
use Rattle.homing.specs.Home.{heard_at, link_in}
use Rattle.homing.specs.Receiving.{no_link}
use Rattle.looking.specs.Looking.{frame_lines, no_trch, look_lines, indexed}

-- what a caller is told
pub record HeardAnswer : Type 0 where
  pub number : ℕ
  pub at : ℕ
  pub heard : Heard

pub record LinkAnswer : Type 0 where
  pub number : ℕ
  pub at : ℕ
  pub link : Link

-- 10: bit b, counted from 1, of the segment of channel i does not exist
abbrev pub not_sent : Sheet → ℕ → ℕ → Bool
not_sent sh i b = eqb b 0 || ltb (size_of sh i) b

-- 10: TrCH k, or bit b of its segment, both counted from 1, does not exist
abbrev pub no_bit : Sheet → ℕ → ℕ → Bool
no_bit sh k b = no_trch sh k || not_sent sh (k - 1) b

-- the sheet's own numbers and 9, then 10, then the frame's values, of which D are needed; nothing is written, so that no room is needed
abbrev pub heard_lines : List ℕ → ℕ → List Float → ℕ → ℕ → List Line
heard_lines s number frame k b =
    (frame_lines s number ++ line (no_bit (sheet_of s) k b) 10 ∷ []) ++ look_lines in_range frame (capacity_all (sheet_of s)) 0 0

abbrev pub link_lines : List ℕ → ℕ → List Float → ℕ → List Line
link_lines s number frame k =
    (frame_lines s number ++ line (no_trch (sheet_of s) k) 10 ∷ []) ++ look_lines in_range frame (capacity_all (sheet_of s)) 0 0

-- what was heard of a bit; nothing where refused, and with 12 the index of the first bad value
abbrev pub heard_answer : List ℕ → ℕ → List Float → ℕ → ℕ → HeardAnswer
heard_answer s number frame k b =
    let n = first_of (heard_lines s number frame k b) in
    record { number = n; at = indexed n (first_out frame); heard = given n (heard_at (sheet_of s) number (k - 1) (b - 1) frame) Nothing }

-- the link record; zeros where refused
abbrev pub link_answer : List ℕ → ℕ → List Float → ℕ → LinkAnswer
link_answer s number frame k =
    let n = first_of (link_lines s number frame k) in
    record { number = n; at = indexed n (first_out frame); link = given n (link_in (sheet_of s) number (k - 1) frame) no_link }

-- the paper's numbers of an answer: for each case of what was heard its value and its copies
pub record Numbers : Type 0 where
  pub number : ℕ
  pub at : ℕ
  pub value : Float
  pub copies : ℕ

abbrev pub numbers : ℕ → ℕ → Float → ℕ → Numbers
numbers n at value copies = record { number = n; at = at; value = value; copies = copies }

abbrev pub heard_numbers : HeardAnswer → Numbers
heard_numbers r = numbers r.number r.at (value_of r.heard) (count_of r.heard)

abbrev pub link_made : ℕ → ℕ → Float → Float → ℕ → LinkAnswer
link_made n at least greatest punctured =
    record { number = n; at = at; link = record { least = least; greatest = greatest; punctured = punctured } }

-- what the calls answer, in these terms
abbrev pub heard_left : Result Heard Refusal → HeardAnswer
heard_left r = record { number = answer_number r; at = answer_index r; heard = value_or Nothing r }

abbrev pub link_left : Result Link Refusal → LinkAnswer
link_left r = record { number = answer_number r; at = answer_index r; link = value_or no_link r }
