-- The numbers that a call answers: lines of a condition and its number, of which the first that holds is given.
use Rattle.std.specs.Prelude.{Bool, cond, List, [], ◌∷◌, ℕ, eqb}

pub record Line : Type 0 where
  pub holds : Bool
  pub number : ℕ

abbrev pub line : Bool → ℕ → Line
line b n = record { holds = b; number = n }

-- the number of the first line that holds, 0 where none does
abbrev pub first_of : List Line → ℕ
first_of [] = 0
first_of (l ∷ ls) = cond l.holds l.number (first_of ls)

-- x where the number n accepts, y where it refuses
abbrev pub given : {A : Type 0} → ℕ → A → A → A
given n x y = cond (eqb n 0) x y

-- what C is told of a call: its number, 0 where it accepts, and how many values it wrote; with number 12 the index of the first bad value
pub record Answer : Type 0 where
  pub number : ℕ
  pub at : ℕ

-- an answer: the number, and the count of values written where it accepts
abbrev pub answer_of : ℕ → ℕ → Answer
answer_of n count = record { number = n; at = given n count 0 }
