-- What a call answers that may refuse, as document 01 has it: a number, 0 where it accepts, and with 12 an index.
use Rattle.std.specs.Prelude.{◌≡◌, List, ℕ, Result, Ok, Err}
use Rattle.counters.specs.Lines.{Line, first_of, Answer}
use Rattle.counters.specs.declared.refusal.Refusal.{Refusal}
use Rattle.counters.specs.declared.refusal.Refusal.TheVariants.{ShortSheet, OtherVersion, NoSlots, Malformed, NoCapacity, ManyBits, ManyPlaces, NoBits, LateFrame, Missing, WrongLength, BadValue, BadUplink, BadSubframe}

-- the number of a refusal
abbrev pub refusal_number : Refusal → ℕ
refusal_number ShortSheet = 1
refusal_number OtherVersion = 2
refusal_number NoSlots = 3
refusal_number Malformed = 4
refusal_number NoCapacity = 5
refusal_number ManyBits = 6
refusal_number ManyPlaces = 7
refusal_number NoBits = 8
refusal_number LateFrame = 9
refusal_number Missing = 10
refusal_number WrongLength = 11
refusal_number (BadValue at) = 12
refusal_number BadUplink = 13
refusal_number BadSubframe = 14

-- the index that 12 points at
abbrev pub refusal_at : Refusal → ℕ
refusal_at (BadValue at) = at
refusal_at r = 0

-- the number of what a call answers
abbrev pub answer_number : {A : Type 0} → Result A Refusal → ℕ
answer_number (Ok x) = 0
answer_number (Err r) = refusal_number r

-- the index that its refusal points at
abbrev pub answer_index : {A : Type 0} → Result A Refusal → ℕ
answer_index (Ok x) = 0
answer_index (Err r) = refusal_at r

-- the count that a call answers; of a refusal the index that it points at
abbrev pub at_of : Result ℕ Refusal → ℕ
at_of (Ok n) = n
at_of (Err r) = refusal_at r

-- what was asked for, and d where the call refuses
abbrev pub value_or : {A : Type 0} → A → Result A Refusal → A
value_or d (Ok x) = x
value_or d (Err r) = d

-- of a call whose answer is a count
abbrev pub answer_in : Result ℕ Refusal → Answer
answer_in r = record { number = answer_number r; at = at_of r }

-- the first of the lines that holds refuses, and points at nothing
abbrev pub Refuses : {A : Type 0} → List Line → Result A Refusal → Type 0
Refuses lines r = (answer_number r ≡ first_of lines) × (answer_index r ≡ 0)
