-- The lines 9 to 12 of the table of numbers, and what a call leaves that looks at lent values before it writes others.
use Rattle.std.specs.Prelude.{◌≡◌, Bool, not, ◌||◌, cond, List, [], ◌∷◌, ◌++◌, ℕ, Option, Some, None, Result, eqb, ltb, length}
use Rattle.laws.specs.FirstFail.{first_fail}
use Rattle.counters.specs.Lines.{Line, line, first_of, given}
use Rattle.counters.specs.Refusals.{answer_number, answer_index}
use Rattle.counters.specs.declared.refusal.Refusal.{Refusal}
use Rattle.sheet.specs.Numbers.{read_lines}
use Rattle.sheet.specs.declared.Sheet.{Sheet}
use Rattle.looking.specs.Outcome.{Outcome, outcome}

-- 9: frame number over 255
abbrev pub last_frame : ℕ
last_frame = 255

abbrev pub frame_lines : List ℕ → ℕ → List Line
frame_lines s frame = read_lines s ++ line (ltb last_frame frame) 9 ∷ []

-- 10: TrCH k, counted from 1, does not exist
abbrev pub no_trch : Sheet → ℕ → Bool
no_trch sh k = eqb k 0 || ltb sh.channels k

-- 11: a lent buffer is not exactly of the length needed
abbrev pub not_long : ℕ → ℕ → Bool
not_long n needed = not (eqb n needed)

-- 11 and 12 of lent values, which have to pass a test: `needed` of them are, and `room` in the buffer of n that is written
abbrev pub look_lines : {A : Type 0} → (A → Bool) → List A → ℕ → ℕ → ℕ → List Line
look_lines test vs needed n room =
    line (not_long (length vs) needed || not_long n room) 11 ∷
    line (ltb (first_fail test vs) (length vs)) 12 ∷
    []

-- what looking at them answers: with 12, `at` is the index of the first bad value
abbrev pub indexed : ℕ → ℕ → ℕ
indexed n bad = cond (eqb n 12) bad 0

-- what a call answers that asks other lines, and then looks at them
abbrev pub Looks : {A B : Type 0} → (A → Bool) → List Line → List A → ℕ → ℕ → ℕ → Result B Refusal → Type 0
Looks test head vs needed n room r =
    let k = first_of (head ++ look_lines test vs needed n room) in
    (answer_number r ≡ k) × (answer_index r ≡ indexed k (first_fail test vs))

-- 12 at the index of a bad value, where there is one
abbrev pub Pointed : {A : Type 0} → Option ℕ → Result A Refusal → Type 0
Pointed None r = (answer_number r ≡ 0) × (answer_index r ≡ 0)
Pointed (Some bad) r = (answer_number r ≡ 12) × (answer_index r ≡ bad)

-- all that the call leaves: with number 0, `count` values were written and the buffer is `new`; else it is as it was
abbrev pub looked : {A : Type 0} → ℕ → ℕ → ℕ → List A → List A → Outcome A
looked n bad count new old = outcome n (given n count (indexed n bad)) (given n new old)
