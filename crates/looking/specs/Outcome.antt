-- All that a call which lends one buffer for writing leaves: its number, `at`, and what the buffer then holds.
use Rattle.std.specs.Prelude.{List, ℕ}
use Rattle.counters.specs.Lines.{given}

pub record Outcome (A : Type 0) : Type 0 where
  pub number : ℕ
  pub at : ℕ
  pub buffer : List A

abbrev pub outcome : {A : Type 0} → ℕ → ℕ → List A → Outcome A
outcome n at buffer = record { number = n; at = at; buffer = buffer }

-- with number 0, `count` values were written and the buffer is `new`; else it is as it was, and `at` is 0
abbrev pub wrote : {A : Type 0} → ℕ → ℕ → List A → List A → Outcome A
wrote n count new old = outcome n (given n count 0) (given n new old)
