-- What document 01 says of the numbers that a call answers, of what it leaves beside them, and of `at`.
use Rattle.std.specs.Prelude.{◌≡◌, ◌≢◌, List, ℕ, ◌<◌, length, get_or}
use Rattle.demands.specs.Exactly.{Saying, Exactly}

-- the number, by its lines, and all else that the call leaves: `made` where it accepts, `kept` where it refuses.
-- `kept` is what a lent buffer held before, and zeros in the other fields
pub record Answers {X : Type 0} (lines : List Saying) (number : ℕ) (left made kept : X) : Type 0 where
  pub numbers : Exactly lines number
  pub accepted : number ≡ 0 → left ≡ made
  pub refused : number ≢ 0 → left ≡ kept

-- `at` of a call that looks at values: the count of values written; 0 where it refuses, but with 12 the index of the first bad value
pub record Points {A : Type 0} (Bad : A → Type 0) (d : A) (values : List A) (count number at : ℕ) : Type 0 where
  pub counted : number ≡ 0 → at ≡ count
  pub nowhere : number ≢ 0 → number ≢ 12 → at ≡ 0
  pub bad_there : number ≡ 12 → (at < length values) × Bad (get_or values at d)
  pub good_before : number ≡ 12 → (j : ℕ) → j < at → Bad (get_or values j d) → ⊥
