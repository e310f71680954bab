-- Steps 1 to 3: equalisation, first interleaving, segmentation; and the undoing of 2 and 1. F is frames_in tti, n is N.
use Rattle.std.specs.Prelude.{◌≡◌, List, ◌++◌, ℕ, ◌+◌, ◌*◌, ◌-◌, ◌/◌, ◌%◌, ◌≤◌, length, get_or, take, drop, replicate}
use Rattle.laws.specs.Tables.{table}
use Rattle.sheet.specs.Counts.{most_tti}
use Rattle.sheet.specs.Sizes.{frames_in}
use Rattle.orders.specs.Orders.{column_at, row_of}
use Rattle.interleaving.specs.Columns.{columns}

module _ {A : Type 0} where
  -- step 1: fillers after the bits, to F x N
  unfoldable pub equalised : A → ℕ → ℕ → List A → List A
  equalised filler tti n xs = xs ++ replicate (frames_in tti * n - length xs) filler

  -- step 2: row by row into F columns; columns taken in the TTI's order and read downwards
  unfoldable pub first_interleaved : ℕ → List A → List A
  first_interleaved tti xs = columns (frames_in tti) (row_of tti) xs

  -- step 3: of the F segments of N, the one of the frame, counted from 0
  unfoldable pub segment_of : ℕ → ℕ → ℕ → List A → List A
  segment_of tti frame n xs = take n (drop (frame * n) (first_interleaved tti xs))

-- where step 2 puts element k: row k / F of column k mod F, which is segment P(k mod F), since a row of the table is its own inverse
unfoldable pub seat : ℕ → ℕ → ℕ → ℕ
seat tti n k = column_at tti (k % frames_in tti) * n + k / frames_in tti

-- steps 2 and 1 undone: the first e elements in the coder's order; z is read nowhere if ys has F x N
unfoldable pub finished : {A : Type 0} → A → ℕ → ℕ → ℕ → List A → List A
finished z tti n e ys = table (λ k. get_or ys (seat tti n k) z) 0 e

-- what is lent for a finished channel: all F x N values, and room for at most as many
pub record Finishing (tti n part out : ℕ) : Type 0 where
  pub known : tti ≤ most_tti
  pub whole : part ≡ frames_in tti * n
  pub fits : out ≤ frames_in tti * n
