-- What both interleavings do: elements written row by row into w columns, the last row maybe short, and read column by column.
use Rattle.std.specs.Prelude.{List, [], ◌∷◌, ◌++◌, ℕ, zero, suc, ◌+◌, ◌-◌, ◌/◌, get_or}
use Rattle.laws.specs.Sums.{sum_to}

module _ {A : Type 0} where
  -- a column read downwards: its next element stands c ahead, and w - 1 elements of the other columns come before the one after
  unfoldable pub column : ℕ → ℕ → List A → List A
  column w c [] = []
  column w zero (x ∷ xs) = x ∷ column w (w - 1) xs
  column w (suc c) (x ∷ xs) = column w c xs

  -- the columns cs, one after the other
  unfoldable pub columns : ℕ → List ℕ → List A → List A
  columns w [] xs = []
  columns w (c ∷ cs) xs = column w c xs ++ columns w cs xs

-- how many of K elements column c holds
abbrev pub height : ℕ → ℕ → ℕ → ℕ
height w K c = (K + (w - 1) - c) / w

-- and the first t of the columns cs together
abbrev pub heights : ℕ → List ℕ → ℕ → ℕ → ℕ
heights w cs K t = sum_to (λ s. height w K (get_or cs s 0)) t
