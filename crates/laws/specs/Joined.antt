-- Lists one after the other.
use Rattle.std.specs.Prelude.{List, [], ◌++◌, ℕ, zero, suc}

-- g 0, g 1, .. g (n - 1), one after the other
unfoldable pub joined : {A : Type 0} → (ℕ → List A) → ℕ → List A
joined g zero = []
joined g (suc n) = joined g n ++ g n

-- m rows of n lists each, row after row
unfoldable pub in_rows : {A : Type 0} → (ℕ → ℕ → List A) → ℕ → ℕ → List A
in_rows g m n = joined (λ h. joined (g h) n) m
