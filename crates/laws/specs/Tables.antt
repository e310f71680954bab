-- A list given by its entries.
use Rattle.std.specs.Prelude.{cond, List, [], ◌∷◌, ℕ, zero, suc, ltb}

-- f from, f (from + 1), .. : n values of f
unfoldable pub table : {A : Type 0} → (ℕ → A) → ℕ → ℕ → List A
table f from zero = []
table f from (suc n) = f from ∷ table f (suc from) n

-- v at an index k below n, 0 past it: room past a count holds 0
abbrev pub up_to : ℕ → ℕ → ℕ → ℕ
up_to n k v = cond (ltb k n) v 0
