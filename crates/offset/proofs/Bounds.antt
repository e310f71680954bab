-- Bounds of what stands in S.
use mathlib.Core.List.{List, [], ◌∷◌}
use Prim.Native.Nat.{ℕ, zero, suc, ◌≤◌}
use native.Mathlib.Omega.{arith}
use lib.ListN.{get_or, set, replicate}

pub zeros_le : (n i B : ℕ) → get_or (replicate n 0) i 0 ≤ B
zeros_le zero i B = omega arith
zeros_le (suc n) zero B = omega arith
zeros_le (suc n) (suc i) B = zeros_le n i B

pub set-le : (l : List ℕ) (c v B : ℕ) → ((i : ℕ) → get_or l i 0 ≤ B) → v ≤ B → (i : ℕ) → get_or (set l c v) i 0 ≤ B
set-le [] c v B h p i = h i
set-le (x ∷ l) zero v B h p zero = p
set-le (x ∷ l) zero v B h p (suc i) = h (suc i)
set-le (x ∷ l) (suc c) v B h p zero = h zero
set-le (x ∷ l) (suc c) v B h p (suc i) = set-le l c v B (λ (k : ℕ). h (suc k)) p i
