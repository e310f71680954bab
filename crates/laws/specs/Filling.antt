-- A list that is filled in turns: an element stands in its place once its turn has come.
use Rattle.std.specs.Prelude.{◌≡◌, List, ℕ, ◌<◌, length, get_or}

-- l is to hold g 0, .. g (n - 1), and holds those whose turn is below k
pub record Filling {A : Type 0} (z : A) (g : ℕ → A) (turn : ℕ → ℕ) (n : ℕ) (l : List A) (k : ℕ) : Type 0 where
  pub long : length l ≡ n
  pub each : (i : ℕ) → i < n → turn i < k → get_or l i z ≡ g i
