-- A segment where it stands: its bits are not side by side among a channel's contents, and may end past them.
use Rattle.std.specs.Prelude.{List, ℕ, ◌+◌, ◌*◌, ◌≤◌, ◌<◌, get_or}
use Rattle.laws.specs.Tables.{table}
use Rattle.sheet.specs.Counts.{most_frames}

-- n elements, every step-th from `from` on; z past the end
unfoldable pub every : {A : Type 0} → A → ℕ → ℕ → ℕ → List A → List A
every z from step n xs = table (λ i. get_or xs (from + i * step) z) 0 n

-- n steps reach the end of `long` elements, and one step past it fits
pub record Strided (step n long : ℕ) : Type 0 where
  pub some : 0 < step
  pub few : step ≤ most_frames
  pub fits : long ≤ step * n
