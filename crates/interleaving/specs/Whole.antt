-- How the code interleaves all of a list: column after column, each in its turn.
use Rattle.std.specs.Prelude.{◌≡◌, ℕ, ◌+◌, ◌*◌, ◌<◌, ◌≤◌, List, get_or, slice_index_or, slice_set}
use Rattle.laws.specs.Written.{Written}
use Rattle.sheet.specs.Counts.{most_bits}
use Rattle.interleaving.specs.Columns.{height}
use Rattle.interleaving.specs.Second.{comes_from}

-- of K elements, step 8 puts element c and every 30th behind it to the indices from k on
pub record Down (K c k : ℕ) : Type 0 where
  pub near : c ≤ K + 30
  pub inside : k + height 30 K c ≤ K
  pub most : K ≤ most_bits
  pub each : (i : ℕ) → i < height 30 K c → comes_from K (k + i) ≡ c + 30 * i

-- from index k on n elements are those of ys
abbrev pub Agrees : {A : Type 0} → A → List A → List A → List A → ℕ → ℕ → Type 0
Agrees z ys old list k n = Written z (λ i. get_or ys (k + i) z) old list k n

-- all those of column c are, and `end` is the index behind them
pub record ColumnPassed {A : Type 0} (z : A) (ys old list : List A) (K c k end : ℕ) : Type 0 where
  pub behind : end ≡ k + height 30 K c
  pub copied : Agrees z ys old list k (height 30 K c)
