-- How the code reads and writes through step 8: where its turns begin among interleaved elements, and the indices of one turn.
use Rattle.std.specs.Prelude.{◌≡◌, List, ℕ, ◌+◌, ◌*◌, ◌≤◌, ◌<◌, length, get_or}
use Rattle.interleaving.specs.Second.{read_before, comes_from}
use Rattle.interleaving.specs.declared.second.Seat.{Seat}

-- of K elements, where each of the 30 turns begins, and where the last ends
pub record Turned (K : ℕ) (begins : List ℕ) : Type 0 where
  pub long : length begins ≡ 31
  pub each : (t : ℕ) → t < 31 → get_or begins t 0 ≡ read_before K t

-- the seat of index k; within a turn the indices come from every 30th element
pub record Seated (K k : ℕ) (s : Seat) : Type 0 where
  pub turn : s.turn < 30
  pub begun : read_before K s.turn ≤ k
  pub inside : k < s.end
  pub last : s.end ≤ K
  pub from : s.from ≡ comes_from K k
  pub row : (j n : ℕ) → read_before K s.turn ≤ j → j + n < s.end → comes_from K (j + n) ≡ comes_from K j + 30 * n
