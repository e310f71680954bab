-- Fields packed bit by bit into bytes, most significant first, with no alignment between them.
use Rattle.std.specs.Prelude.{◌≡◌, List, ℕ, zero, suc, ◌+◌, ◌-◌, ◌*◌, ◌/◌, ◌%◌, ◌^◌, ◌<◌, get_or}
use Rattle.laws.specs.Tables.{table}

-- bit i of the bytes, counted from 0; 0 past the end
unfoldable pub bit_at : List ℕ → ℕ → ℕ
bit_at s i = get_or s (i / 8) 0 / 2 ^ (7 - i % 8) % 2

-- the number that the n bits f at, f (at + 1), .. make, the first the most significant
unfoldable pub val : (ℕ → ℕ) → ℕ → ℕ → ℕ
val f at zero = 0
val f at (suc n) = val f at n * 2 + f (at + n)

-- the field of n bits at `at` of the bytes
abbrev pub bits_at : List ℕ → ℕ → ℕ → ℕ
bits_at s at n = val (bit_at s) at n

-- bit i of the n bits of v, the first the most significant
abbrev pub digit : ℕ → ℕ → ℕ → ℕ
digit n v i = v / 2 ^ (n - 1 - i) % 2

-- the n bits of v
abbrev pub field : ℕ → ℕ → List ℕ
field n v = table (digit n v) 0 n

-- m bytes, of the bits f
abbrev pub packed : (ℕ → ℕ) → ℕ → List ℕ
packed f m = table (λ k. val f (8 * k) 8) 0 m

-- bit i of a list of bits; 0 past the end
abbrev pub bit_of : List ℕ → ℕ → ℕ
bit_of bs i = get_or bs i 0

-- bytes k and k + 1 of the bytes, each 0 past the end, as one number r
pub record Two (s : List ℕ) (k r : ℕ) : Type 0 where
  pub made : r ≡ get_or s k 0 * 256 + get_or s (k + 1) 0
  pub high : get_or s k 0 < 256
  pub low : get_or s (k + 1) 0 < 256
