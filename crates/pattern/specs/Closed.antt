-- Step 6 without the running e: how many bits were dropped or added before a point, and what follows from that.
use Rattle.std.specs.Prelude.{◌≡◌, ◌≢◌, ℕ, zero, suc, ◌+◌, ◌*◌, ◌-◌, ◌/◌, ◌<◌, ℤ, pos, negsuc}
use Rattle.laws.specs.Least.{first}

-- with P = 2N and D = 2|d|
unfoldable pub count : ℕ → ℕ → ℕ → ℕ → ℕ
count P D e m = (D * m + P - e) / P

-- c(m): how many of the first m of N bits are dropped, or how many copies are added to them; none for d = 0
unfoldable pub changed : ℤ → ℕ → ℕ → ℕ → ℕ
changed (pos zero) N e m = 0
changed (pos (suc a)) N e m = count (2 * N) (2 * suc a) e m
changed (negsuc a) N e m = count (2 * N) (2 * suc a) e m

-- how many are sent of the first m bits: copy 0 of bit m, from 0, stands at this index, where it is sent
unfoldable pub sent_before : ℤ → ℕ → ℕ → ℕ → ℕ
sent_before (pos a) N e m = m + changed (pos a) N e m
sent_before (negsuc a) N e m = m - changed (negsuc a) N e m

-- the bit, from 0, that stands at v: the least m with more than v sent of the first m + 1 bits; and the number of its copy
unfoldable pub source_of : ℤ → ℕ → ℕ → ℕ → ℕ
source_of d N e v = first (sent_before d N e) v N 0

unfoldable pub copy_of : ℤ → ℕ → ℕ → ℕ → ℕ
copy_of d N e v = v - sent_before d N e (source_of d N e v)

-- bit m, from 0, is dropped: one more is dropped among the first m + 1 than among the first m
abbrev pub Dropped : ℤ → ℕ → ℕ → ℕ → Type 0
Dropped (pos a) N e m = ⊥
Dropped (negsuc a) N e m = changed (negsuc a) N e (suc m) ≢ changed (negsuc a) N e m

-- copy j of bit m, from 0, is what stands at v
pub record Stood (d : ℤ) (N e v m j : ℕ) : Type 0 where
  pub bit : m ≡ source_of d N e v
  pub copy : j ≡ copy_of d N e v
  pub within : m < N
