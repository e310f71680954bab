-- C-20: how evenly a frame drops the bits of a channel's segment, or repeats them. Bits are counted from 1 to N; `copies m` is how many copies bit m has in
-- the frame.
use Rattle.std.specs.Prelude.{◌≡◌, ◌≢◌, List, ℕ, zero, suc, ◌+◌, ◌*◌, ◌-◌, ◌≤◌, ◌<◌, length}
use Rattle.laws.specs.Sums.{sum_from}
use Rattle.laws.specs.Rounded.{Rounded}
use Rattle.demands.specs.Words.{Place, Copies, asked_n, asked_v, Has, segment_bit, dropped_in}

-- ---- what is counted

-- the copies of a bit beyond copy 0
abbrev pub beyond : ℕ → ℕ
beyond zero = 0
beyond (suc c) = c

-- of the bits a to a + L - 1: how many copies they have beyond copy 0
abbrev pub extra_in : (ℕ → ℕ) → ℕ → ℕ → ℕ
extra_in copies a L = sum_from (λ m. beyond (copies m)) a L

-- the copies are those that `name` names
abbrev pub CountsNames : List ℕ → ℕ → ℕ → (ℕ → ℕ) → Type 0
CountsNames s frame k copies =
    (m : ℕ) → Has s k m → (places : List Place) × Copies s frame k (segment_bit s frame k m) places × (copies m ≡ length places)

-- ---- "the number dropped (or the number of extra copies) is L x |d| / N rounded down or rounded up"

-- d is V - N, and `-` stops at 0: |d| for d < 0, otherwise 0; and |d| for d > 0, otherwise 0
abbrev pub fewer : List ℕ → ℕ → ℕ
fewer s k = asked_n s k - asked_v s k

abbrev pub more : List ℕ → ℕ → ℕ
more s k = asked_v s k - asked_n s k

-- for d < 0 the second says that there is no extra copy, for d > 0 the first that none is dropped, for d = 0 they say both
pub record Even (s : List ℕ) (k : ℕ) (copies : ℕ → ℕ) (a L : ℕ) : Type 0 where
  pub dropped : Rounded (dropped_in copies a L) (L * fewer s k) (asked_n s k)
  pub extra : Rounded (extra_in copies a L) (L * more s k) (asked_n s k)

-- "in any L neighbouring bits of one frame's segment, L from 0 to N with N above 0". A channel that does not exist, or whose sheet is refused, has N = 0
abbrev pub Evenly : List ℕ → ℕ → (ℕ → ℕ) → Type 0
Evenly s k copies = 0 < asked_n s k → (a L : ℕ) → 0 < a → a + L ≤ asked_n s k + 1 → Even s k copies a L

-- ---- what decoders rely on

-- bits m and m + g are dropped, and none between them is
pub record NextDropped (s : List ℕ) (k : ℕ) (copies : ℕ → ℕ) (m g : ℕ) : Type 0 where
  pub one : Has s k m
  pub other : Has s k (m + g)
  pub later : 0 < g
  pub one-dropped : copies m ≡ 0
  pub other-dropped : copies (m + g) ≡ 0
  pub between : (x : ℕ) → m < x → x < m + g → copies x ≢ 0

pub record Relied (s : List ℕ) (k : ℕ) (copies : ℕ → ℕ) : Type 0 where
  -- L = N: just |d|
  pub dropped-all : dropped_in copies 1 (asked_n s k) ≡ fewer s k
  pub extra-all : extra_in copies 1 (asked_n s k) ≡ more s k
  -- d = 0
  pub unaltered : asked_v s k ≡ asked_n s k → (m : ℕ) → Has s k m → copies m ≡ 1
  -- no two neighbours are dropped where 2|d| <= N
  pub apart : 2 * fewer s k ≤ asked_n s k → (m : ℕ) → Has s k m → Has s k (suc m) → copies m ≡ 0 → copies (suc m) ≢ 0
  -- from one dropped bit to the next it is N / |d|, rounded down or up
  pub gap : (m g : ℕ) → NextDropped s k copies m g → Rounded g (asked_n s k) (fewer s k)
  -- and where none is dropped, at the segment's ends too, the stretch is shorter than N / |d|
  pub run : (a L : ℕ) → 0 < a → a + L ≤ asked_n s k + 1 → dropped_in copies a L ≡ 0 → L * fewer s k < asked_n s k
  -- each bit has V / N copies, rounded down or up; so those of two bits differ by at most one
  pub each : (m : ℕ) → Has s k m → Rounded (copies m) (asked_v s k) (asked_n s k)
  pub alike : (m n : ℕ) → Has s k m → Has s k n → copies m ≤ copies n + 1
