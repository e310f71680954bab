-- Step 5: offset, for d not 0. N is a segment's size, F the frames of its TTI.
use Rattle.std.specs.Prelude.{not, cond, ◌&&◌, List, ℕ, zero, suc, ◌+◌, ◌*◌, ◌/◌, ◌%◌, eqb, leb, ℤ, pos, nat_abs, ◌+ℤ◌, ◌-ℤ◌, ◌*ℤ◌, get_or, set, replicate}
use Rattle.sheet.specs.Counts.{most_frames}
use Rattle.sheet.specs.Sizes.{frames_in}
use Rattle.orders.specs.Orders.{column_at}
use Rattle.offset.specs.Ints.{floor_div, ceil_over, mod_over}

-- R = d mod N, taken in 0 to N-1
unfoldable pub remainder_of : ℤ → ℕ → ℕ
remainder_of d N = mod_over d N

-- If R is not 0 and 2R <= N, q = ceil(N/R); otherwise q = ceil(N/(R-N)), which is negative
unfoldable pub q_of : ℕ → ℕ → ℤ
q_of N R = cond (not (eqb R 0) && leb (2 * R) N) (ceil_over (pos N) (pos R)) (ceil_over (pos N) (pos R -ℤ pos N))

-- the greatest common divisor, by remainders: gcd(a, 0) = a, gcd(a, b) = gcd(b, a mod b). b falls with each step, so suc b steps are enough
unfoldable pub euclid : ℕ → ℕ → ℕ → ℕ
euclid zero a b = a
euclid (suc k) a zero = a
euclid (suc k) a (suc b) = euclid k (suc b) (a % suc b)

unfoldable pub gcd : ℕ → ℕ → ℕ
gcd a b = euclid (suc b) a b

-- what q' is more than q, times F: gcd(|q|,F) if q is even, else 0
unfoldable pub added_of : ℕ → ℕ → ℕ
added_of absq F = cond (eqb (absq % 2) 0) (gcd absq F) 0

-- q' x F, a whole number: q' = q + gcd(|q|,F)/F if q is even, else q' = q
unfoldable pub q_f : ℤ → ℕ → ℤ
q_f q F = q *ℤ pos F +ℤ pos (added_of (nat_abs q) F)

-- y = |floor(x q')|
unfoldable pub y_of : ℤ → ℕ → ℕ → ℕ
y_of q F x = nat_abs (floor_div (pos x *ℤ q_f q F) F)

-- S after x = 0 to k-1: S[y mod F] = y div F, kept by a column's number before the permutation
unfoldable pub filled : ℤ → ℕ → ℕ → List ℕ
filled q F zero = replicate most_frames 0
filled q F (suc x) = set (filled q F x) (y_of q F x % F) (y_of q F x / F)

-- S: x = 0 to F-1
unfoldable pub S : ℤ → ℕ → ℕ → ℕ
S q F column = get_or (filled q F F) column 0

-- e = (2 x S[P(n)] x |d| + 1) mod 2N, n = frame number mod F, P the row of step 2 for F
unfoldable pub start_of : ℕ → ℤ → ℕ → ℕ → ℕ
start_of N d tti frame =
    (2 * S (q_of N (remainder_of d N)) (frames_in tti) (column_at tti (frame % frames_in tti)) * nat_abs d + 1) % (2 * N)
