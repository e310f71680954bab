-- Laws of e as it runs, with P = 2N and D = 2|d|, and of the count that needs no running e.
use mathlib.Core.Path.{◌≡◌, refl, sym, ◌∙◌}
use mathlib.Core.Bool.{Bool, true, false}
use Prim.Native.Nat.{ℕ, zero, suc, ◌+◌, ◌*◌, ◌-◌, ◌/◌, ◌≤◌, ◌<◌}
use native.Mathlib.Nat.{zero-mul, one-mul, suc-mul, mul-zero, mul-suc, mul_assoc, mul_left_comm, add-mul-div_right, div-eq_of_lt, le-div_iff_mul-le, div-mul-le_self, le_trans}
use native.Mathlib.Omega.{arith}
use borrow.Author.Tests.{le-leb, lt-leb}
use lib.Arith.{digits_div}
use Rattle.laws.proofs.TestLaws.{split}
use Rattle.pattern.specs.Pattern.{again, grown, after, copies_from, Stands}
use Rattle.pattern.specs.Closed.{count}

-- ---- while e <= D, e grows by P

again_yes : (n P D e : ℕ) → e ≤ D → again (suc n) P D e ≡ suc (again n P D (e + P))
unfolding again
again_yes n P D e h = rw (le-leb e D h, again)

pub again_no : (n P D e : ℕ) → D < e → again n P D e ≡ 0
unfolding again
again_no zero P D e h = refl
again_no (suc n) P D e h = rw (lt-leb e D h, again)

-- after the turns e is above D, and above it by P at most
pub again_bounds : (n P D e : ℕ) → 0 < P → e ≤ D + P → D < e + n → (D < e + again n P D e * P) × (e + again n P D e * P ≤ D + P)
again_bounds zero P D e hp h k = rw (again_no zero P D e (omega arith)) (omega (arith, zero-mul P))
again_bounds (suc n) P D e hp h k =
    split e D
    (λ le.
    rw (again_yes n P D e le)
    (let ih = again_bounds n P D (e + P) hp (omega arith) (omega arith) in omega (arith, suc-mul (again n P D (e + P)) P)))
    (λ lt. rw (again_no (suc n) P D e lt) (omega (arith, zero-mul P)))

-- the number of turns, which the bounds determine
turns : (P D e a : ℕ) → D < e + a * P → e + a * P ≤ D + P → (D + P - e) / P ≡ a
turns P D e a lo hi =
    let q : D + P - e ≡ a * P + (D + P - e - a * P) = omega arith in
    rw q (digits_div a (omega arith))

pub again-closed : (n P D e : ℕ) → 0 < P → e ≤ D + P → D < e + n → again n P D e ≡ (D + P - e) / P
again-closed n P D e hp h k = let b = again_bounds n P D e hp h k in sym (turns P D e (again n P D e) b.0 b.1)

-- one turn more
pub again-more : (P D e : ℕ) → 0 < P → 0 < e → e ≤ D → again D P D e ≡ suc (again D P D (e + P))
again-more P D e hp he h =
    let a = again D P D (e + P) in
    let b = again_bounds D P D (e + P) hp (omega arith) (omega arith) in
    again-closed D P D e hp (omega arith) (omega arith) ∙ turns P D e (suc a) (omega (arith, suc-mul a P)) (omega (arith, suc-mul a P))

-- ---- one bit

pub grown_yes : (P D e : ℕ) → e ≤ D → grown true P D e ≡ 1
unfolding grown
grown_yes P D e h = rw (le-leb e D h, grown)

pub grown_no : (less : Bool) (P D e : ℕ) → D < e → grown less P D e ≡ 0
unfolding grown
grown_no true P D e h = rw (lt-leb e D h, grown)
grown_no false P D e h = again_no D P D e h

pub grown_bounds : (less : Bool) (P D e : ℕ) → Stands less P D e → (D < e + grown less P D e * P) × (e + grown less P D e * P ≤ D + P)
grown_bounds true P D e s =
    split e D
    (λ le. rw (grown_yes P D e le) (omega (arith, s.above, s.top, s.most refl, one-mul P)))
    (λ lt. rw (grown_no true P D e lt) (omega (arith, s.top, zero-mul P)))
grown_bounds false P D e s = unfold grown in again_bounds D P D e (omega (arith, s.above, s.top)) (omega (arith, s.top)) (omega (arith, s.above))

pub grown-one : (P D e : ℕ) → grown true P D e ≤ 1
grown-one P D e = split e D (λ le. omega (arith, grown_yes P D e le)) (λ lt. omega (arith, grown_no true P D e lt))

-- e stays in 1 to 2N
pub after-stands : (less : Bool) (P D e : ℕ) → Stands less P D e → Stands less P D (after less P D e)
after-stands less P D e s =
    let g = grown_bounds less P D e s in
    record { above = omega (arith, g.0); top = omega (arith, g.1); most = s.most }

-- ---- the count

module _ (P D e : ℕ) (pos : 0 < e) (top : e ≤ P) where
  -- c(0) = 0
  pub count-zero : count P D e 0 ≡ 0
  unfolding count
  count-zero = div-eq_of_lt (omega (arith, mul-zero D))

  -- one bit, at which e grows g times
  count-suc : (g m : ℕ) → D < e + g * P → e + g * P ≤ D + P → count P D e (suc m) ≡ g + count P D (e + g * P - D) m
  unfolding count
  count-suc g m h k =
      let q : D * suc m + P - e ≡ D * m + P - (e + g * P - D) + g * P = omega (arith, mul-suc D m) in
      rw (q, add-mul-div_right (D * m + P - (e + g * P - D)) g {z = P} (omega arith)) (omega arith)

-- c(N) = |d|
pub count-all : (n d e : ℕ) → 0 < e → e ≤ 2 * n → count (2 * n) (2 * d) e n ≡ d
unfolding count
count-all n d e pos top =
    let q : 2 * d * n + 2 * n - e ≡ d * (2 * n) + (2 * n - e) = omega (arith, mul_assoc 2 d n, mul_left_comm d 2 n) in
    rw q (digits_div d (omega arith))

pub count-up : (P D e m : ℕ) → 0 < P → count P D e m ≤ count P D e (suc m)
unfolding count
count-up P D e m h =
    (le-div_iff_mul-le h).1 (le_trans (div-mul-le_self (D * m + P - e) P) (omega (arith, mul-suc D m)))

-- what a bit adds to the count is how often e grows at it
pub count-grown : (less : Bool) (P D e m : ℕ) → Stands less P D e → count P D e (suc m) ≡ grown less P D e + count P D (after less P D e) m
count-grown less P D e m s =
    let g = grown_bounds less P D e s in
    count-suc P D e s.above s.top (grown less P D e) m g.0 g.1

-- the copies of bit m by the counts; where bits are dropped, m of them at most are among m
pub copies-more : (P D e m : ℕ) → Stands false P D e → copies_from false P D e m + count P D e m ≡ 1 + count P D e (suc m)
unfolding copies_from
copies-more P D e zero s =
    let n = after-stands false P D e s in
    omega (arith, count-grown false P D e 0 s, count-zero P D e s.above s.top, count-zero P D (after false P D e) n.above n.top)
copies-more P D e (suc m) s =
    omega (arith, count-grown false P D e m s, count-grown false P D e (suc m) s, copies-more P D (after false P D e) m (after-stands false P D e s))

pub copies-less : (P D e m : ℕ) → Stands true P D e → copies_from true P D e m + count P D e (suc m) ≡ 1 + count P D e m
unfolding copies_from
copies-less P D e zero s =
    let n = after-stands true P D e s in
    omega (
      arith,
      grown-one P D e,
      count-grown true P D e 0 s,
      count-zero P D e s.above s.top,
      count-zero P D (after true P D e) n.above n.top,
    )
copies-less P D e (suc m) s =
    omega (arith, count-grown true P D e m s, count-grown true P D e (suc m) s, copies-less P D (after true P D e) m (after-stands true P D e s))

pub count_most : (P D e m : ℕ) → Stands true P D e → count P D e m ≤ m
count_most P D e zero s = omega (arith, count-zero P D e s.above s.top)
count_most P D e (suc m) s =
    omega (arith, grown-one P D e, count-grown true P D e m s, count_most P D (after true P D e) m (after-stands true P D e s))
