-- Laws of the least step that passes a number.
use mathlib.Core.Path.{◌≡◌}
use Prim.Native.Nat.{ℕ, zero, suc, ◌+◌, ◌≤◌, ◌<◌}
use native.Mathlib.Omega.{arith}
use native.Mathlib.Decide.{dec_lt}
use borrow.Author.Tests.{lt-ltb, le-ltb}
use Rattle.laws.specs.Least.{first, Passes}
use Rattle.laws.proofs.TestLaws.{split}

first-from : (g : ℕ → ℕ) (v n m : ℕ) → g m ≤ v → v < g (m + n) → Passes g v m (m + n) (first g v n m)
unfolding first
first-from g v zero m lo hi = let q : m + 0 ≡ m = omega arith in absurd (omega (arith, rw q at hi))
first-from g v (suc n) m lo hi =
    split (suc v) (g (suc m))
    (λ h.
    rw (lt-ltb v (g (suc m)) h, first)
    (record { from = omega arith; below = omega arith; low = lo; high = h; least = λ k a b. absurd (omega arith) }))
    (λ h.
    let q : m + suc n ≡ suc m + n = omega arith in
    let hi' : v < g (suc m + n) = rw q at hi in
    let r : Passes g v (suc m) (suc m + n) (first g v n (suc m)) = first-from g v n (suc m) (omega arith) hi' in
    rw (le-ltb v (g (suc m)) (omega arith), first)
    (record {
      from = omega (arith, r.from);
      below = omega (arith, r.below);
      low = r.low;
      high = r.high;
      least = λ k a b. split k m (λ le. let e : k ≡ m = omega arith in rw e (omega arith)) (λ lt. r.least k lt b);
    }))

pub first_passes : (g : ℕ → ℕ) (v n : ℕ) → g 0 ≤ v → v < g n → Passes g v 0 n (first g v n 0)
first_passes g v n lo hi = let q : 0 + n ≡ n = omega arith in rw q at (first-from g v n 0 lo (rw q hi))

-- a count that rises step by step
pub rises : (g : ℕ → ℕ) (n : ℕ) → ((k : ℕ) → k < n → g k ≤ g (suc k)) → (i j : ℕ) → i ≤ j → j ≤ n → g i ≤ g j
rises g n h i zero l m = let q : i ≡ 0 = omega arith in rw q (omega arith)
rises g n h i (suc j) l m =
    split i j
    (λ le. omega (arith, rises g n h i j le (omega arith), h j m))
    (λ lt. let q : i ≡ suc j = omega arith in rw q (omega arith))

-- has no other step that passes v
pub passes_one : (g : ℕ → ℕ) (v n i j : ℕ) → ((k : ℕ) → k < n → g k ≤ g (suc k)) → Passes g v 0 n i → j < n → g j ≤ v → v < g (suc j)
    → i ≡ j
passes_one g v n i j up p l lo hi = by (dec_lt i j) (dec_lt j i)
  where
    by : Dec (i < j) → Dec (j < i) → i ≡ j
    by (yes a) d = absurd (omega (arith, p.high, rises g n up (suc i) j a (omega arith)))
    by (no m) (yes a) = absurd (omega (arith, p.least j (omega arith) a))
    by (no m) (no a) = omega arith
