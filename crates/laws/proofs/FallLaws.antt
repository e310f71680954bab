-- Into which of equal parts, which term of a sum, and which list of which row a number falls; and that there is one only.
use mathlib.Core.Path.{◌≡◌, sym, ap, ◌∙◌}
use Prim.Native.Nat.{ℕ, zero, suc, ◌+◌, ◌*◌, ◌-◌, ◌/◌, ◌%◌, ◌≤◌, ◌<◌}
use native.Mathlib.Nat.{mul-zero, mul-add, suc-mul, mul-le-mul_right, mod-lt, div-add-mod', div-lt_iff_lt-mul}
use native.Mathlib.Omega.{arith}
use lib.Arith.{digits_div}
use Rattle.laws.specs.Sums.{sum_to}
use Rattle.laws.specs.Least.{first}
use Rattle.laws.proofs.SumLaws.{sum-within, parts_apart}
use Rattle.laws.proofs.LeastLaws.{first_passes}

-- ---- m parts of w each

-- part k of them ends within all
pub part_ends : (k m w : ℕ) → k < m → k * w + w ≤ m * w
part_ends k m w h = omega (arith, mul-le-mul_right {m = suc k} {n = m} w h, suc-mul k w)

pub record Digits (m w j : ℕ) : Type 0 where
  pub part : ℕ
  pub rest : ℕ
  pub inside : part < m
  pub below : rest < w
  pub is : part * w + rest ≡ j

some-part : (m w j : ℕ) → j < m * w → 0 < w
some-part m zero j h = absurd (omega (arith, mul-zero m))
some-part m (suc w) j h = omega arith

pub digits : (m w j : ℕ) → j < m * w → Digits m w j
digits m w j h =
    let p = some-part m w j h in
    record { part = j / w; rest = j % w; inside = (div-lt_iff_lt-mul p).1 h; below = mod-lt j p; is = div-add-mod' j w }

pub digits_apart : (w a r b s : ℕ) → r < w → s < w → a * w + r ≡ b * w + s → (a ≡ b) × (r ≡ s)
digits_apart w a r b s h k e =
    let q : a ≡ b = sym (digits_div a {m = w} {r = r} h) ∙ ap (λ (x : ℕ). x / w) e ∙ digits_div b {m = w} {r = s} k in
    let p : a * w ≡ b * w = ap (λ (x : ℕ). x * w) q in
    (q, omega arith)

-- ---- the terms of a sum

pub record Falls (f : ℕ → ℕ) (n j : ℕ) : Type 0 where
  pub at : ℕ
  pub rest : ℕ
  pub inside : at < n
  pub below : rest < f at
  pub is : sum_to f at + rest ≡ j

pub falls : (f : ℕ → ℕ) (n j : ℕ) → j < sum_to f n → Falls f n j
unfolding sum_to
falls f n j h =
    let p = first_passes (sum_to f) j n (omega arith) h in
    let t = first (sum_to f) j n 0 in
    record { at = t; rest = j - sum_to f t; inside = p.below; below = omega (arith, p.low, p.high); is = omega (arith, p.low) }

-- a sum of terms that are each m times as much
pub sum-times : (m : ℕ) (f : ℕ → ℕ) (n : ℕ) → sum_to (λ i. m * f i) n ≡ m * sum_to f n
unfolding sum_to
sum-times m f zero = sym (mul-zero m)
sum-times m f (suc n) = omega (arith, sum-times m f n, mul-add m (sum_to f n) (f n))

-- ---- m rows of n lists, list t of each c t long

pub record InRow (c : ℕ → ℕ) (m n j : ℕ) : Type 0 where
  pub row : ℕ
  pub list : ℕ
  pub rest : ℕ
  pub row_inside : row < m
  pub list_inside : list < n
  pub below : rest < c list
  pub is : row * sum_to c n + (sum_to c list + rest) ≡ j

pub in_row : (c : ℕ → ℕ) (m n j : ℕ) → j < m * sum_to c n → InRow c m n j
in_row c m n j h =
    let d = digits m (sum_to c n) j h in
    let t = falls c n d.rest d.below in
    record {
      row = d.part;
      list = t.at;
      rest = t.rest;
      row_inside = d.inside;
      list_inside = t.inside;
      below = t.below;
      is = omega (arith, t.is, d.is);
    }

pub rows_apart : (c : ℕ → ℕ) (n h s a k t b : ℕ) → s < n → a < c s → t < n → b < c t
    → h * sum_to c n + (sum_to c s + a) ≡ k * sum_to c n + (sum_to c t + b) → (h ≡ k) × (s ≡ t) × (a ≡ b)
rows_apart c n h s a k t b ls la lt lb e =
    let d =
    digits_apart (sum_to c n) h (sum_to c s + a) k (sum_to c t + b) (omega (arith, sum-within c s n ls)) (omega (arith, sum-within c t n lt)) e in
    let p = parts_apart c s t a b la lb d.1 in
    (d.0, p.0, p.1)
