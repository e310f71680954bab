-- y, q and R in natural numbers: what the code calculates is what the definitions of specs/ say.
use Prim.Native.Nat.{ℕ, zero, suc, ◌+◌, ◌*◌, ◌-◌, ◌/◌, ◌%◌, ◌<◌, ◌≤◌}
use mathlib.Core.Path.{◌≡◌, refl, sym, ◌∙◌, ap}
use mathlib.Core.Bool.{Bool, true, false, not, cond, ◌&&◌}
use native.Mathlib.Nat.{mul-zero, zero-mul, mul_comm, mul_assoc, mul-add, add-mul, mul-add-div_right, zero-div, div-eq_of_lt, add-div_right, mod-lt, div-add-mod', mul-le-mul_left, div-eq_of_lt-le, le_refl, le_trans, lt_of_not-le, mul-sub, one-mul, le-mul_of_pos_right, le-div_iff_mul-le, mul-le-mul}
use native.Mathlib.Omega.{arith}
use borrow.Author.Tests.{ltb-true, ltb-false, lt-ltb, le-leb, lt-leb, ne_eqb}
use lib.Dec.{ltb, leb, eqb}
use lib.IntN.{pos, neg_ℤ, nat_abs, sub_ℕ, ◌+ℤ◌, ◌*ℤ◌}
use Rattle.offset.specs.Ints.{floor_div, floor_over, ceil_over, mod_over}
use Rattle.sheet.specs.Counts.{most_frames}
use Rattle.offset.specs.Offset.{remainder_of, q_of, euclid, gcd, added_of, q_f, y_of}

-- signed numbers that are not above 0
pub neg_add : (m g : ℕ) → g ≤ m → neg_ℤ (pos m) +ℤ pos g ≡ neg_ℤ (pos (m - g))
neg_add zero g h = ap pos (e₁ g h) ∙ ap (λ (z : ℕ). neg_ℤ (pos z)) (e₂ g h)
  where
    e₁ : (g : ℕ) → g ≤ zero → zero + g ≡ zero
    e₁ g h = omega arith

    e₂ : (g : ℕ) → g ≤ zero → zero ≡ zero - g
    e₂ g h = omega arith
neg_add (suc m) g h = go (ltb g (suc m)) refl
  where
    e₁ : (m g : ℕ) → g < suc m → suc m - g ≡ suc (suc m - suc g)
    e₁ m g h = omega arith

    e₂ : (m g : ℕ) → g ≤ suc m → suc m ≤ g → g - suc m ≡ 0
    e₂ m g h i = omega arith

    e₃ : (m g : ℕ) → g ≤ suc m → suc m ≤ g → 0 ≡ suc m - g
    e₃ m g h i = omega arith

    go : (b : Bool) → ltb g (suc m) ≡ b → sub_ℕ g (suc m) ≡ neg_ℤ (pos (suc m - g))
    go true e = rw e (ap (λ (z : ℕ). neg_ℤ (pos z)) (sym (e₁ m g (ltb-true g (suc m) e))))
    go false e = rw e (ap pos (e₂ m g h (ltb-false g (suc m) e)) ∙ ap (λ (z : ℕ). neg_ℤ (pos z)) (e₃ m g h (ltb-false g (suc m) e)))

pub mul_neg : (x j : ℕ) → pos x *ℤ neg_ℤ (pos j) ≡ neg_ℤ (pos (x * j))
mul_neg x zero = rw mul-zero
mul_neg x (suc j) = refl

-- floor(-A / F) = -ceil(A / F)
pub floor_neg : (A F : ℕ) → 0 < F → nat_abs (floor_div (neg_ℤ (pos A)) F) ≡ (A + (F - 1)) / F
unfolding floor_div
floor_neg zero F h =
    let e : 0 + (F - 1) < F = omega arith in
    zero-div F ∙ sym (div-eq_of_lt e)
floor_neg (suc a) F h =
    let e : suc a + (F - 1) ≡ a + F = omega arith in
    rw e (omega (arith, add-div_right a h))

-- gcd
mod_le' : (a b : ℕ) → a % suc b ≤ suc b
mod_le' a b = let h : a % suc b < suc b = mod-lt a (omega arith) in omega arith

pub euclid-le : (k a b : ℕ) → b ≤ a → euclid k a b ≤ a
unfolding euclid
euclid-le zero a b h = le_refl a
euclid-le (suc k) a zero h = le_refl a
euclid-le (suc k) a (suc b) h = le_trans (euclid-le k (suc b) (a % suc b) (mod_le' a b)) h

pub gcd-le : (a b : ℕ) → 0 < b → gcd a b ≤ b
unfolding gcd euclid
gcd-le a zero h = absurd (omega arith)
gcd-le a (suc b) h = euclid-le (suc b) (suc b) (a % suc b) (mod_le' a b)

pub added_le : (a F : ℕ) → 0 < F → added_of a F ≤ F
unfolding added_of
added_le a F h = go (eqb (a % 2) 0)
  where
    go : (b : Bool) → cond b (gcd a F) 0 ≤ F
    go true = gcd-le a F h
    go false = omega arith

-- y
pub y_pos : (k F x : ℕ) → 0 < F → y_of (pos k) F x ≡ x * k + x * added_of k F / F
unfolding y_of q_f floor_div
y_pos k F x h = rw (mul-add, ← mul_assoc) (mul-add-div_right h (x * k) (x * added_of k F))

neg_mul : (k F : ℕ) → neg_ℤ (pos k) *ℤ pos F ≡ neg_ℤ (pos (k * F))
neg_mul zero F = rw zero-mul
neg_mul (suc k) F = refl

neg_abs : (k : ℕ) → nat_abs (neg_ℤ (pos k)) ≡ k
neg_abs zero = refl
neg_abs (suc k) = refl

added_less : (k F : ℕ) → 0 < k → 0 < F → added_of k F ≤ k * F
added_less k F h i = le_trans (added_le k F i) (rw mul_comm (le-mul_of_pos_right F h))

-- ceil((a F - t) / F) = a - floor(t / F)
ceil_less : (a t F : ℕ) → 0 < F → t ≤ a * F → (a * F - t + (F - 1)) / F ≡ a - t / F
ceil_less a t F h le =
    let p : t / F * F + t % F ≡ t = div-add-mod' t F in
    let r : t % F < F = mod-lt t h in
    let m : (a - t / F) * F ≡ a * F - t / F * F = mul_comm (a - t / F) F ∙ (mul-sub F a (t / F) ∙ (rw (mul_comm F a, mul_comm F (t / F)) refl)) in
    let n : (a - t / F + 1) * F ≡ (a - t / F) * F + F = add-mul (a - t / F) 1 F ∙ (rw one-mul refl) in
    div-eq_of_lt-le F (omega arith) (omega arith)

pub y_neg : (k F x : ℕ) → 0 < k → 0 < F → y_of (neg_ℤ (pos k)) F x ≡ x * k - x * added_of k F / F
unfolding y_of q_f
y_neg k F x p h =
    let le : added_of k F ≤ k * F = added_less k F p h in
    let le2 : x * added_of k F ≤ x * k * F = rw mul_assoc (mul-le-mul_left x le) in
    rw (neg_abs, neg_mul, neg_add (k * F) (added_of k F) le, mul_neg, floor_neg _ F h, mul-sub, ← mul_assoc) (ceil_less (x * k) (x * added_of k F) F h le2)

-- q
pub q_up : (N R : ℕ) → 0 < N → 0 < R → 2 * R ≤ N → q_of N R ≡ pos ((N - 1) / R + 1)
unfolding q_of ceil_over floor_over floor_div
q_up zero R h i j = absurd (omega arith)
q_up (suc n) R h i j =
    let e : suc n - 1 ≡ n = omega arith in
    rw (ne_eqb R 0 (omega arith), le-leb (2 * R) (suc n) j, e) (ap pos (omega arith))

chosen : (N R : ℕ) → (0 < R → 2 * R ≤ N → ⊥) → (not (eqb R 0) && leb (2 * R) N) ≡ false
chosen N zero i = refl
chosen N (suc r) i = rw (ne_eqb (suc r) 0 (omega arith)) (lt-leb (2 * suc r) N (lt_of_not-le (i (omega arith))))

pub q_down : (N R : ℕ) → R < N → (0 < R → 2 * R ≤ N → ⊥) → q_of N R ≡ neg_ℤ (pos (N / (N - R)))
unfolding q_of ceil_over floor_over floor_div
q_down zero R h i = absurd (omega arith)
q_down (suc n) R h i =
    let e : suc (suc n - suc R) ≡ suc n - R = omega arith in
    rw (chosen (suc n) R i, lt-ltb R (suc n) h, e) refl

-- R
pub r_neg : (m N : ℕ) → 0 < m → remainder_of (neg_ℤ (pos m)) N ≡ N - 1 - (m - 1) % N
unfolding remainder_of mod_over
r_neg zero N h = absurd (omega arith)
r_neg (suc a) N h =
    let e : suc a - 1 ≡ a = omega arith in
    rw e (omega arith)

-- bounds
pub q_down_pos : (N R : ℕ) → R < N → 0 < N / (N - R)
q_down_pos N R h =
    let p : 0 < N - R = omega arith in
    (le-div_iff_mul-le p).1 (rw one-mul (omega arith))

-- x|q| for x below the most frames
pub whole_le : (x k : ℕ) → x < most_frames → k ≤ 16384 → x * k ≤ (most_frames - 1) * 16384
whole_le x k h i = mul-le-mul {n₁ = x} {m₁ = k} {n₂ = most_frames - 1} {m₂ = 16384} (omega arith) i
