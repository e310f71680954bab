-- The magnitude of a value as the larger of it and 0.0 - x: that difference is exact, and +0.0 of either zero.
use mathlib.Core.Path.{◌≡◌, refl, sym, ap, ap₂, ◌∙◌}
use mathlib.Core.Bool.{Bool, true, false, not, cond, ◌&&◌, true≢false, false≢true}
use Prim.Native.Nat.{ℕ, zero, suc, ◌+◌, ◌-◌, ◌*◌, ◌/◌, ◌%◌, ◌^◌, ◌<◌}
use native.Mathlib.Nat.{mul_assoc, mul_comm, one-mul, mul-pos, mul_right_comm, mul-lt-mul_of_pos_right, zero-lt-suc}
use native.Mathlib.Omega.{arith}
use borrow.Author.Tests.{lt-ltb}
use lib.Count.{count_trailing_zeros}
use lib.Dec.{T, ltb, leb, eqb, ltb→lt}
use lib.IntN.{ℤ, pos}
use lib.Pow.{pow-add}
use lib.Ieee.{Float, nan, inf, fin, binary32, up, down, span, climb, size, odd, units, round, sum, add, sub, neg, lt, fits, hid, top, to_bits, of_bits}
use lib.Ieee.Bits.{of_bits-to_bits}
use lib.Ieee.Exact.{HasValue, round_exact}
use lib.Ieee.Fits.{up_pos, down_pos, round-fits, neg-fits, and_l, and_r}
use lib.Ieee.Nearest.{div_same}
use Rattle.joining.specs.Joining.{plus_zero}
use Rattle.joining.specs.Linked.{magnitude_of}
use Rattle.joining.proofs.ZeroLaws.{unit, parts_of_lem, zero_is}

-- ---- a value that fits is its own rounding

own_value : (s : Bool) (m : ℕ) (e : ℤ) → T (fits binary32 (fin s (suc m) e))
    → HasValue (round binary32 s (suc m * up e) (down e)) s (suc m * up e) (down e)
unfolding fits
own_value s m e t =
    let A = eqb (suc m % 2) 1 in
    let B = ltb (suc m) (2 ^ 24) in
    let C = leb (down e) unit in
    let D = ltb (suc m * up e) (2 ^ 128 * down e) in
    let h = and_l (A && B && C) D t in
    let p = parts_of_lem e (and_r (A && B) C h) in
    let g = p.count in
    let n : suc m * up e * g ≡ suc m * 2 ^ p.exponent = mul_assoc (suc m) (up e) g ∙ ap (λ (n : ℕ). suc m * n) p.power in
    let small : suc m * up e * g < 2 ^ 128 * down e * g = mul-lt-mul_of_pos_right (ltb→lt _ _ (and_r (A && B && C) D t)) p.above in
    let most : 2 ^ 128 * down e * g ≡ 2 ^ 277 =
    mul_assoc (2 ^ 128) (down e) g ∙ ap (λ (n : ℕ). 2 ^ 128 * n) (sym p.all) ∙ sym (pow-add 2 128 149) in
    round_exact binary32 s (suc m * up e) (down e) (suc m) p.exponent (down_pos e) (ltb→lt _ _ (and_r A B (and_l (A && B) C h)))
    (rw (n, most) at small)
    (ap (λ (n : ℕ). suc m * up e * n) (p.all ∙ mul_comm (down e) g)
    ∙ sym (mul_assoc (suc m * up e) g (down e))
    ∙ ap (λ (n : ℕ). n * down e) n)

-- values that fit and are the same number have the same bits
same_bits : (s : Bool) (m n : ℕ) (e d : ℤ) → n * up d * down e ≡ m * up e * down d → to_bits binary32 (fin s n d) ≡ to_bits binary32 (fin s m e)
unfolding to_bits
same_bits s m n e d q =
    ap (λ (k : ℕ). cond s (top binary32) 0 + (size k - 24) * hid binary32 + k / 2 ^ (size k - 24))
    (div_same (n * up d * unit) (down d) (m * up e * unit) (down e) (down_pos d) (down_pos e)
    (mul_right_comm (n * up d) unit (down e) ∙ ap (λ (k : ℕ). k * unit) q ∙ mul_right_comm (m * up e) (down d) unit))

pub same-value : (x : Float) (s : Bool) (m : ℕ) (e : ℤ) → T (fits binary32 x) → T (fits binary32 (fin s m e)) → HasValue x s (m * up e) (down e)
    → x ≡ fin s m e
same-value nan s m e p q v = absurd v
same-value (inf t) s m e p q v = absurd v
same-value (fin t n d) s m e p q v =
    sym (of_bits-to_bits binary32 (fin t n d) p)
    ∙ ap (of_bits binary32) (ap (λ (b : Bool). to_bits binary32 (fin b n d)) v.0 ∙ same_bits s m n e d v.1)
    ∙ of_bits-to_bits binary32 (fin s m e) q

own : (s : Bool) (m : ℕ) (e : ℤ) → T (fits binary32 (fin s (suc m) e)) → round binary32 s (suc m * up e) (down e) ≡ fin s (suc m) e
own s m e t = same-value _ s (suc m) e (round-fits binary32 s (suc m * up e) (down e)) t (own_value s m e t)

-- ---- 0.0 - x

minus_zero_lem : (s : Bool) → sub binary32 plus_zero (fin s 0 (pos 0)) ≡ plus_zero
unfolding count_trailing_zeros span climb size odd units round sum add neg sub
minus_zero_lem true = refl
minus_zero_lem false = refl

minus_is : (s : Bool) (m : ℕ) (e : ℤ) → T (fits binary32 (fin s (suc m) e)) → sub binary32 plus_zero (fin s (suc m) e) ≡ fin (not s) (suc m) e
unfolding sum add neg sub
minus_is true m e t =
    let a : 0 * 1 * down e + suc m * up e * 1 ≡ suc m * up e = omega arith in
    ap₂ (round binary32 false) a (one-mul (down e)) ∙ own false m e (neg-fits binary32 (fin true (suc m) e) t)
minus_is false m e t =
    let p = mul-pos (zero-lt-suc m) (up_pos e) in
    let b : ltb (0 * 1 * down e) (suc m * up e * 1) ≡ true = lt-ltb (0 * 1 * down e) (suc m * up e * 1) (omega arith) in
    let a : suc m * up e * 1 - 0 * 1 * down e ≡ suc m * up e = omega arith in
    rw b (ap₂ (round binary32 true) a (one-mul (down e)) ∙ own true m e (neg-fits binary32 (fin false (suc m) e) t))

-- ---- by the test of the code

not_below : (s : Bool) → lt plus_zero (fin s 0 (pos 0)) ≡ false
unfolding lt
not_below true = refl
not_below false = refl

zero_test : (s : Bool) (e : ℤ) → T (fits binary32 (fin s 0 e)) → lt (sub binary32 plus_zero (fin s 0 e)) (fin s 0 e) ≡ false
zero_test s e t =
    ap (λ (z : ℤ). lt (sub binary32 plus_zero (fin s 0 z)) (fin s 0 z)) (zero_is s e t)
    ∙ ap (λ (y : Float). lt y (fin s 0 (pos 0))) (minus_zero_lem s)
    ∙ not_below s

test_is : (s : Bool) (m : ℕ) (e : ℤ) → T (fits binary32 (fin s (suc m) e))
    → lt (sub binary32 plus_zero (fin s (suc m) e)) (fin s (suc m) e) ≡ not s
unfolding lt
test_is true m e t = ap (λ (y : Float). lt y (fin true (suc m) e)) (minus_is true m e t)
test_is false m e t =
    let a = suc m * up e * down e in
    let p : 0 < a = mul-pos (mul-pos (zero-lt-suc m) (up_pos e)) (down_pos e) in
    ap (λ (y : Float). lt y (fin false (suc m) e)) (minus_is false m e t) ∙ lt-ltb 0 (a + a) (omega arith)

pub magnitude_own : (x : Float) → T (fits binary32 x) → lt (sub binary32 plus_zero x) x ≡ true → x ≡ magnitude_of x
unfolding add neg sub lt magnitude_of
magnitude_own nan t h = absurd (false≢true h)
magnitude_own (inf false) t h = refl
magnitude_own (inf true) t h = absurd (false≢true h)
magnitude_own (fin s zero e) t h = absurd (false≢true (sym (zero_test s e t) ∙ h))
magnitude_own (fin false (suc m) e) t h = refl
magnitude_own (fin true (suc m) e) t h = absurd (false≢true (sym (test_is true m e t) ∙ h))

pub magnitude_minus : (x : Float) → T (fits binary32 x) → lt (sub binary32 plus_zero x) x ≡ false → sub binary32 plus_zero x ≡ magnitude_of x
unfolding add neg sub lt magnitude_of
magnitude_minus nan t h = refl
magnitude_minus (inf false) t h = absurd (true≢false h)
magnitude_minus (inf true) t h = refl
magnitude_minus (fin s zero e) t h = ap (λ (z : ℤ). sub binary32 plus_zero (fin s 0 z)) (zero_is s e t) ∙ minus_zero_lem s
magnitude_minus (fin true (suc m) e) t h = minus_is true m e t
magnitude_minus (fin false (suc m) e) t h = absurd (true≢false (sym (test_is false m e t) ∙ h))
