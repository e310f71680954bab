-- A sum is -0.0 only where all that is added is -0.0: a sum of floats that is not 0 is not rounded to 0, and one of opposite signs is +0.0.
use mathlib.Core.Path.{◌≡◌, refl, sym, ap, ap₂, ◌∙◌, subst}
use mathlib.Core.Bool.{Bool, true, false, not, cond, ◌&&◌, true≢false}
use mathlib.Core.List.{List, [], ◌∷◌}
use mathlib.Core.Logic.{◌⊎◌, inl, inr}
use Prim.Native.Nat.{ℕ, zero, suc, ◌+◌, ◌-◌, ◌*◌, ◌%◌, ◌^◌, ◌≤◌, ◌<◌}
use native.Mathlib.Nat.{add-mul, mul_assoc, mul_comm, one-mul, zero-mul, suc-mul, mul-pos, mul_right_comm, zero-lt-suc}
use native.Mathlib.Omega.{arith}
use borrow.Author.Tests.{ltb-true}
use lib.Dec.{T, lit<, ltb, leb, eqb, leb→le, eqb→eq}
use lib.IntN.{ℤ, pos, negsuc}
use lib.Pow.{pow-lt, pow-add, pow_pos}
use lib.ListN.{length, replicate}
use lib.Ieee.{Float, nan, inf, fin, binary32, up, down, round, sum, add, neg, le, lt, eq, fits}
use lib.Ieee.Exact.{HasValue, round_exact}
use lib.Ieee.Fits.{up_pos, down_pos, add-fits, and_l, and_r}
use lib.Ieee.Order.{round_mono}
use Rattle.laws.specs.FirstFail.{NoneFails}
use Rattle.laws.proofs.FirstFailLaws.{none_first, none_rest}
use Rattle.laws.proofs.TestLaws.{split}
use Rattle.joining.specs.Joining.{sum_of, join_of, value_of}
use Rattle.joining.proofs.ClipLaws.{clip_minus}
use Rattle.joining.proofs.MadeLaws.{join_value}
use Rattle.joining.proofs.BoundLaws.{plus_round, neg_round, le_nat}
use Rattle.joining.proofs.WholeLaws.{by, sub-mul}

abbrev pub minus_zero : Float
minus_zero = fin true 0 (pos 0)

-- ---- the smallest float above 0 is 1 over this, and each float is a multiple of it

abbrev pub unit : ℕ
unit = 2 ^ 149

pow_back : (i j : ℕ) → 2 ^ i ≤ 2 ^ j → i ≤ j
pow_back i j h = split i j (λ le. le) (λ lt. absurd (omega (arith, pow-lt {i = j} {j = i} lt)))

pow_parts : (i j : ℕ) → i ≤ j → 2 ^ j ≡ 2 ^ i * 2 ^ (j - i)
pow_parts i j h = let q : j ≡ i + (j - i) = omega arith in ap (λ (n : ℕ). 2 ^ n) q ∙ pow-add 2 i (j - i)

no_power : (k : ℕ) → 1 * 2 ^ suc k ≡ 1 → ⊥
no_power k q = omega (arith, pow-lt {i = 0} {j = suc k} (omega arith))

-- how often the denominator of 2^e goes into it; and so often its numerator is a power of 2
pub record Parts (e : ℤ) : Type 0 where
  pub count : ℕ
  pub exponent : ℕ
  pub all : unit ≡ down e * count
  pub power : up e * count ≡ 2 ^ exponent
  pub above : 0 < count

pub parts_of_lem : (e : ℤ) → T (leb (down e) unit) → Parts e
parts_of_lem (pos k) t =
    record { count = unit; exponent = k + 149; all = sym (one-mul unit); power = sym (pow-add 2 k 149); above = pow_pos 149 }
parts_of_lem (negsuc k) t =
    let j = 149 - suc k in
    record {
      count = 2 ^ j;
      exponent = j;
      all = pow_parts (suc k) 149 (pow_back (suc k) 149 (leb→le (2 ^ suc k) unit t));
      power = one-mul (2 ^ j);
      above = pow_pos j;
    }

parts : (s : Bool) (m : ℕ) (e : ℤ) → T (fits binary32 (fin s m e)) → (g : ℕ) × (unit ≡ down e * g)
unfolding fits
parts s zero (pos k) t = (unit, sym (one-mul unit))
parts s zero (negsuc k) t = absurd (no_power k (eqb→eq (1 * 2 ^ suc k) 1 t))
parts s (suc m) e t =
    let a = eqb (suc m % 2) 1 && ltb (suc m) (2 ^ 24) in
    let b = ltb (suc m * up e) (2 ^ 128 * down e) in
    let p = parts_of_lem e (and_r a (leb (down e) unit) (and_l (a && leb (down e) unit) b t)) in
    (p.count, p.all)

-- a zero is written in one way
pub zero_is : (s : Bool) (e : ℤ) → T (fits binary32 (fin s 0 e)) → e ≡ pos 0
unfolding fits
zero_is s (pos zero) t = refl
zero_is s (pos (suc k)) t = absurd (no_power k (mul_comm 1 (2 ^ suc k) ∙ eqb→eq (2 ^ suc k * 1) 1 t))
zero_is s (negsuc k) t = absurd (no_power k (eqb→eq (1 * 2 ^ suc k) 1 t))

-- x over c is a multiple of it: so is a sum and a difference, and what is above 0 is one of it or more
scaled : (x p q u g : ℕ) → u ≡ p * g → x * q * u ≡ x * g * (p * q)
scaled x p q u g e =
    let w = mul_comm q (p * g) ∙ mul_right_comm p g q ∙ mul_comm (p * q) g in
    rw e (mul_assoc x q (p * g) ∙ ap (λ (n : ℕ). x * n) w ∙ sym (mul_assoc x g (p * q)))

one_or_more : (n k u c : ℕ) → n * u ≡ k * c → 0 < n → 0 < u → c ≤ n * u
one_or_more n zero u c e hn hu = absurd (omega (arith, mul-pos hn hu, zero-mul c))
one_or_more n (suc k) u c e hn hu = omega (arith, suc-mul k c)

-- ---- such a fraction is not rounded to 0

unit_value : HasValue (round binary32 false 1 unit) false 1 unit
unit_value = round_exact binary32 false 1 unit 1 0 (pow_pos 149) (lit< tt) (pow-lt {i = 0} {j = 277} (lit< tt)) (mul_comm 1 unit)

not_zero_over : (x : Float) (e : ℤ) (s : Bool) (u : ℕ) → HasValue x false 1 u → T (le x (fin s 0 e)) → ⊥
unfolding lt eq le
not_zero_over nan e s u v t = v
not_zero_over (inf r) e s u v t = v
not_zero_over (fin true k d) e s u v t = true≢false v.0
not_zero_over (fin false zero d) e s u v t = omega (arith, v.1, zero-mul (up d), zero-mul u, down_pos d)
not_zero_over (fin false (suc k) d) e false u v t =
    let A = suc k * up d * down e in
    let h : A ≤ 0 * up e * down d = le_nat A (0 * up e * down d) true t in
    omega (arith, mul-pos (mul-pos (zero-lt-suc k) (up_pos d)) (down_pos e), zero-mul (up e), zero-mul (down d))
not_zero_over (fin false (suc k) d) e true u v t =
    let A = suc k * up d * down e in
    let h : A ≡ 0 * up e * down d = eqb→eq A (0 * up e * down d) (and_l (eqb A (0 * up e * down d)) (eqb A 0) t) in
    omega (arith, mul-pos (mul-pos (zero-lt-suc k) (up_pos d)) (down_pos e), zero-mul (up e), zero-mul (down d))

neg_neg : (x : Float) → neg (neg x) ≡ x
unfolding neg
neg_neg nan = refl
neg_neg (inf true) = refl
neg_neg (inf false) = refl
neg_neg (fin true m e) = refl
neg_neg (fin false m e) = refl

neg_back : (x : Float) (t : Bool) → neg x ≡ fin t 0 (pos 0) → x ≡ fin (not t) 0 (pos 0)
unfolding neg
neg_back x t q = sym (neg_neg x) ∙ ap neg q

plus_not_zero : (n c : ℕ) (t : Bool) → 0 < c → c ≤ n * unit → round binary32 false n c ≡ fin t 0 (pos 0) → ⊥
plus_not_zero n c t p h q =
    not_zero_over (round binary32 false 1 unit) (pos 0) t unit unit_value
    (rw q at (round_mono binary32 1 unit n c (pow_pos 149) p (rw (one-mul c) h)))

round_not_zero : (s : Bool) (n c : ℕ) → 0 < c → c ≤ n * unit → round binary32 s n c ≡ minus_zero → ⊥
round_not_zero false n c p h q = plus_not_zero n c true p h q
round_not_zero true n c p h q = plus_not_zero n c false p h (neg_back (round binary32 false n c) true (sym (neg_round binary32 n c) ∙ q))

-- ---- one sum

not_minus : (n c : ℕ) → round binary32 false n c ≡ minus_zero → ⊥
not_minus n c q = true≢false (rw q at (plus_round binary32 n c))

module _ (a b c k l : ℕ) (p : 0 < c) (ha : a * unit ≡ k * c) (hb : b * unit ≡ l * c) where
  same_minus : round binary32 true (a + b) c ≡ minus_zero → a + b ≡ 0
  same_minus q =
      let w : (a + b) * unit ≡ (k + l) * c = add-mul a b unit ∙ ap₂ ◌+◌ ha hb ∙ sym (add-mul k l c) in
      split (a + b) 0 (λ le. omega arith)
      (λ lt. absurd (round_not_zero true (a + b) c p (one_or_more (a + b) (k + l) unit c w lt (pow_pos 149)) q))

  less_minus : (s : Bool) → a < b → round binary32 s (b - a) c ≡ minus_zero → ⊥
  less_minus s h q =
      let w : (b - a) * unit ≡ (l - k) * c = sub-mul b a unit ∙ ap₂ ◌-◌ hb ha ∙ sym (sub-mul l k c) in
      round_not_zero s (b - a) c p (one_or_more (b - a) (l - k) unit c w (omega arith) (pow_pos 149)) q

opposite : (s : Bool) (a : ℕ) (t : Bool) (b c k l : ℕ) → 0 < c → a * unit ≡ k * c → b * unit ≡ l * c
    → cond (ltb a b) (round binary32 t (b - a) c) (round binary32 (s && ltb b a) (a - b) c) ≡ minus_zero → ⊥
opposite s a t b c k l p ha hb q = go (by (ltb a b)) (by (ltb b a))
  where
    last : (s : Bool) → round binary32 (s && false) (a - b) c ≡ minus_zero → ⊥
    last true q = not_minus (a - b) c q
    last false q = not_minus (a - b) c q

    go : (ltb a b ≡ true) ⊎ (ltb a b ≡ false) → (ltb b a ≡ true) ⊎ (ltb b a ≡ false) → ⊥
    go (inl e) g = less_minus a b c k l p ha hb t (ltb-true a b e) (rw e at q)
    go (inr e) (inl g) = less_minus b a c l k p hb ha (s && true) (ltb-true b a g) (rw (e, g) at q)
    go (inr e) (inr g) = last s (rw (e, g) at q)

sum_minus : (s : Bool) (a : ℕ) (t : Bool) (b c k l : ℕ) → 0 < c → a * unit ≡ k * c → b * unit ≡ l * c → sum binary32 s a t b c ≡ minus_zero
    → (s ≡ true) × (t ≡ true) × (a + b ≡ 0)
unfolding sum
sum_minus false a false b c k l p ha hb q = absurd (not_minus (a + b) c q)
sum_minus true a true b c k l p ha hb q = (refl, refl, same_minus a b c k l p ha hb q)
sum_minus false a true b c k l p ha hb q = absurd (opposite false a true b c k l p ha hb q)
sum_minus true a false b c k l p ha hb q = absurd (opposite true a false b c k l p ha hb q)

minus_is : (s : Bool) (m : ℕ) (e d : ℤ) → T (fits binary32 (fin s m e)) → s ≡ true → m * up e * down d ≡ 0 → fin s m e ≡ minus_zero
minus_is s zero e d t q z = ap₂ (λ (b : Bool) (x : ℤ). fin b 0 x) q (zero_is s e t)
minus_is s (suc m) e d t q z = absurd (omega (arith, mul-pos (mul-pos (zero-lt-suc m) (up_pos e)) (down_pos d)))

nan_not : nan ≡ minus_zero → ⊥
nan_not q = let z : ◌≡◌ {A = ℕ} 0 1 = cc in omega arith

inf_not : (s : Bool) → inf s ≡ minus_zero → ⊥
inf_not s q = let z : ◌≡◌ {A = ℕ} 0 1 = cc in omega arith

add_minus : (x y : Float) → T (fits binary32 x) → T (fits binary32 y) → add binary32 x y ≡ minus_zero → (x ≡ minus_zero) × (y ≡ minus_zero)
unfolding add
add_minus nan y u v q = absurd (nan_not q)
add_minus (inf s) nan u v q = absurd (nan_not q)
add_minus (inf true) (inf true) u v q = absurd (inf_not true q)
add_minus (inf true) (inf false) u v q = absurd (nan_not q)
add_minus (inf false) (inf true) u v q = absurd (nan_not q)
add_minus (inf false) (inf false) u v q = absurd (inf_not false q)
add_minus (inf s) (fin t n d) u v q = absurd (inf_not s q)
add_minus (fin s m e) nan u v q = absurd (nan_not q)
add_minus (fin s m e) (inf t) u v q = absurd (inf_not t q)
add_minus (fin s m e) (fin t n d) u v q =
    let g = parts s m e u in
    let h = parts t n d v in
    let c = down e * down d in
    let w : n * up d * down e * unit ≡ n * up d * h.0 * c =
    scaled (n * up d) (down d) (down e) unit h.0 h.1 ∙ ap (λ (k : ℕ). n * up d * h.0 * k) (mul_comm (down d) (down e)) in
    let r = sum_minus s (m * up e * down d) t (n * up d * down e) c (m * up e * g.0) (n * up d * h.0) (mul-pos (down_pos e) (down_pos d))
    (scaled (m * up e) (down e) (down d) unit g.0 g.1) w q in
    (minus_is s m e d u r.0 (omega (arith, r.2)), minus_is t n d e v r.1 (omega (arith, r.2)))

-- ---- the copies of a bit

sum-all_minus : (xs : List Float) (a : Float) → T (fits binary32 a) → NoneFails (fits binary32) xs → sum_of a xs ≡ minus_zero
    → (a ≡ minus_zero) × (xs ≡ replicate (length xs) minus_zero)
sum-all_minus [] a t h q = (q, refl)
sum-all_minus (x ∷ xs) a t h q =
    let r = sum-all_minus xs (add binary32 a x) (add-fits binary32 a x) (none_rest (fits binary32) x xs h) q in
    let s = add_minus a x t (subst T (sym (none_first (fits binary32) x xs h)) tt) r.0 in
    (s.0, ap₂ (λ (v : Float) (l : List Float). v ∷ l) s.1 r.1)

-- where there is a copy: the joined value is -0.0 only if all copies are
pub join_minus : (x : Float) (xs : List Float) → NoneFails (fits binary32) (x ∷ xs) → value_of (join_of (x ∷ xs)) ≡ minus_zero
    → x ∷ xs ≡ replicate (length (x ∷ xs)) minus_zero
join_minus x xs h q =
    let t = subst T (sym (none_first (fits binary32) x xs h)) tt in
    let r = sum-all_minus xs x t (none_rest (fits binary32) x xs h) (clip_minus (sum_of x xs) (sym (join_value x xs) ∙ q)) in
    ap₂ (λ (v : Float) (l : List Float). v ∷ l) r.0 r.1
