-- The sum of copies in range is finite, and at most 65,536 for each copy in magnitude: what is clipped is never a NaN.
use mathlib.Core.Path.{◌≡◌, refl, sym, ap, ◌∙◌, subst}
use mathlib.Core.Bool.{Bool, true, false, cond, ◌&&◌, ◌||◌, beq, true≢false}
use mathlib.Core.List.{List, [], ◌∷◌}
use Prim.Native.Nat.{ℕ, zero, suc, ◌+◌, ◌-◌, ◌*◌, ◌^◌, ◌≤◌, ◌<◌}
use native.Mathlib.Nat.{le_trans, le_of_eq, lt_of_lt_of_le, add-mul, mul_assoc, mul_comm, mul-one, mul-pos, mul_right_comm, mul-le-mul_right, le_of_mul-le-mul_right, zero-lt-suc}
use native.Mathlib.Omega.{arith}
use lib.Dec.{T, lit≤, ltb, eqb, ltb→lt, eqb→eq}
use lib.Pow.{shl_lt}
use lib.IntN.{pos}
use lib.ListN.{length}
use lib.Ieee.{Float, nan, inf, fin, Format, binary32, prec, emax, low, up, down, odd, units, round, sum, add, neg, le}
use lib.Ieee.Exact.{HasValue, round_exact}
use lib.Ieee.Fits.{down_pos, round_is, and_l, and_r}
use lib.Ieee.Order.{round_mono}
use Rattle.laws.specs.FirstFail.{NoneFails}
use Rattle.laws.proofs.FirstFailLaws.{none_first, none_rest}
use Rattle.sheet.specs.Counts.{most_bits}
use Rattle.joining.specs.Joining.{sum_of}
use Rattle.joining.specs.Range.{in_range}
use Rattle.joining.specs.Whole.{Under}

-- ---- a rounded value by its sign

-- not a NaN, and of sign +
abbrev pub Plus : Float → Type 0
Plus nan = ⊥
Plus (inf s) = s ≡ false
Plus (fin s m e) = s ≡ false

plus_odd : (d q k l : ℕ) → Plus (odd d false q k l)
unfolding odd
plus_odd d zero k l = refl
plus_odd d (suc q) k l = refl

plus_cond : (b : Bool) (x : Float) → Plus x → Plus (cond b x (inf false))
plus_cond true x p = p
plus_cond false x p = refl

plus_units : (f : Format) (q k : ℕ) → Plus (units f false q k)
unfolding units
plus_units f q k =
    plus_cond (ltb (q * 2 ^ k) (2 ^ (low f + suc (emax f)))) (odd (suc (prec f)) false q k (low f)) (plus_odd (suc (prec f)) q k (low f))

pub plus_round : (f : Format) (a c : ℕ) → Plus (round f false a c)
plus_round f a c = rw (round_is f false a c) (plus_units f _ _)

neg_odd : (d q k l : ℕ) → odd d true q k l ≡ neg (odd d false q k l)
unfolding odd neg
neg_odd d zero k l = refl
neg_odd d (suc q) k l = refl

neg_cond : (b : Bool) (x y : Float) → x ≡ neg y → cond b x (inf true) ≡ neg (cond b y (inf false))
unfolding neg
neg_cond true x y e = e
neg_cond false x y e = refl

neg_units : (f : Format) (q k : ℕ) → units f true q k ≡ neg (units f false q k)
unfolding units
neg_units f q k =
    neg_cond (ltb (q * 2 ^ k) (2 ^ (low f + suc (emax f)))) (odd (suc (prec f)) true q k (low f)) (odd (suc (prec f)) false q k (low f))
    (neg_odd (suc (prec f)) q k (low f))

pub neg_round : (f : Format) (a c : ℕ) → round f true a c ≡ neg (round f false a c)
neg_round f a c = round_is f true a c ∙ neg_units f _ _ ∙ ap neg (sym (round_is f false a c))

under_neg : (x : Float) (n : ℕ) → Under x n → Under (neg x) n
unfolding neg
under_neg nan n u = u
under_neg (inf s) n u = u
under_neg (fin s m e) n u = u

-- ---- what `le` says

or_case : (a b : Bool) {C : Type 0} → (T a → C) → (T b → C) → T (a || b) → C
or_case true b f g t = f tt
or_case false b f g t = g t

pub le_nat : (a b : ℕ) (r : Bool) → T (ltb a b || (eqb a b && r)) → a ≤ b
le_nat a b r = or_case (ltb a b) (eqb a b && r) (λ t. omega (arith, ltb→lt a b t)) (λ t. le_of_eq (eqb→eq a b (and_l (eqb a b) r t)))

le_nat' : (a b : ℕ) (r : Bool) → T (ltb b a || (eqb a b && r)) → b ≤ a
le_nat' a b r = or_case (ltb b a) (eqb a b && r) (λ t. omega (arith, ltb→lt b a t)) (λ t. le_of_eq (sym (eqb→eq a b (and_l (eqb a b) r t))))

-- x over de is at most y over dd, which is n
through : (x y n de dd : ℕ) → 0 < dd → x * dd ≤ y * de → y * 1 ≡ n * dd → x ≤ n * de
through x y n de dd p h e =
    let q : y * de ≡ n * de * dd = ap (λ (z : ℕ). z * de) (sym (mul-one y) ∙ e) ∙ mul_right_comm n dd de in
    le_of_mul-le-mul_right (le_trans h (le_of_eq q)) p

under_le : (x y : Float) (n : ℕ) → Plus x → T (le x y) → HasValue y false n 1 → Under x n
unfolding le
under_le nan y n p t v = p
under_le (inf true) y n p t v = absurd (true≢false p)
under_le (inf false) nan n p t v = v
under_le (inf false) (inf s) n p t v = v
under_le (inf false) (fin s k d) n p t v = t
under_le (fin true m e) y n p t v = absurd (true≢false p)
under_le (fin false m e) nan n p t v = absurd v
under_le (fin false m e) (inf s) n p t v = absurd v
under_le (fin false m e) (fin true k d) n p t v = absurd (true≢false v.0)
under_le (fin false m e) (fin false k d) n p t v =
    through (m * up e) (k * up d) n (down e) (down d) (down_pos d) (le_nat (m * up e * down d) (k * up d * down e) true t) v.1

-- ---- rounding stays under a multiple of 65,536

mark : (q : ℕ) → q < 2 ^ 24 → HasValue (round binary32 false (q * 65536) 1) false (q * 65536) 1
mark q h =
    round_exact binary32 false (q * 65536) 1 q 165 (zero-lt-suc 0) h (lt_of_lt_of_le (shl_lt 24 165 h) (lit≤ tt))
    (mul_assoc q 65536 (2 ^ 149) ∙ sym (mul-one (q * 2 ^ 165)))

round_plus : (n c q : ℕ) → 0 < c → n ≤ q * 65536 * c → q < 2 ^ 24 → Under (round binary32 false n c) (q * 65536)
round_plus n c q p h l =
    under_le (round binary32 false n c) (round binary32 false (q * 65536) 1) (q * 65536) (plus_round binary32 n c)
    (round_mono binary32 n c (q * 65536) 1 p (zero-lt-suc 0) (le_trans (le_of_eq (mul-one n)) h)) (mark q l)

round_under : (s : Bool) (n c q : ℕ) → 0 < c → n ≤ q * 65536 * c → q < 2 ^ 24 → Under (round binary32 s n c) (q * 65536)
round_under false n c q p h l = round_plus n c q p h l
round_under true n c q p h l = rw (neg_round binary32 n c) (under_neg (round binary32 false n c) (q * 65536) (round_plus n c q p h l))

under_cond : (b : Bool) (x y : Float) (n : ℕ) → Under x n → Under y n → Under (cond b x y) n
under_cond true x y n u v = u
under_cond false x y n u v = v

sum_under : (s : Bool) (a : ℕ) (t : Bool) (b c q : ℕ) → 0 < c → a + b ≤ q * 65536 * c → q < 2 ^ 24
    → Under (sum binary32 s a t b c) (q * 65536)
unfolding sum
sum_under s a t b c q p h l =
    let more = round binary32 t (b - a) c in
    let rest = round binary32 (s && ltb b a) (a - b) c in
    under_cond (beq s t) (round binary32 s (a + b) c) (cond (ltb a b) more rest) (q * 65536)
    (round_under s (a + b) c q p h l)
    (under_cond (ltb a b) more rest (q * 65536)
    (round_under t (b - a) c q p (omega arith) l)
    (round_under (s && ltb b a) (a - b) c q p (omega arith) l))

add_under : (x y : Float) (a b : ℕ) → Under x (a * 65536) → Under y (b * 65536) → a + b < 2 ^ 24 → Under (add binary32 x y) ((a + b) * 65536)
unfolding add
add_under nan y a b u v l = u
add_under (inf s) y a b u v l = absurd u
add_under (fin s m e) nan a b u v l = absurd v
add_under (fin s m e) (inf t) a b u v l = absurd v
add_under (fin s m e) (fin t n d) a b u v l =
    let c = down e * down d in
    let A : m * up e * down d ≤ a * 65536 * c = le_trans (mul-le-mul_right (down d) u) (le_of_eq (mul_assoc (a * 65536) (down e) (down d))) in
    let swap = ap (λ (k : ℕ). b * 65536 * k) (mul_comm (down d) (down e)) in
    let B : n * up d * down e ≤ b * 65536 * c =
    le_trans (mul-le-mul_right (down e) v) (le_of_eq (mul_assoc (b * 65536) (down d) (down e) ∙ swap)) in
    let S : (a + b) * 65536 * c ≡ a * 65536 * c + b * 65536 * c =
    ap (λ (k : ℕ). k * c) (add-mul a b 65536) ∙ add-mul (a * 65536) (b * 65536) c in
    sum_under s (m * up e * down d) t (n * up d * down e) c (a + b) (mul-pos (down_pos e) (down_pos d)) (omega arith) l

-- ---- values in range

range_under : (x : Float) → in_range x ≡ true → Under x (1 * 65536)
range_under x t = go x (subst T (sym t) tt)
  where
    go : (x : Float) → T (in_range x) → Under x (1 * 65536)
    go nan t = unfold le in absurd t
    go (inf true) t = unfold le in absurd t
    go (inf false) t = unfold le in absurd t
    go (fin false m e) t =
        unfold le in
        let h : m * up e * 1 ≤ 65536 * down e =
        le_nat (m * up e * 1) (65536 * down e) true (and_r (le (fin true 1 (pos 16)) (fin false m e)) (le (fin false m e) (fin false 1 (pos 16))) t) in
        omega arith
    go (fin true m e) t =
        unfold le in
        let h : m * up e * 1 ≤ 65536 * down e =
        le_nat' (65536 * down e) (m * up e * 1) true (and_l (le (fin true 1 (pos 16)) (fin true m e)) (le (fin true m e) (fin false 1 (pos 16))) t) in
        omega arith

fold_under : (xs : List Float) (a : Float) (k : ℕ) → Under a (k * 65536) → NoneFails in_range xs → k + length xs < 2 ^ 24
    → Under (sum_of a xs) ((k + length xs) * 65536)
fold_under [] a k u h l = let e : k ≡ k + 0 = omega arith in subst (λ (n : ℕ). Under a (n * 65536)) e u
fold_under (x ∷ xs) a k u h l =
    let e : k + 1 + length xs ≡ k + suc (length xs) = omega arith in
    let r = range_under x (none_first in_range x xs h) in
    subst (λ (n : ℕ). Under (sum_of (add binary32 a x) xs) (n * 65536)) e
    (fold_under xs (add binary32 a x) (k + 1) (add_under a x k 1 u r (omega arith)) (none_rest in_range x xs h) (omega arith))

pub sum_finite : (x : Float) (xs : List Float) → NoneFails in_range (x ∷ xs) → length (x ∷ xs) ≤ most_bits
    → Under (sum_of x xs) (length (x ∷ xs) * 65536)
sum_finite x xs h l =
    let e : 1 + length xs ≡ suc (length xs) = omega arith in
    rw (← e) (fold_under xs x 1 (range_under x (none_first in_range x xs h)) (none_rest in_range x xs h) (omega arith))
