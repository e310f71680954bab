-- Whole floats: where every soft value is whole and small, every sum is the exact whole sum, and a joined value that sum, clipped.
use mathlib.Core.Path.{◌≡◌, refl, sym, ap, ap₂, ◌∙◌, subst}
use mathlib.Core.Bool.{Bool, true, false, cond, ◌&&◌}
use mathlib.Core.List.{List, [], ◌∷◌, map}
use mathlib.Core.Logic.{◌⊎◌, inl, inr}
use Prim.Native.Nat.{ℕ, zero, suc, ◌+◌, ◌-◌, ◌*◌, ◌/◌, ◌%◌, ◌^◌, ◌≤◌, ◌<◌}
use native.Mathlib.Nat.{add-mul, mul-sub, mul_assoc, mul_comm, mul-one, mul-pos, mul-le-mul_right, mul-lt-mul_of_pos_right, zero-lt-suc, div-add-mod', add-zero, eq_of_mul-eq-mul_right}
use native.Mathlib.Omega.{arith}
use lib.Dec.{T, ltb, leb, eqb, leb→le, eqb→eq}
use borrow.Author.Tests.{lt-ltb, le-ltb, ltb-true, ltb-false}
use lib.IntN.{ℤ, pos, negsuc, neg_ℤ, nat_abs, sub_ℕ, ◌+ℤ◌, +ℤ_comm, +ℤ_assoc, +ℤ_idr, neg_ℤ-+ℤ}
use lib.ListN.{length}
use lib.Ieee.{Float, nan, inf, fin, Format, binary32, prec, up, down, round, sum, add}
use lib.Ieee.Exact.{HasValue}
use lib.Ieee.Back.{round_whole}
use lib.Ieee.Scale.{round_same}
use lib.Ieee.Fits.{down_pos, and_l, and_r}
use Rattle.laws.specs.FirstFail.{NoneFails}
use Rattle.laws.proofs.FirstFailLaws.{none_first, none_rest}
use Rattle.sheet.specs.Counts.{most_bits}
use Rattle.matching.specs.Signed.{signed_by}
use Rattle.matching.proofs.SignedLaws.{magnitude}
use Rattle.joining.specs.Joining.{sum_of, raw_of, clipped_of, join_of, value_of}
use Rattle.joining.specs.Whole.{Whole, small_whole, whole_of, total, bounded}
use Rattle.joining.proofs.ClipLaws.{clip_whole}
use Rattle.joining.proofs.MadeLaws.{join_value}

-- ---- integers

diff_lt : (a b : ℕ) → a < b → pos a +ℤ neg_ℤ (pos b) ≡ neg_ℤ (pos (b - a))
diff_lt a zero h = absurd (omega arith)
diff_lt a (suc b) h =
    let n : suc b - a ≡ suc (suc b - suc a) = omega arith in
    ap (λ (t : Bool). cond t (negsuc (suc b - suc a)) (pos (a - suc b))) (lt-ltb a (suc b) h) ∙ sym (ap (λ (k : ℕ). neg_ℤ (pos k)) n)

diff_ge : (a b : ℕ) → b ≤ a → pos a +ℤ neg_ℤ (pos b) ≡ pos (a - b)
diff_ge a zero h =
    let n : a + 0 ≡ a - 0 = omega arith in ap pos n
diff_ge a (suc b) h = ap (λ (t : Bool). cond t (negsuc (suc b - suc a)) (pos (a - suc b))) (le-ltb a (suc b) h)

abs_sub : (a b : ℕ) → nat_abs (sub_ℕ a b) ≤ a + b
abs_sub a b = go (ltb a b) refl
  where
    go : (t : Bool) → ltb a b ≡ t → nat_abs (cond t (negsuc (b - suc a)) (pos (a - b))) ≤ a + b
    go true e = omega (arith, ltb-true a b e)
    go false e = omega arith

abs_add : (x y : ℤ) → nat_abs (x +ℤ y) ≤ nat_abs x + nat_abs y
abs_add (pos a) (pos b) = omega arith
abs_add (pos a) (negsuc b) = abs_sub a (suc b)
abs_add (negsuc a) (pos b) = omega (arith, abs_sub b (suc a))
abs_add (negsuc a) (negsuc b) = omega arith

pub sub-mul : (a b c : ℕ) → (a - b) * c ≡ a * c - b * c
sub-mul a b c = mul_comm (a - b) c ∙ mul-sub c a b ∙ ap₂ ◌-◌ (mul_comm c a) (mul_comm c b)

-- ---- a sum over one denominator is the sum of the numerators over 1

pub by : (b : Bool) → (b ≡ true) ⊎ (b ≡ false)
by true = inl refl
by false = inr refl

ltb_scale : (a b c : ℕ) → 0 < c → ltb (a * c) (b * c) ≡ ltb a b
ltb_scale a b c h = go (by (ltb a b))
  where
    go : (ltb a b ≡ true) ⊎ (ltb a b ≡ false) → ltb (a * c) (b * c) ≡ ltb a b
    go (inl e) = lt-ltb (a * c) (b * c) (mul-lt-mul_of_pos_right (ltb-true a b e) h) ∙ sym e
    go (inr e) = le-ltb (a * c) (b * c) (mul-le-mul_right c (ltb-false a b e)) ∙ sym e

over : (f : Format) (s : Bool) (N n c : ℕ) → 0 < c → N ≡ n * c → round f s N c ≡ round f s n 1
over f s N n c h e = round_same f s N c n 1 h (zero-lt-suc 0) (mul-one N ∙ e)

sum_over : (f : Format) (s : Bool) (a : ℕ) (t : Bool) (b c : ℕ) → 0 < c → sum f s (a * c) t (b * c) c ≡ sum f s a t b 1
unfolding sum
sum_over f s a t b c h =
    rw (
      ltb_scale a b c h,
      ltb_scale b a c h,
      over f s (a * c + b * c) (a + b) c h (sym (add-mul a b c)),
      over f t (b * c - a * c) (b - a) c h (sym (sub-mul b a c)),
      over f (s && ltb b a) (a * c - b * c) (a - b) c h (sym (sub-mul a b c)),
    )

left : (m : ℕ) (e d : ℤ) (a : ℕ) → m * up e * 1 ≡ a * down e → m * up e * down d ≡ a * (down e * down d)
left m e d a h = ap (λ (k : ℕ). k * down d) (sym (mul-one (m * up e)) ∙ h) ∙ mul_assoc a (down e) (down d)

right : (n : ℕ) (d e : ℤ) (b : ℕ) → n * up d * 1 ≡ b * down d → n * up d * down e ≡ b * (down e * down d)
right n d e b h = left n d e b h ∙ ap (λ (k : ℕ). b * k) (mul_comm (down d) (down e))

-- two whole floats are added as their numbers are
pub add_is : (f : Format) (x y : Float) (s : Bool) (a : ℕ) (t : Bool) (b : ℕ) → HasValue x s a 1 → HasValue y t b 1
    → add f x y ≡ sum f s a t b 1
unfolding add
add_is f nan y s a t b v w = elim v [ ]
add_is f (inf _) y s a t b v w = elim v [ ]
add_is f (fin p m e) nan s a t b v w = elim w [ ]
add_is f (fin p m e) (inf _) s a t b v w = elim w [ ]
add_is f (fin p m e) (fin q n d) s a t b v w =
    ap₂ (λ (j k : ℕ). sum f p j q k (down e * down d)) (left m e d a v.1) (right n d e b w.1)
    ∙ sum_over f p a q b (down e * down d) (mul-pos (down_pos e) (down_pos d))
    ∙ ap₂ (λ (u v : Bool). sum f u a v b 1) v.0 w.0

-- of one sign: the sign stays
pub same_sum : (f : Format) (s : Bool) (a b : ℕ) → a + b ≤ 2 ^ prec f → HasValue (sum f s a s b 1) s (a + b) 1
unfolding sum
same_sum f false a b h = round_whole f false (a + b) h
same_sum f true a b h = round_whole f true (a + b) h

rounded : (f : Format) (s : Bool) (n : ℕ) (z : ℤ) → n ≤ 2 ^ prec f → signed_by s n ≡ z → Whole (round f s n 1) z
rounded f s n z h e = record { sign = s; size = n; value = round_whole f s n h; is = e }

whole_sum : (f : Format) (s : Bool) (a : ℕ) (t : Bool) (b : ℕ) → a + b ≤ 2 ^ prec f → Whole (sum f s a t b 1) (signed_by s a +ℤ signed_by t b)
unfolding sum
whole_sum f false a false b h = rounded f false (a + b) (pos a +ℤ pos b) h refl
whole_sum f true a true b h = rounded f true (a + b) (neg_ℤ (pos a) +ℤ neg_ℤ (pos b)) h (neg_ℤ-+ℤ (pos a) (pos b))
whole_sum f false a true b h = go (by (ltb a b))
  where
    go : (ltb a b ≡ true) ⊎ (ltb a b ≡ false)
        → Whole (cond (ltb a b) (round f true (b - a) 1) (round f false (a - b) 1)) (pos a +ℤ neg_ℤ (pos b))
    go (inl e) = rw e (rounded f true (b - a) (pos a +ℤ neg_ℤ (pos b)) (omega arith) (sym (diff_lt a b (ltb-true a b e))))
    go (inr e) = rw e (rounded f false (a - b) (pos a +ℤ neg_ℤ (pos b)) (omega arith) (sym (diff_ge a b (ltb-false a b e))))
whole_sum f true a false b h = go (by (ltb a b)) (by (ltb b a))
  where
    swap : neg_ℤ (pos a) +ℤ pos b ≡ pos b +ℤ neg_ℤ (pos a)
    swap = +ℤ_comm (neg_ℤ (pos a)) (pos b)

    go : (ltb a b ≡ true) ⊎ (ltb a b ≡ false) → (ltb b a ≡ true) ⊎ (ltb b a ≡ false)
        → Whole (cond (ltb a b) (round f false (b - a) 1) (round f (ltb b a) (a - b) 1)) (neg_ℤ (pos a) +ℤ pos b)
    go (inl e) g = rw e (rounded f false (b - a) _ (omega arith) (sym (swap ∙ diff_ge b a (omega (arith, ltb-true a b e)))))
    go (inr e) (inl g) = rw (e, g) (rounded f true (a - b) _ (omega arith) (sym (swap ∙ diff_lt b a (ltb-true b a g))))
    go (inr e) (inr g) =
        let q : a - b ≡ b - a = omega (arith, ltb-false a b e, ltb-false b a g) in
        rw (e, g) (rounded f false (a - b) _ (omega arith) (ap pos q ∙ sym (swap ∙ diff_ge b a (ltb-false b a g))))

pub add-whole : (f : Format) (x y : Float) (z w : ℤ) → Whole x z → Whole y w → nat_abs z + nat_abs w ≤ 2 ^ prec f → Whole (add f x y) (z +ℤ w)
add-whole f x y z w p q h =
    let a : nat_abs z ≡ p.size = ap nat_abs (sym p.is) ∙ magnitude p.sign p.size in
    let b : nat_abs w ≡ q.size = ap nat_abs (sym q.is) ∙ magnitude q.sign q.size in
    rw (add_is f x y p.sign p.size q.sign q.size p.value q.value, ← p.is, ← q.is)
    (whole_sum f p.sign p.size q.sign q.size (omega arith))

-- ---- a float says itself whether it is whole and small, and which number it is

small_is : (x : Float) → small_whole x ≡ true → Whole x (whole_of x) × (nat_abs (whole_of x) ≤ 255)
unfolding small_whole whole_of
small_is nan t = absurd (subst T (sym t) tt)
small_is (inf s) t = absurd (subst T (sym t) tt)
small_is (fin s m e) t =
    let u = subst T (sym t) tt in
    let c = m * up e / down e in
    let r : m * up e % down e ≡ 0 = eqb→eq (m * up e % down e) 0 (and_l (eqb (m * up e % down e) 0) (leb c 255) u) in
    let l : c ≤ 255 = leb→le c 255 (and_r (eqb (m * up e % down e) 0) (leb c 255) u) in
    let v : m * up e * 1 ≡ c * down e =
    mul-one (m * up e) ∙ sym (div-add-mod' (m * up e) (down e)) ∙ ap (λ (k : ℕ). c * down e + k) r ∙ add-zero (c * down e) in
    (record { sign = s; size = c; value = (refl, v); is = refl }, rw magnitude l)

sum-exact : (xs : List Float) (a : Float) (z : ℤ) (k : ℕ) → Whole a z → nat_abs z ≤ 255 * k → NoneFails small_whole xs
    → k + length xs ≤ most_bits → Whole (sum_of a xs) (z +ℤ total (map whole_of xs))
unfolding total
sum-exact [] a z k v b ws h = rw +ℤ_idr v
sum-exact (x ∷ xs) a z k v b ws h =
    let s = small_is x (none_first small_whole x xs ws) in
    let w = whole_of x in
    subst (λ (u : ℤ). Whole (sum_of (add binary32 a x) xs) u) (+ℤ_assoc z w (total (map whole_of xs)))
    (sum-exact xs (add binary32 a x) (z +ℤ w) (suc k)
    (add-whole binary32 a x z w v s.0 (omega (arith, s.1)))
    (omega (arith, abs_add z w, s.1)) (none_rest small_whole x xs ws) (omega arith))

-- THE RULE: of at most 60,000 whole values up to 255 in magnitude, the sum is the exact sum, and the joined value is that, clipped
pub sum-whole : (x : Float) (xs : List Float) → NoneFails small_whole (x ∷ xs) → length (x ∷ xs) ≤ most_bits
    → Whole (sum_of x xs) (total (map whole_of (x ∷ xs)))
unfolding total
sum-whole x xs ws h =
    let s = small_is x (none_first small_whole x xs ws) in
    sum-exact xs x (whole_of x) 1 s.0 (omega (arith, s.1)) (none_rest small_whole x xs ws) (omega arith)

pub join_exact : (xs : List Float) → NoneFails small_whole xs → length xs ≤ most_bits → Whole (value_of (join_of xs)) (bounded (total (map whole_of xs)))
unfolding raw_of clipped_of join_of value_of total bounded
join_exact [] ws h = record { sign = false; size = 0; value = (refl, refl); is = refl }
join_exact (x ∷ xs) ws h = rw (join_value x xs) (clip_whole (sum_of x xs) (total (map whole_of (x ∷ xs))) (sum-whole x xs ws h))

-- a float is at most one whole number
pub whole-one : (x : Float) (z w : ℤ) → Whole x z → Whole x w → z ≡ w
whole-one nan z w p q = absurd p.value
whole-one (inf s) z w p q = absurd p.value
whole-one (fin s m e) z w p q =
    let g : p.sign ≡ q.sign = sym p.value.0 ∙ q.value.0 in
    let n : p.size ≡ q.size = eq_of_mul-eq-mul_right (down e) (down_pos e) p.size q.size (sym p.value.1 ∙ q.value.1) in
    sym p.is ∙ ap₂ signed_by g n ∙ q.is
