-- Laws of clipping: a value within keeps every bit, one beyond becomes the bound; a clipped value is finite, at most 1,024 in magnitude, and fits an f32
-- where the value does; a whole one is the lesser of itself and 1,024 in magnitude, with its sign.
use mathlib.Core.Path.{◌≡◌, refl, sym, ap, ◌∙◌}
use mathlib.Core.Bool.{Bool, true, false, cond, ◌&&◌, ◌||◌, true≢false, false≢true}
use mathlib.Core.Logic.{◌≢◌}
use Prim.Native.Nat.{ℕ, zero, suc, min, ◌+◌, ◌*◌, ◌^◌, ◌≤◌, ◌<◌}
use native.Mathlib.Nat.{le_of_lt, min-eq_left, min-eq_right, min-le_right, mul-le-mul_right, le_of_mul-le-mul_right}
use native.Mathlib.Omega.{arith}
use borrow.Author.Tests.{lt-ltb, le-ltb, ltb-true, ne_eqb, eq-eqb}
use lib.Dec.{T, ltb, eqb}
use lib.IntN.{ℤ, pos}
use lib.Ieee.{Float, nan, inf, fin, binary32, up, down, round, lt, le, fits}
use lib.Ieee.Exact.{HasValue}
use lib.Ieee.Back.{round_whole, whole_unique}
use lib.Ieee.Fits.{down_pos, round-fits}
use Rattle.laws.proofs.TestLaws.{split}
use Rattle.matching.specs.Signed.{signed_by}
use Rattle.joining.specs.declared.Heard.{Heard}
use Rattle.joining.specs.declared.Heard.TheVariants.{Nothing, Once, Joined}
use Rattle.joining.specs.Joining.{utmost, nethermost, clipped, clipped_of, plus_zero, value_of}
use Rattle.joining.specs.Linked.{capped, magnitude_of}
use Rattle.joining.specs.Whole.{Whole, bound, bounded, Under}

-- ---- by the tests of the definition

pub clip_within : (x : Float) → le x utmost ≡ true → le nethermost x ≡ true → clipped x ≡ x
unfolding clipped
clip_within x a b = rw (a, b)

clip_over : (x : Float) → le x utmost ≡ false → clipped x ≡ utmost
unfolding clipped
clip_over x a = rw a

clip_below : (x : Float) → le x utmost ≡ true → le nethermost x ≡ false → clipped x ≡ nethermost
unfolding clipped
clip_below x a b = rw (a, b)

-- ---- and of the code: x held from above, and then from below

apart : le nethermost utmost ≡ true
unfolding le
apart = refl

pub cap_stays : (x : Float) → le nethermost (capped x) ≡ true → capped x ≡ clipped x
unfolding clipped
cap_stays x q = go (le x utmost) q
  where
    go : (t : Bool) → le nethermost (cond t x utmost) ≡ true → cond t x utmost ≡ cond t (cond (le nethermost x) x nethermost) utmost
    go true q = rw q
    go false q = refl

pub cap_falls : (x : Float) → le nethermost (capped x) ≡ false → nethermost ≡ clipped x
unfolding clipped
cap_falls x q = go (le x utmost) q
  where
    go : (t : Bool) → le nethermost (cond t x utmost) ≡ false → nethermost ≡ cond t (cond (le nethermost x) x nethermost) utmost
    go true q = rw q
    go false q = absurd (true≢false (sym apart ∙ q))

-- ---- of a finite value: the bound has its sign

-- `le` of two numbers of one sign, t being whether they are the same
at_most : (a b : ℕ) (t : Bool) → (a ≡ b → t ≡ true) → a ≤ b → ltb a b || (t && true) ≡ true
at_most a b t q h = split b a (λ l. rw (q (omega arith)) (or_true (ltb a b))) (λ l. rw (lt-ltb a b l))
  where
    or_true : (b : Bool) → b || true ≡ true
    or_true true = refl
    or_true false = refl

past : (a b : ℕ) (t : Bool) → (a ≢ b → t ≡ false) → b < a → ltb a b || (t && true) ≡ false
past a b t q h = rw (le-ltb a b (omega arith), q (λ e. omega arith))

-- and of one below 0 and one above
across : (a b : ℕ) (t : Bool) → 0 < a + b → ltb 0 (a + b) || t ≡ true
across a b t h = ap (λ (s : Bool). s || t) (lt-ltb 0 (a + b) h)

module _ (m : ℕ) (e : ℤ) where
  abbrev size : ℕ
  size = m * up e * 1

  abbrev limit : ℕ
  limit = 1024 * down e

  most_stays : m * up e ≤ 1024 * down e → le (fin false m e) utmost ≡ true
  unfolding le
  most_stays h = at_most size limit (eqb size limit) (eq-eqb size limit) (omega arith)

  most-passed : 1024 * down e < m * up e → le (fin false m e) utmost ≡ false
  unfolding le
  most-passed h = past size limit (eqb size limit) (ne_eqb size limit) (omega arith)

  least_stays : m * up e ≤ 1024 * down e → le nethermost (fin true m e) ≡ true
  unfolding le
  least_stays h = at_most size limit (eqb limit size) (λ q. eq-eqb limit size (sym q)) (omega arith)

  least-passed : 1024 * down e < m * up e → le nethermost (fin true m e) ≡ false
  unfolding le
  least-passed h = past size limit (eqb limit size) (λ q. ne_eqb limit size (λ r. q (sym r))) (omega arith)

  above-least : le nethermost (fin false m e) ≡ true
  unfolding le
  above-least = across limit size _ (omega (arith, down_pos e))

  below-most : le (fin true m e) utmost ≡ true
  unfolding le
  below-most = across size limit _ (omega (arith, down_pos e))

clip_in : (s : Bool) (m : ℕ) (e : ℤ) → m * up e ≤ 1024 * down e → clipped (fin s m e) ≡ fin s m e
clip_in false m e h = clip_within (fin false m e) (most_stays m e h) (above-least m e)
clip_in true m e h = clip_within (fin true m e) (below-most m e) (least_stays m e h)

clip_out : (s : Bool) (m : ℕ) (e : ℤ) → 1024 * down e < m * up e → clipped (fin s m e) ≡ fin s 1 (pos 10)
clip_out false m e h = clip_over (fin false m e) (most-passed m e h)
clip_out true m e h = clip_below (fin true m e) (below-most m e) (least-passed m e h)

-- what becomes of one: itself, or the bound
clip_either : (P : Float → Type 0) (s : Bool) (m : ℕ) (e : ℤ) → (m * up e ≤ 1024 * down e → P (fin s m e))
    → (1024 * down e < m * up e → P (fin s 1 (pos 10))) → P (clipped (fin s m e))
clip_either P s m e f g =
    split (m * up e) (1024 * down e) (λ l. rw (clip_in s m e l) (f l)) (λ l. rw (clip_out s m e l) (g l))

-- ---- of every value

-- "beyond plus or minus 1,024 becomes that bound"
pub clip_above : (x : Float) → lt utmost x ≡ true → clipped x ≡ utmost
unfolding lt le
clip_above nan h = absurd (false≢true h)
clip_above (inf true) h = absurd (false≢true h)
clip_above (inf false) h = clip_over (inf false) refl
clip_above (fin true m e) h = absurd (false≢true h)
clip_above (fin false m e) h = clip_out false m e (omega (arith, ltb-true (1024 * down e) (m * up e * 1) h))

pub clip_beneath : (x : Float) → lt x nethermost ≡ true → clipped x ≡ nethermost
unfolding lt le
clip_beneath nan h = absurd (false≢true h)
clip_beneath (inf true) h = clip_below (inf true) refl refl
clip_beneath (inf false) h = absurd (false≢true h)
clip_beneath (fin false m e) h = absurd (false≢true h)
clip_beneath (fin true m e) h = clip_out true m e (omega (arith, ltb-true (1024 * down e) (m * up e * 1) h))

pub clip_under : (x : Float) → Under (clipped x) bound
clip_under nan = rw (clip_over nan (unfold le in refl)) (omega arith)
clip_under (inf false) = rw (clip_over (inf false) (unfold le in refl)) (omega arith)
clip_under (inf true) = rw (clip_below (inf true) (unfold le in refl) (unfold le in refl)) (omega arith)
clip_under (fin s m e) = clip_either (λ x. Under x bound) s m e (λ l. l) (λ l. omega arith)

pub clip_fits : (x : Float) → T (fits binary32 x) → T (fits binary32 (clipped x))
unfolding clipped
clip_fits x t = go (le x utmost) (le nethermost x)
  where
    go : (a b : Bool) → T (fits binary32 (cond a (cond b x nethermost) utmost))
    go false b = unfold fits in tt
    go true false = unfold fits in tt
    go true true = t

-- of what was heard of a bit: +0.0 stays
zero_stays : clipped plus_zero ≡ plus_zero
unfolding clipped le
zero_stays = refl

pub clip_heard : (h : Heard) → value_of (clipped_of h) ≡ clipped (value_of h)
unfolding clipped_of value_of
clip_heard Nothing = sym zero_stays
clip_heard (Once x) = refl
clip_heard (Joined x n) = refl

-- ---- a magnitude

pub magnitude_clip : (x : Float) → capped (magnitude_of x) ≡ magnitude_of (clipped x)
unfolding le clipped magnitude_of
magnitude_clip nan = refl
magnitude_clip (inf true) = refl
magnitude_clip (inf false) = refl
magnitude_clip (fin s zero e) = sym (ap magnitude_of (clip_in s 0 e (omega arith)))
magnitude_clip (fin s (suc m) e) =
    split (suc m * up e) (1024 * down e)
    (λ l. cap (most_stays (suc m) e l) ∙ sym (ap magnitude_of (clip_in s (suc m) e l)))
    (λ l. cap (most-passed (suc m) e l) ∙ sym (ap magnitude_of (clip_out s (suc m) e l)))
  where
    cap : {t : Bool} → le (fin false (suc m) e) utmost ≡ t → capped (fin false (suc m) e) ≡ cond t (fin false (suc m) e) utmost
    cap q = rw q

-- ---- a whole value

clip_value : (x : Float) (s : Bool) (a : ℕ) → HasValue x s a 1 → HasValue (clipped x) s (min a bound) 1
clip_value nan s a v = absurd v
clip_value (inf t) s a v = absurd v
clip_value (fin p m e) s a v =
    clip_either (λ x. HasValue x s (min a bound) 1) p m e
    (λ l.
    let k : a * down e ≤ 1024 * down e = omega (arith, v.1) in
    rw (min-eq_left (le_of_mul-le-mul_right k (down_pos e))) v)
    (λ l.
    let k : 1024 < a = split a 1024 (λ le. absurd (omega (arith, v.1, mul-le-mul_right (down e) le))) (λ lt. lt) in
    rw (min-eq_right (le_of_lt k)) (v.0, refl))

bounded_by : (s : Bool) (n : ℕ) → signed_by s (min n bound) ≡ bounded (signed_by s n)
unfolding bounded
bounded_by false n = refl
bounded_by true zero = refl
bounded_by true (suc n) = refl

pub clip_whole : (x : Float) (z : ℤ) → Whole x z → Whole (clipped x) (bounded z)
clip_whole x z w =
    record {
      sign = w.sign;
      size = min w.size bound;
      value = clip_value x w.sign w.size w.value;
      is = bounded_by w.sign w.size ∙ ap bounded w.is;
    }

pub clip_round : (s : Bool) (n : ℕ) → n ≤ 2 ^ 24 → clipped (round binary32 s n 1) ≡ round binary32 s (min n bound) 1
clip_round s n h =
    let r = round binary32 s n 1 in
    let few = min-le_right n bound in
    whole_unique binary32 (clipped r) (round binary32 s (min n bound) 1) s (min n bound)
    (clip_fits r (round-fits binary32 s n 1)) (round-fits binary32 s (min n bound) 1)
    (clip_value r s n (round_whole binary32 s n h))
    (round_whole binary32 s (min n bound) (omega (arith, few)))

-- ---- -0.0 comes of -0.0 alone

bound_not : (s : Bool) → fin s 1 (pos 10) ≡ fin true 0 (pos 0) → ⊥
bound_not s q = let z : ◌≡◌ {A = ℕ} 0 1 = cc in omega arith

pub clip_minus : (x : Float) → clipped x ≡ fin true 0 (pos 0) → x ≡ fin true 0 (pos 0)
unfolding clipped
clip_minus x q = go (le x utmost) (le nethermost x) q
  where
    go : (a b : Bool) → cond a (cond b x nethermost) utmost ≡ fin true 0 (pos 0) → x ≡ fin true 0 (pos 0)
    go false b q = absurd (bound_not false q)
    go true false q = absurd (bound_not true q)
    go true true q = q
