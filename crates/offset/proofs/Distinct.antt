-- Step 5: the y mod F are all different, for every q but 0 and F = 1, 2, 4, 8. One test that antt computes over |q| mod F, and one law that brings any q down to it.
use Prim.Native.Nat.{ℕ, zero, suc, ◌+◌, ◌*◌, ◌-◌, ◌/◌, ◌%◌, ◌<◌, ◌≤◌}
use mathlib.Core.Path.{◌≡◌, refl, sym, ◌∙◌, ap, subst}
use mathlib.Core.Logic.{◌≢◌}
use mathlib.Core.Bool.{Bool, true, false, cond}
use native.Mathlib.Nat.{mul-add, mul_assoc, mul_comm, add-mul-mod_self_right, div-add-mod', mod-lt, div-le_of_le-mul, mul-le-mul_left, le-mul_of_pos_right}
use native.Mathlib.Decide.{ℕ_discrete}
use native.Mathlib.Omega.{arith}
use lib.Dec.{T, eqb, eqb→eq}
use lib.ListN.{length, get_or, length-set}
use lib.Seq.{get_or-set_same, get_or-set_other}
use lib.IntN.{ℤ, pos, negsuc}
use Rattle.sheet.specs.Counts.{most_frames}
use Rattle.sheet.specs.Sizes.{frames_in}
use Rattle.offset.specs.Offset.{euclid, gcd, added_of, y_of, filled, S}
use borrow.Author.Tests.{eq-eqb}
use Rattle.laws.proofs.TestLaws.{both, below, below_at, implies, implied}
use Rattle.offset.proofs.QuotientLaws.{y_pos, y_neg, added_le}

-- y in natural numbers, by q's sign and magnitude
abbrev y_by : Bool → ℕ → ℕ → ℕ → ℕ
y_by false a F x = x * a + x * added_of a F / F
y_by true a F x = x * a - x * added_of a F / F

same-mod : (u v c e F : ℕ) → u + c * F ≡ v + e * F → u % F ≡ v % F
same-mod u v c e F h = sym (add-mul-mod_self_right u c F) ∙ (ap (λ (z : ℕ). z % F) h ∙ add-mul-mod_self_right v e F)

-- y mod F is the same for |q| mod F + F
lifted : (a F x : ℕ) → (g : ℕ) → 0 < F → (x * a + x * g / F) % F ≡ (x * (a % F + F) + x * g / F) % F
lifted a F x g h =
    let m : a / F * F + a % F ≡ a = div-add-mod' a F in
    let e₁ : x * (a % F + F) ≡ x * (a % F) + x * F = mul-add x (a % F) F in
    let e₂ : x * a ≡ x * (a / F * F) + x * (a % F) = ap (λ (z : ℕ). x * z) (sym m) ∙ mul-add x (a / F * F) (a % F) in
    let e₃ : x * (a / F) * F ≡ x * (a / F * F) = mul_assoc x (a / F) F in
    same-mod (x * a + x * g / F) (x * (a % F + F) + x * g / F) x (x * (a / F)) F (omega arith)

lowered : (a F x : ℕ) → (g : ℕ) → 0 < F → 0 < a → g ≤ F → (x * a - x * g / F) % F ≡ (x * (a % F + F) - x * g / F) % F
lowered a F x g h p i =
    let m : a / F * F + a % F ≡ a = div-add-mod' a F in
    let e₁ : x * (a % F + F) ≡ x * (a % F) + x * F = mul-add x (a % F) F in
    let e₂ : x * a ≡ x * (a / F * F) + x * (a % F) = ap (λ (z : ℕ). x * z) (sym m) ∙ mul-add x (a / F * F) (a % F) in
    let e₃ : x * (a / F) * F ≡ x * (a / F * F) = mul_assoc x (a / F) F in
    let b₁ : x * g / F ≤ x = div-le_of_le-mul F (rw (mul_comm F x) (mul-le-mul_left x i)) in
    let b₂ : x ≤ x * a = le-mul_of_pos_right x p in
    let b₃ : x ≤ x * F = le-mul_of_pos_right x h in
    same-mod (x * a - x * g / F) (x * (a % F + F) - x * g / F) x (x * (a / F)) F (omega arith)

added_mod : (t a : ℕ) → t < 3 → added_of a (frames_in (suc t)) ≡ added_of (a % frames_in (suc t) + frames_in (suc t)) (frames_in (suc t))
unfolding added_of gcd euclid
added_mod zero a h =
    let e : a % 2 ≡ (a % 2 + 2) % 2 = omega arith in
    ap (λ (z : ℕ). cond (eqb z 0) (euclid 2 2 z) 0) e
added_mod (suc zero) a h =
    let e : a % 2 ≡ (a % 4 + 4) % 2 = omega arith in
    let f : a % 4 ≡ (a % 4 + 4) % 4 = omega arith in
    ap (λ (z : ℕ). cond (eqb z 0) (euclid 4 4 (a % 4)) 0) e ∙ ap (λ (z : ℕ). cond (eqb ((a % 4 + 4) % 2) 0) (euclid 4 4 z) 0) f
added_mod (suc (suc zero)) a h =
    let e : a % 2 ≡ (a % 8 + 8) % 2 = omega arith in
    let f : a % 8 ≡ (a % 8 + 8) % 8 = omega arith in
    ap (λ (z : ℕ). cond (eqb z 0) (euclid 8 8 (a % 8)) 0) e ∙ ap (λ (z : ℕ). cond (eqb ((a % 8 + 8) % 2) 0) (euclid 8 8 z) 0) f
added_mod (suc (suc (suc t))) a h = absurd (omega arith)

frames_pos : (t : ℕ) → t < 3 → 0 < frames_in (suc t)
frames_pos zero h = omega arith
frames_pos (suc zero) h = omega arith
frames_pos (suc (suc zero)) h = omega arith
frames_pos (suc (suc (suc t))) h = absurd (omega arith)

same_y : (s : Bool) (t a x : ℕ) → t < 3 → 0 < a → y_by s a (frames_in (suc t)) x % frames_in (suc t) ≡ y_by s (a % frames_in (suc t) + frames_in (suc t)) (frames_in (suc t)) x % frames_in (suc t)
same_y false t a x h p =
    let F : ℕ = frames_in (suc t) in
    lifted a F x (added_of a F) (frames_pos t h) ∙ ap (λ (g : ℕ). (x * (a % F + F) + x * g / F) % F) (added_mod t a h)
same_y true t a x h p =
    let F : ℕ = frames_in (suc t) in
    lowered a F x (added_of a F) (frames_pos t h) p (added_le a F (frames_pos t h)) ∙ ap (λ (g : ℕ). (x * (a % F + F) - x * g / F) % F) (added_mod t a h)

-- the test
abbrev apart : Bool → ℕ → ℕ → ℕ → ℕ → Bool
apart s F a x z = implies (eqb (y_by s a F x % F) (y_by s a F z % F)) (eqb x z)

abbrev rows : Bool → ℕ → Bool
rows s t =
    let F : ℕ = frames_in (suc t) in
    below (λ r. below (λ x. below (apart s F (r + F) x) F) F) F

test : Bool → Bool
test s = below (rows s) 3

passed : (s : Bool) → T (test s)
unfolding test added_of gcd euclid below both implies
passed true = tt
passed false = tt

distinct_by : (s : Bool) (t a x z : ℕ) → t < 4 → 0 < a → x < frames_in t → z < frames_in t → y_by s a (frames_in t) x % frames_in t ≡ y_by s a (frames_in t) z % frames_in t → x ≡ z
distinct_by s zero a x z h p i j e = omega arith
distinct_by s (suc t) a x z h p i j e =
    let F : ℕ = frames_in (suc t) in
    let lt : t < 3 = omega arith in
    let r : a % F < F = mod-lt a (frames_pos t lt) in
    let one : T (rows s t) = unfold test in below_at (rows s) 3 (passed s) t lt in
    let two : T (apart s F (a % F + F) x z) = below_at (apart s F (a % F + F) x) F (below_at (λ (w : ℕ). below (apart s F (a % F + F) w) F) F (below_at (λ (v : ℕ). below (λ w. below (apart s F (v + F) w) F) F) F one (a % F) r) x i) z j in
    let same : y_by s (a % F + F) F x % F ≡ y_by s (a % F + F) F z % F = sym (same_y s t a x lt p) ∙ (e ∙ same_y s t a z lt p) in
    eqb→eq x z (implied (eqb (y_by s (a % F + F) F x % F) (y_by s (a % F + F) F z % F)) (eqb x z) two (eq-eqb _ _ same))

-- The y mod F are all different
pub distinct : (q : ℤ) (t x z : ℕ) → q ≢ pos 0 → t < 4 → x < frames_in t → z < frames_in t → y_of q (frames_in t) x % frames_in t ≡ y_of q (frames_in t) z % frames_in t → x ≡ z
distinct (pos zero) t x z q h i j e = absurd (q refl)
distinct (pos (suc k)) t x z q h i j e =
    let F : ℕ = frames_in t in
    let f : 0 < F = omega arith in
    distinct_by false t (suc k) x z h (omega arith) i j (sym (ap (λ (w : ℕ). w % F) (y_pos (suc k) F x f)) ∙ (e ∙ ap (λ (w : ℕ). w % F) (y_pos (suc k) F z f)))
distinct (negsuc k) t x z q h i j e =
    let F : ℕ = frames_in t in
    let f : 0 < F = omega arith in
    let p : 0 < suc k = omega arith in
    distinct_by true t (suc k) x z h p i j (sym (ap (λ (w : ℕ). w % F) (y_neg (suc k) F x p f)) ∙ (e ∙ ap (λ (w : ℕ). w % F) (y_neg (suc k) F z p f)))

-- so S has, at the column y mod F, the y div F of each x
pub frames_le : (t : ℕ) → t < 4 → frames_in t ≤ most_frames
frames_le zero h = omega arith
frames_le (suc zero) h = omega arith
frames_le (suc (suc zero)) h = omega arith
frames_le (suc (suc (suc zero))) h = omega arith
frames_le (suc (suc (suc (suc t)))) h = absurd (omega arith)

pub filled-length : (q : ℤ) (F k : ℕ) → length (filled q F k) ≡ most_frames
unfolding filled
filled-length q F zero = refl
filled-length q F (suc k) = length-set (filled q F k) (y_of q F k % F) (y_of q F k / F) ∙ filled-length q F k

module _ (q : ℤ) (t : ℕ) (nz : q ≢ pos 0) (h : t < 4) where
  filled_at : (k x : ℕ) → k ≤ frames_in t → x < k → get_or (filled q (frames_in t) k) (y_of q (frames_in t) x % frames_in t) 0 ≡ y_of q (frames_in t) x / frames_in t
  unfolding filled
  filled_at zero x i j = absurd (omega arith)
  filled_at (suc k) x i j = go (filled_at k x (omega arith)) (ℕ_discrete x k)
    where
      go : (x < k → get_or (filled q (frames_in t) k) (y_of q (frames_in t) x % frames_in t) 0 ≡ y_of q (frames_in t) x / frames_in t) → Dec (x ≡ k) → get_or (filled q (frames_in t) (suc k)) (y_of q (frames_in t) x % frames_in t) 0 ≡ y_of q (frames_in t) x / frames_in t
      go r (yes e) =
          let m : y_of q (frames_in t) k % frames_in t < frames_in t = mod-lt (y_of q (frames_in t) k) (omega arith) in
          let l : length (filled q (frames_in t) k) ≡ most_frames = filled-length q (frames_in t) k in
          rw e (get_or-set_same (filled q (frames_in t) k) (y_of q (frames_in t) k % frames_in t) (y_of q (frames_in t) k / frames_in t) 0 (omega (arith, frames_le t h)))
      go r (no e) =
          get_or-set_other (filled q (frames_in t) k) (y_of q (frames_in t) k % frames_in t) (y_of q (frames_in t) x % frames_in t) (y_of q (frames_in t) k / frames_in t) 0
          (λ s. e (distinct q t x k nz h (omega arith) (omega arith) s)) ∙ r (omega arith)

  pub S-at : (x : ℕ) → x < frames_in t → S q (frames_in t) (y_of q (frames_in t) x % frames_in t) ≡ y_of q (frames_in t) x / frames_in t
  unfolding S
  S-at x i = filled_at (frames_in t) x (omega arith) i

-- and every column below F is y mod F for some x
abbrev orb : Bool → Bool → Bool
orb true b = true
orb false b = b

abbrev any_below : ℕ → (ℕ → Bool) → Bool
any_below zero f = false
any_below (suc n) f = orb (f n) (any_below n f)

some_below : (n : ℕ) (f : ℕ → Bool) → T (any_below n f) → (k : ℕ) × (k < n) × T (f k)
some_below zero f t = absurd t
some_below (suc n) f t = go (f n) refl t (some_below n f)
  where
    go : (b : Bool) → f n ≡ b → T (orb b (any_below n f)) → (T (any_below n f) → (k : ℕ) × (k < n) × T (f k)) → (k : ℕ) × (k < suc n) × T (f k)
    go true e u r = (n, omega arith, subst T (sym e) tt)
    go false e u r = let w = r u in (w.0, omega arith, w.2)

abbrev reach : Bool → ℕ → ℕ → ℕ → Bool
reach s F a c = any_below F λ x. eqb (y_by s a F x % F) c

abbrev reaches : Bool → ℕ → Bool
reaches s t =
    let F : ℕ = frames_in (suc t) in
    below (λ r. below (reach s F (r + F)) F) F

reach_test : Bool → Bool
reach_test s = below (reaches s) 3

reached : (s : Bool) → T (reach_test s)
unfolding reach_test added_of gcd euclid below both
reached true = tt
reached false = tt

hit_by : (s : Bool) (t a c : ℕ) → t < 4 → 0 < a → c < frames_in t → (x : ℕ) × (x < frames_in t) × (y_by s a (frames_in t) x % frames_in t ≡ c)
hit_by s zero a c h p i = (0, omega arith, omega arith)
hit_by s (suc t) a c h p i =
    let F : ℕ = frames_in (suc t) in
    let lt : t < 3 = omega arith in
    let one : T (reaches s t) = unfold reach_test in below_at (reaches s) 3 (reached s) t lt in
    let two : T (reach s F (a % F + F) c) = below_at (reach s F (a % F + F)) F (below_at (λ (v : ℕ). below (reach s F (v + F)) F) F one (a % F) (mod-lt a (frames_pos t lt))) c i in
    let w = some_below F (λ (x : ℕ). eqb (y_by s (a % F + F) F x % F) c) two in
    (w.0, w.1, same_y s t a w.0 lt p ∙ eqb→eq (y_by s (a % F + F) F w.0 % F) c w.2)

pub hit : (q : ℤ) (t c : ℕ) → q ≢ pos 0 → t < 4 → c < frames_in t → (x : ℕ) × (x < frames_in t) × (y_of q (frames_in t) x % frames_in t ≡ c)
hit (pos zero) t c q h i = absurd (q refl)
hit (pos (suc k)) t c q h i =
    let F : ℕ = frames_in t in
    let w = hit_by false t (suc k) c h (omega arith) i in
    (w.0, w.1, ap (λ (z : ℕ). z % F) (y_pos (suc k) F w.0 (omega arith)) ∙ w.2)
hit (negsuc k) t c q h i =
    let F : ℕ = frames_in t in
    let w = hit_by true t (suc k) c h (omega arith) i in
    (w.0, w.1, ap (λ (z : ℕ). z % F) (y_neg (suc k) F w.0 (omega arith) (omega arith)) ∙ w.2)
