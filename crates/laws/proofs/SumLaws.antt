-- Laws of sums and of "one of them holds".
use mathlib.Core.Path.{◌≡◌, refl, sym, ap, ap₂, ◌∙◌}
use mathlib.Core.Logic.{⊎_elim}
use mathlib.Core.Bool.{Bool, true, false, true≢false, false≢true, ◌||◌, or-true}
use Prim.Native.Nat.{ℕ, zero, suc, ◌+◌, ◌-◌, ◌*◌, ◌≤◌, ◌<◌}
use native.Mathlib.Nat.{zero-mul, suc-mul, add-zero, add-suc, mul-add, mul-one}
use native.Mathlib.Numerals.{add-one}
use native.Mathlib.Omega.{arith}
use native.Mathlib.Decide.{dec_lt, ℕ_discrete}
use lib.Arith.{lt_of_le-ne}
use Rattle.laws.specs.Sums.{sum_to, sum_from, any_to}
use Rattle.laws.proofs.TestLaws.{or_sides}

pub sum_more : (f : ℕ → ℕ) (i : ℕ) {a b : ℕ} → a ≡ sum_to f i → b ≡ f i → a + b ≡ sum_to f (i + 1)
unfolding sum_to
sum_more f i p q = ap₂ ◌+◌ p q ∙ ap (sum_to f) (sym (add-one i))

-- a loop that adds up f 0, .. f (n - 1), each at most b
pub record Summed (f : ℕ → ℕ) (b n sum i : ℕ) : Type 0 where
  pub few : i ≤ n
  pub is : sum ≡ sum_to f i
  pub most : sum ≤ b * i

pub summed_none : (f : ℕ → ℕ) (b n : ℕ) → Summed f b n 0 0
unfolding sum_to
summed_none f b n = record { few = omega arith; is = refl; most = omega arith }

module _ {f : ℕ → ℕ} {b n sum i : ℕ} (s : Summed f b n sum i) where
  pub summed_more : i < n → {x : ℕ} → x ≡ f i → x ≤ b → Summed f b n (sum + x) (i + 1)
  summed_more l e h = record { few = omega arith; is = sum_more f i s.is e; most = omega (arith, s.most, mul-add b i 1, mul-one b) }

  pub summed_all : n ≤ i → sum ≡ sum_to f n
  summed_all l = let e : i ≡ n = omega (arith, s.few) in s.is ∙ ap (sum_to f) e

-- the first term taken out
pub sum_shift : (f : ℕ → ℕ) (n : ℕ) → sum_to f (suc n) ≡ f 0 + sum_to (λ i. f (suc i)) n
unfolding sum_to
sum_shift f zero = omega arith
sum_shift f (suc n) = omega (arith, sum_shift f n)

pub sum_same : (f g : ℕ → ℕ) (n : ℕ) → ((i : ℕ) → i < n → f i ≡ g i) → sum_to f n ≡ sum_to g n
unfolding sum_to
sum_same f g zero h = refl
sum_same f g (suc n) h = ap₂ ◌+◌ (sum_same f g n (λ i l. h i (omega arith))) (h n (omega arith))

pub sum-most : (f : ℕ → ℕ) (b n : ℕ) → ((i : ℕ) → i < n → f i ≤ b) → sum_to f n ≤ n * b
unfolding sum_to
sum-most f b zero h = omega arith
sum-most f b (suc n) h = omega (arith, sum-most f b n (λ i l. h i (omega arith)), h n (omega arith), suc-mul n b)

-- equal terms
pub sum_const : (f : ℕ → ℕ) (b n : ℕ) → ((i : ℕ) → i < n → f i ≡ b) → sum_to f n ≡ n * b
unfolding sum_to
sum_const f b zero h = sym (zero-mul b)
sum_const f b (suc n) h = omega (arith, sum_const f b n (λ i l. h i (omega arith)), h n (omega arith), suc-mul n b)

pub sum_zeros : (n : ℕ) → sum_to (λ i. 0) n ≡ 0
unfolding sum_to
sum_zeros zero = refl
sum_zeros (suc n) = omega (arith, sum_zeros n)

-- as many as there are, where each is 1
pub sum_ones : (f : ℕ → ℕ) (n : ℕ) → ((i : ℕ) → i < n → f i ≡ 1) → sum_to f n ≡ n
unfolding sum_to
sum_ones f zero h = refl
sum_ones f (suc n) h = omega (arith, sum_ones f n (λ i l. h i (omega arith)), h n (omega arith))

-- term by term: added, no larger, and where such a sum is smaller or the same
pub sum_plus : (f g h : ℕ → ℕ) (n : ℕ) → ((i : ℕ) → i < n → f i ≡ g i + h i) → sum_to f n ≡ sum_to g n + sum_to h n
unfolding sum_to
sum_plus f g h zero e = refl
sum_plus f g h (suc n) e = omega (arith, sum_plus f g h n (λ i l. e i (omega arith)), e n (omega arith))

pub sum-le : (f g : ℕ → ℕ) (n : ℕ) → ((i : ℕ) → i < n → f i ≤ g i) → sum_to f n ≤ sum_to g n
unfolding sum_to
sum-le f g zero h = omega arith
sum-le f g (suc n) h = omega (arith, sum-le f g n (λ i l. h i (omega arith)), h n (omega arith))

pub sum_less : (f g : ℕ → ℕ) (n : ℕ) → sum_to f n < sum_to g n → (i : ℕ) × (i < n) × (f i < g i)
unfolding sum_to
sum_less f g zero h = absurd (omega arith)
sum_less f g (suc n) h =
    elim (dec_lt (f n) (g n)) [ yes l ↦ (n, omega arith, l) | no m ↦ let t = sum_less f g n (omega arith) in (t.0, omega arith, t.2) ]

pub sum_tight : (f g : ℕ → ℕ) (n : ℕ) → ((i : ℕ) → i < n → f i ≤ g i) → sum_to f n ≡ sum_to g n → (i : ℕ) → i < n → f i ≡ g i
unfolding sum_to
sum_tight f g zero h e i l = absurd (omega arith)
sum_tight f g (suc n) h e i l =
    let a = h n (omega arith) in
    let b = sum-le f g n (λ k m. h k (omega arith)) in
    elim (dec_lt i n) [
      | yes m ↦ sum_tight f g n (λ k m. h k (omega arith)) (omega arith) i m
      | no m ↦ let q : i ≡ n = omega arith in rw q (omega arith)
    ]

-- what rises by f at each step has risen by the sum of f
pub sum_rises : (f g : ℕ → ℕ) (from n : ℕ) → ((m : ℕ) → g (suc m) ≡ f m + g m) → g (from + n) ≡ sum_from f from n + g from
unfolding sum_to
sum_rises f g from zero h = rw (add-zero from) (omega arith)
sum_rises f g from (suc n) h = rw (add-suc from n) (omega (arith, h (from + n), sum_rises f g from n h))

-- a sum in two parts, and in three: before p, at p, past p
pub sum_join : (f : ℕ → ℕ) (m n : ℕ) → sum_to f (m + n) ≡ sum_to f m + sum_from f m n
unfolding sum_to
sum_join f m n = omega (arith, sum_rises f (sum_to f) m n (λ k. omega arith))

pub sum_parts : (f : ℕ → ℕ) (p n : ℕ) → p < n → sum_to f n ≡ sum_to f p + f p + sum_from f (suc p) (n - suc p)
unfolding sum_to
sum_parts f p n h = let e : n ≡ suc p + (n - suc p) = omega arith in ap (sum_to f) e ∙ sum_join f (suc p) (n - suc p)

-- what stands before p and at p is a part of the whole
pub sum-within : (f : ℕ → ℕ) (p n : ℕ) → p < n → sum_to f p + f p ≤ sum_to f n
sum-within f p n h = omega (arith, sum_parts f p n h)

-- parts of the sizes f, one after the other, have no position in common
pub parts_apart : (f : ℕ → ℕ) (s t a b : ℕ) → a < f s → b < f t → sum_to f s + a ≡ sum_to f t + b → (s ≡ t) × (a ≡ b)
parts_apart f s t a b h k e =
    let w = by (dec_lt s t) (dec_lt t s) in
    let q : sum_to f s ≡ sum_to f t = ap (sum_to f) w in
    (w, omega arith)
  where
    by : Dec (s < t) → Dec (t < s) → s ≡ t
    by (yes l) d = absurd (omega (arith, sum-within f s t l))
    by (no m) (yes l) = absurd (omega (arith, sum-within f t s l))
    by (no m) (no l) = omega arith

pub any_more : (f : ℕ → Bool) (i : ℕ) → any_to f i ≡ false → f i ≡ false → any_to f (i + 1) ≡ false
unfolding any_to
any_more f i p q = ap (any_to f) (add-one i) ∙ ap₂ ◌||◌ p q

pub any_same : (f g : ℕ → Bool) (n : ℕ) → ((i : ℕ) → i < n → f i ≡ g i) → any_to f n ≡ any_to g n
unfolding any_to
any_same f g zero h = refl
any_same f g (suc n) h = ap₂ ◌||◌ (any_same f g n (λ i l. h i (omega arith))) (h n (omega arith))

any_hit_last : (f : ℕ → Bool) (n i : ℕ) → f i ≡ true → (i < n → any_to f n ≡ true) → Dec (i ≡ n) → i < suc n → (any_to f n || f n) ≡ true
any_hit_last f n i h before (yes e) l = ap (λ (b : Bool). any_to f n || b) (ap f (sym e) ∙ h) ∙ or-true (any_to f n)
any_hit_last f n i h before (no e) l = ap (λ (b : Bool). b || f n) (before (lt_of_le-ne (omega arith) e))

pub any_hit : (f : ℕ → Bool) (n i : ℕ) → i < n → f i ≡ true → any_to f n ≡ true
unfolding any_to
any_hit f zero i l h = absurd (omega arith)
any_hit f (suc n) i l h = any_hit_last f n i h (λ b. any_hit f n i b h) (ℕ_discrete i n) l

pub any_none : (f : ℕ → Bool) (n : ℕ) → ((i : ℕ) → i < n → f i ≡ false) → any_to f n ≡ false
unfolding any_to
any_none f zero h = refl
any_none f (suc n) h = ap₂ ◌||◌ (any_none f n (λ i l. h i (omega arith))) (h n (omega arith))

-- where none holds, each is false
pub any_each : (f : ℕ → Bool) (n i : ℕ) → any_to f n ≡ false → i < n → f i ≡ false
any_each f n i h l = side (f i) refl
  where
    side : (b : Bool) → f i ≡ b → f i ≡ false
    side false e = e
    side true e = absurd (true≢false (sym (any_hit f n i l e) ∙ h))

-- where one holds, which
pub any_in : (f : ℕ → Bool) (n : ℕ) → any_to f n ≡ true → (i : ℕ) × (i < n) × (f i ≡ true)
unfolding any_to
any_in f zero h = absurd (false≢true h)
any_in f (suc n) h =
    ⊎_elim (λ e. let a = any_in f n e in (a.0, omega (arith, a.1), a.2)) (λ e. (n, omega arith, e)) (or_sides (any_to f n) (f n) h)
