-- Which copy of which bit stands at an index of the matched segment: the least bit that passes it, with no search too.
use mathlib.Core.Path.{◌≡◌, sym, ap, ◌∙◌}
use mathlib.Core.List.{List}
use Prim.Native.Nat.{ℕ, zero, suc, ◌+◌, ◌*◌, ◌-◌, ◌/◌, ◌%◌, ◌≤◌, ◌<◌}
use native.Mathlib.Nat.{add-mul, mul-add, mul-suc, suc-mul, mul_comm, mul_assoc, mul-le-mul_left, mul-le-mul_right, le-div_iff_mul-le, div-lt_iff_lt-mul, div-add-mod', mod-lt}
use native.Mathlib.Omega.{arith}
use lib.IntN.{ℤ, pos, negsuc}
use lib.ListN.{length, get_or}
use Rattle.laws.specs.Least.{Passes}
use Rattle.laws.proofs.TestLaws.{split}
use Rattle.laws.proofs.LeastLaws.{first_passes, rises, passes_one}
use Rattle.pattern.specs.Pattern.{matched, copies_of, Rates}
use Rattle.pattern.specs.Closed.{count, changed, sent_before, source_of, copy_of}
use Rattle.pattern.proofs.MatchedLaws.{differs, started, sent_none, sent_all, sent_more, matched-copy}

pub sent_up : (d : ℤ) (N W e m : ℕ) → Rates d N W e → sent_before d N e m ≤ sent_before d N e (suc m)
sent_up d N W e m r = omega (arith, sent_more d N W e m r)

-- every index below V is passed, and by one bit alone
pub source_passes : (d : ℤ) (N W e v : ℕ) → Rates d N W e → v < W → Passes (sent_before d N e) v 0 N (source_of d N e v)
unfolding source_of
source_passes d N W e v r h =
    first_passes (sent_before d N e) v N (omega (arith, sent_none d N W e r)) (omega (arith, sent_all d N W e r))

pub source_one : (d : ℤ) (N W e v m : ℕ) → Rates d N W e → m < N → sent_before d N e m ≤ v → v < sent_before d N e (suc m)
    → source_of d N e v ≡ m
source_one d N W e v m r h lo hi =
    let up : (k : ℕ) → k < N → sent_before d N e k ≤ sent_before d N e (suc k) = λ k l. sent_up d N W e k r in
    let w : v < W = omega (arith, rises (sent_before d N e) N up (suc m) N h (omega arith), sent_all d N W e r) in
    passes_one (sent_before d N e) v N (source_of d N e v) m up (source_passes d N W e v r w) h lo hi

-- what stands at v is a copy that is sent
pub source_kept : (d : ℤ) (N W e v : ℕ) → Rates d N W e → v < W → copy_of d N e v < copies_of d N e (source_of d N e v)
unfolding copy_of
source_kept d N W e v r h =
    let p = source_passes d N W e v r h in
    omega (arith, p.low, p.high, sent_more d N W e (source_of d N e v) r)

-- and a copy that is sent stands at one index
pub record Kept (d : ℤ) (N W e m j : ℕ) : Type 0 where
  pub within : sent_before d N e m + j < W
  pub source : source_of d N e (sent_before d N e m + j) ≡ m
  pub copy : copy_of d N e (sent_before d N e m + j) ≡ j

pub kept : (d : ℤ) (N W e m j : ℕ) → Rates d N W e → m < N → j < copies_of d N e m → Kept d N W e m j
unfolding copy_of
kept d N W e m j r h k =
    let up : (i : ℕ) → i < N → sent_before d N e i ≤ sent_before d N e (suc i) = λ i l. sent_up d N W e i r in
    let s = sent_more d N W e m r in
    let q : source_of d N e (sent_before d N e m + j) ≡ m = source_one d N W e (sent_before d N e m + j) m r h (omega arith) (omega arith) in
    record {
      within = omega (arith, rises (sent_before d N e) N up (suc m) N h (omega arith), sent_all d N W e r);
      source = q;
      copy = rw q (omega arith);
    }

-- the index of copy 0 and the copy's number make v
source_index : (d : ℤ) (N W e v : ℕ) → Rates d N W e → v < W → sent_before d N e (source_of d N e v) + copy_of d N e v ≡ v
unfolding copy_of
source_index d N W e v r h = let p = source_passes d N W e v r h in omega (arith, p.low)

-- index v holds copy j of bit m, m being the least bit that passes v
pub matched-at : {A B : Type 0} (f : A → ℕ → B) (d : ℤ) (W e v : ℕ) (xs : List A) (b : B) (z : A) → Rates d (length xs) W e → v < W
    → get_or (matched f d (length xs) e xs) v b ≡ f (get_or xs (source_of d (length xs) e v) z) (copy_of d (length xs) e v)
matched-at f d W e v xs b z r h =
    let m = source_of d (length xs) e v in
    let p = source_passes d (length xs) W e v r h in
    ap (λ (n : ℕ). get_or (matched f d (length xs) e xs) n b) (sym (source_index d (length xs) W e v r h))
    ∙ matched-copy f d W e m (copy_of d (length xs) e v) xs b z r p.below (source_kept d (length xs) W e v r h)

-- ---- with no search

-- a product below another, with one factor the same
factor_less : (x y k : ℕ) → x * k < y * k → x < y
factor_less x y k h = split y x (λ le. absurd (omega (arith, mul-le-mul_right k le))) (λ lt. lt)

count-below : (P D e m k : ℕ) → 0 < P → D * m + P - e < k * P → count P D e m < k
unfolding count
count-below P D e m k h l = (div-lt_iff_lt-mul h).1 l

count-above : (P D e m k : ℕ) → 0 < P → k * P ≤ D * m + P - e → k ≤ count P D e m
unfolding count
count-above P D e m k h l = (le-div_iff_mul-le h).1 l

-- 2N v + r is below N times 2V
inside : (N W v r : ℕ) → v < W → r < 2 * N → 2 * N * v + r < N * (2 * W)
inside N W v r h l =
    let P = 2 * N in
    omega (arith, mul-le-mul_left {m = suc v} {n = W} P h, mul-suc P v, mul_assoc 2 N W, mul_comm N (2 * W), mul_assoc 2 W N, mul_comm W N)

pub source_same : (N W e v : ℕ) → Rates (pos zero) N W e → v < W → source_of (pos zero) N e v ≡ v
unfolding sent_before changed
source_same N W e v r h =
    let d : W ≡ N + 0 = differs (pos zero) N W e r in
    source_one (pos zero) N W e v v r (omega arith) (omega arith) (omega arith)

-- puncturing: P = 2N, D = 2|d|, B = 2V, and m is the quotient
module _ (P D B e v : ℕ) (sizes : P ≡ B + D) (start : 0 < e) (top : e ≤ P) (some : 0 < B) where
  X : ℕ
  X = P * v + (P - e)

  quotient : ℕ
  quotient = X / B

  parts : (quotient * B + X % B ≡ P * v + (P - e)) × (X % B < B)
  unfolding X quotient
  parts = (div-add-mod' (P * v + (P - e)) B, mod-lt (P * v + (P - e)) some)

  from : v ≤ quotient
  from =
      let p = parts in
      let w : v * B ≤ P * v = rw (mul_comm v B) (mul-le-mul_right v (omega arith)) in
      let z : v * B < suc quotient * B = omega (arith, suc-mul quotient B, p.0, p.1) in
      omega (arith, factor_less v (suc quotient) B z)

  -- D m + P - e = (m - v) P + what is left
  left : D * quotient + P - e ≡ (quotient - v) * P + X % B
  left =
      let p = parts in
      let k = quotient - v in
      let m : quotient ≡ v + k = omega (arith, from) in
      let a : P * quotient ≡ quotient * B + D * quotient =
      ap (λ (n : ℕ). n * quotient) sizes ∙ add-mul B D quotient ∙ ap (λ (n : ℕ). n + D * quotient) (mul_comm B quotient) in
      let b : P * quotient ≡ P * v + k * P = ap (λ (n : ℕ). P * n) m ∙ mul-add P v k ∙ ap (λ (n : ℕ). P * v + n) (mul_comm P k) in
      omega (arith, p.0, p.1)

  here : quotient - v ≤ count P D e quotient
  here = let p = parts in count-above P D e quotient (quotient - v) (omega arith) (omega (arith, left))

  next : count P D e (suc quotient) < suc (quotient - v)
  next =
      let p = parts in
      count-below P D e (suc quotient) (suc (quotient - v)) (omega arith)
      (omega (arith, left, p.1, mul-suc D quotient, suc-mul (quotient - v) P))

pub closed-dropped : (a N W e v : ℕ) → Rates (negsuc a) N W e → v < W
    → source_of (negsuc a) N e v ≡ (2 * N * v + 2 * N - e) / (2 * W)
unfolding X quotient sent_before changed
closed-dropped a N W e v r h =
    let d : N ≡ W + suc a = differs (negsuc a) N W e r in
    let s = started (negsuc a) N W e r (omega arith) in
    let q : 2 * N ≡ 2 * W + 2 * suc a = omega arith in
    let m = quotient (2 * N) (2 * suc a) (2 * W) e v q s.1 s.2 (omega arith) in
    let l : m < N = (div-lt_iff_lt-mul {k = 2 * W} (omega arith)).1 (inside N W v (2 * N - e) h (omega (arith, s.1, s.2))) in
    source_one (negsuc a) N W e v m r l
    (omega (
      arith,
      from (2 * N) (2 * suc a) (2 * W) e v q s.1 s.2 (omega arith),
      here (2 * N) (2 * suc a) (2 * W) e v q s.1 s.2 (omega arith),
    ))
    (omega (
      arith,
      from (2 * N) (2 * suc a) (2 * W) e v q s.1 s.2 (omega arith),
      next (2 * N) (2 * suc a) (2 * W) e v q s.1 s.2 (omega arith),
    ))
    ∙ ap (λ (n : ℕ). n / (2 * W)) (omega (arith, s.2))

-- repetition
pub closed_added : (a N W e v : ℕ) → Rates (pos (suc a)) N W e → v < W
    → source_of (pos (suc a)) N e v ≡ (2 * N * v + e - 1) / (2 * W)
unfolding sent_before changed
closed_added a N W e v r h =
    let d : W ≡ N + suc a = differs (pos (suc a)) N W e r in
    let s = started (pos (suc a)) N W e r (omega arith) in
    let P = 2 * N in
    let D = 2 * suc a in
    let B = 2 * W in
    let q : B ≡ P + D = omega arith in
    let X = P * v + (e - 1) in
    let m = X / B in
    let parts : m * B + X % B ≡ X = div-add-mod' X B in
    let less : X % B < B = mod-lt X (omega arith) in
    let mB : m * B ≡ P * m + D * m = mul_comm m B ∙ ap (λ (n : ℕ). n * m) q ∙ add-mul P D m in
    let w : P * suc v ≤ suc v * B = rw (mul_comm (suc v) B) (mul-le-mul_right (suc v) (omega arith)) in
    let z : m * B < suc v * B = omega (arith, s.1, s.2, mul-suc P v) in
    let le : m ≤ v = omega (arith, factor_less m (suc v) B z) in
    let k = v - m in
    let vk : P * v ≡ P * m + k * P = ap (λ (n : ℕ). P * n) (omega arith) ∙ mul-add P m k ∙ ap (λ (n : ℕ). P * m + n) (mul_comm P k) in
    let low : count P D e m < suc k = count-below P D e m (suc k) (omega (arith, s.0)) (omega (arith, s.1, s.2, suc-mul k P)) in
    let high : k ≤ count P D e (suc m) = count-above P D e (suc m) k (omega (arith, s.0)) (omega (arith, s.1, s.2, mul-suc D m)) in
    let l : m < N = (div-lt_iff_lt-mul {k = B} (omega arith)).1 (inside N W v (e - 1) h (omega (arith, s.1, s.2))) in
    source_one (pos (suc a)) N W e v m r l (omega arith) (omega arith) ∙ ap (λ (n : ℕ). n / B) (omega (arith, s.1))
