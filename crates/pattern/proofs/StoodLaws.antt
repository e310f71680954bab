-- What stands at an index of the bits sent, with d by its sign and its magnitude: the numbers that the code works out.
use mathlib.Core.Path.{◌≡◌, sym, ap, ◌∙◌, subst}
use mathlib.Core.Bool.{Bool, true, false}
use Prim.Native.Nat.{ℕ, zero, suc, ◌+◌, ◌*◌, ◌-◌, ◌/◌, ◌≤◌, ◌<◌}
use native.Mathlib.Nat.{mul-le-mul}
use native.Mathlib.Omega.{arith}
use lib.IntN.{ℤ, pos, negsuc, nat_abs}
use Rattle.matching.specs.Signed.{signed_by}
use Rattle.pattern.specs.Pattern.{Rates, Segment}
use Rattle.pattern.specs.Closed.{count, changed, sent_before, source_of, copy_of, Stood}
use Rattle.pattern.proofs.MatchedLaws.{differs, started, changed-up}
use Rattle.pattern.proofs.SourceLaws.{source_passes, source_same, closed-dropped, closed_added}
use Rattle.pattern.proofs.SegmentLaws.{sized_less, begins}

-- d = 0
stood_zero : (N W e v : ℕ) → Rates (pos zero) N W e → v < W → Stood (pos zero) N e v v 0
unfolding copy_of sent_before changed
stood_zero N W e v r h =
    let q = source_same N W e v r h in
    record { bit = sym q; copy = omega (arith, q); within = omega (arith, differs (pos zero) N W e r) }

pub stood_same : (less : Bool) (m N W e v : ℕ) → Segment less m N W e → m ≡ 0 → v < W → Stood (signed_by less m) N e v v 0
stood_same false zero N W e v s z h = stood_zero N W e v s.rates h
stood_same true zero N W e v s z h = stood_zero N W e v s.rates h
stood_same less (suc a) N W e v s z h = absurd (omega arith)

-- puncturing
copy-none : (a N W e v : ℕ) → Rates (negsuc a) N W e → v < W → copy_of (negsuc a) N e v ≡ 0
unfolding copy_of sent_before
copy-none a N W e v r h =
    let p = source_passes (negsuc a) N W e v r h in
    omega (arith, p.high, changed-up (negsuc a) N W e (source_of (negsuc a) N e v) r)

pub stood_dropped : (m N W e v : ℕ) → Segment true m N W e → 0 < m → v < W → Stood (signed_by true m) N e v ((2 * N * v + 2 * N - e) / (2 * W)) 0
stood_dropped zero N W e v s k h = absurd (omega arith)
stood_dropped (suc a) N W e v s k h =
    let r = s.rates in
    let q = closed-dropped a N W e v r h in
    record { bit = sym q; copy = sym (copy-none a N W e v r h); within = omega (arith, q, (source_passes (negsuc a) N W e v r h).below) }

-- repetition
pub stood_added : (m N W e v : ℕ) {b : ℕ} → Segment false m N W e → 0 < m → v < W → b ≡ (2 * N * v + e - 1) / (2 * W)
    → Stood (signed_by false m) N e v b (v - (b + (2 * m * b + 2 * N - e) / (2 * N)))
unfolding copy_of sent_before changed count
stood_added zero N W e v s k h q = absurd (omega arith)
stood_added (suc a) N W e v s k h q =
    let r = s.rates in
    let p = q ∙ sym (closed_added a N W e v r h) in
    record {
      bit = p;
      copy = ap (λ (x : ℕ). v - (x + (2 * suc a * x + 2 * N - e) / (2 * N))) p;
      within = omega (arith, p, (source_passes (pos (suc a)) N W e v r h).below);
    }

-- the copies of bits before it are sent before v
pub added_before : (m N W e v : ℕ) {b : ℕ} → Segment false m N W e → 0 < m → v < W → b ≡ (2 * N * v + e - 1) / (2 * W)
    → b + (2 * m * b + 2 * N - e) / (2 * N) ≤ v
unfolding sent_before changed count
added_before zero N W e v s k h q = absurd (omega arith)
added_before (suc a) N W e v s k h q =
    let r = s.rates in
    rw (q ∙ sym (closed_added a N W e v r h)) (source_passes (pos (suc a)) N W e v r h).low

-- where d = 0 no start counts
pub stood_start : (d : ℤ) (N W e s v m j : ℕ) → Rates d N W e → Rates d N W s → v < W → (0 < N → 0 < nat_abs d → e ≡ s) → Stood d N e v m j → Stood d N s v m j
unfolding copy_of sent_before changed
stood_start (pos zero) N W e s v m j r t h k o =
    let a = source_same N W e v r h in
    let b = source_same N W s v t h in
    record { bit = o.bit ∙ a ∙ sym b; copy = omega (arith, o.copy, a, b); within = o.within }
stood_start (pos (suc a)) N W e s v m j r t h k o =
    let n = (started (pos (suc a)) N W e r (omega arith)).0 in
    subst (λ (x : ℕ). Stood (pos (suc a)) N x v m j) (k n (omega arith)) o
stood_start (negsuc a) N W e s v m j r t h k o =
    let n = (started (negsuc a) N W e r (omega arith)).0 in
    subst (λ (x : ℕ). Stood (negsuc a) N x v m j) (k n (omega arith)) o

-- what keeps each number in 64 bits, none below 0, and no divisor 0
pub record Fitting (N W e v : ℕ) : Type 0 where
  pub some : 0 < N
  pub above : 0 < e
  pub top : e ≤ 2 * N
  pub few : N ≤ 16383
  pub most : W ≤ 76383
  pub product : 2 * N * v ≤ 2502765378

pub fitting : (less : Bool) (m N W e v : ℕ) → Segment less m N W e → 0 < m → v < W → Fitting N W e v
fitting less m N W e v s k h =
    let b = begins less m N W e s k in
    let w : W ≤ 76383 = omega (arith, s.few, s.most, longest less s) in
    record {
      some = b.0;
      above = b.1;
      top = b.2;
      few = s.few;
      most = w;
      product = mul-le-mul {n₁ = 2 * N} {m₁ = v} {n₂ = 32766} {m₂ = 76383} (omega (arith, s.few)) (omega arith);
    }
  where
    longest : (less : Bool) → Segment less m N W e → W ≤ N + m
    longest false s = omega (arith, differs (pos m) N W e s.rates)
    longest true s = omega (arith, sized_less m N W e s)

pub added_most : (m N W e b : ℕ) → Segment false m N W e → b < N → 2 * m * b ≤ 1965960000
added_most m N W e b s h =
    mul-le-mul {n₁ = 2 * m} {m₁ = b} {n₂ = 120000} {m₂ = 16383} (omega (arith, s.most)) (omega (arith, s.few))
