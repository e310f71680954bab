-- How evenly step 6 drops bits, or adds copies: of L bits from a point on, as many as c rises by, which is L |d| / N rounded down or up.
use mathlib.Core.Path.{◌≡◌, sym, ap, ◌∙◌}
use Prim.Native.Nat.{ℕ, zero, suc, ◌+◌, ◌*◌, ◌-◌, ◌/◌, ◌≤◌, ◌<◌}
use native.Mathlib.Nat.{zero-add, mul-zero, mul_assoc, mul_comm, mul_left_comm, mul-add, add-mul, div-add-mod', mod-lt}
use native.Mathlib.Omega.{arith}
use lib.IntN.{ℤ, pos, negsuc}
use Rattle.laws.specs.Sums.{sum_to, sum_from}
use Rattle.laws.proofs.SumLaws.{sum_same, sum_const, sum_rises}
use Rattle.laws.proofs.RoundLaws.{Within, rounded_whole}
use Rattle.pattern.specs.Pattern.{copies_of, Rates}
use Rattle.pattern.specs.Closed.{count, changed}
use Rattle.pattern.proofs.MatchedLaws.{differs, started, changed-up, copies_added, copies-dropped}

-- c(from + L) less c(from)
count_rises : (N a e from L x : ℕ) → 0 < e → e ≤ 2 * N → count (2 * N) (2 * a) e (from + L) ≡ x + count (2 * N) (2 * a) e from
    → Within x (L * a) N
unfolding count
count_rises N a e from L x po to q =
    let P = 2 * N in
    let D = 2 * a in
    let A = D * from + P - e in
    let B = D * (from + L) + P - e in
    let hp : 0 < P = omega arith in
    let wide : x * P + A / P * P ≡ B / P * P = sym (add-mul x (A / P) P) ∙ ap (λ (k : ℕ). k * P) (sym q) in
    let two : x * P ≡ 2 * (x * N) = mul_left_comm x 2 N in
    let fall : D * (from + L) ≡ D * from + 2 * (L * a) = omega (arith, mul-add D from L, mul_assoc 2 a L, mul_comm a L) in
    record {
      low = omega (arith, wide, two, fall, div-add-mod' A P, div-add-mod' B P, mod-lt A hp, mod-lt B hp);
      high = omega (arith, wide, two, fall, div-add-mod' A P, div-add-mod' B P, mod-lt A hp, mod-lt B hp);
    }

none_within : (x L N : ℕ) → 0 < N → x ≡ L * 0 → Within x (L * 0) N
none_within x L N n e = let z = e ∙ mul-zero L in rw z (record { low = omega (arith, mul-zero L); high = omega (arith, mul-zero L) })

-- 1 for a bit of which no copy is sent; and the copies of a bit beyond copy 0
abbrev pub missed_at : ℤ → ℕ → ℕ → ℕ → ℕ
missed_at d N e m = 1 - copies_of d N e m

abbrev pub beyond_at : ℤ → ℕ → ℕ → ℕ → ℕ
beyond_at d N e m = copies_of d N e m - 1

module _ (N W e from : ℕ) where
  dropped_rise : (a L : ℕ) → Rates (negsuc a) N W e
      → changed (negsuc a) N e (from + L) ≡ sum_from (missed_at (negsuc a) N e) from L + changed (negsuc a) N e from
  dropped_rise a L r =
      sum_rises (missed_at (negsuc a) N e) (changed (negsuc a) N e) from L
      (λ m. omega (arith, copies-dropped a N W e m r, changed-up (negsuc a) N W e m r))

  added_rise : (a L : ℕ) → Rates (pos a) N W e
      → changed (pos a) N e (from + L) ≡ sum_from (beyond_at (pos a) N e) from L + changed (pos a) N e from
  added_rise a L r =
      sum_rises (beyond_at (pos a) N e) (changed (pos a) N e) from L
      (λ m. omega (arith, copies_added a N W e m r, changed-up (pos a) N W e m r))

  -- of the other kind there is none
  none_dropped : (a L : ℕ) → Rates (pos a) N W e → sum_from (missed_at (pos a) N e) from L ≡ L * 0
  none_dropped a L r =
      sum_const (λ k. missed_at (pos a) N e (from + k)) 0 L
      (λ k l. omega (arith, copies_added a N W e (from + k) r, changed-up (pos a) N W e (from + k) r))

  none_added : (a L : ℕ) → Rates (negsuc a) N W e → sum_from (beyond_at (negsuc a) N e) from L ≡ L * 0
  none_added a L r =
      sum_const (λ k. beyond_at (negsuc a) N e (from + k)) 0 L
      (λ k l. omega (arith, copies-dropped a N W e (from + k) r, changed-up (negsuc a) N W e (from + k) r))

  -- the bits dropped, N - W of all N; and the copies added, W - N to all N
  pub dropped-within : (d : ℤ) (L : ℕ) → 0 < N → Rates d N W e → Within (sum_from (missed_at d N e) from L) (L * (N - W)) N
  unfolding changed
  dropped-within (pos a) L n r =
      let z : N - W ≡ 0 = omega (arith, differs (pos a) N W e r) in
      rw z (none_within _ L N n (none_dropped a L r))
  dropped-within (negsuc a) L n r =
      let z : N - W ≡ suc a = omega (arith, differs (negsuc a) N W e r) in
      let s = started (negsuc a) N W e r (omega arith) in
      rw z (count_rises N (suc a) e from L _ s.1 s.2 (dropped_rise a L r))

  pub added_within : (d : ℤ) (L : ℕ) → 0 < N → Rates d N W e → Within (sum_from (beyond_at d N e) from L) (L * (W - N)) N
  unfolding changed
  added_within (pos zero) L n r =
      let z : W - N ≡ 0 = omega (arith, differs (pos zero) N W e r) in
      rw z (none_within _ L N n (omega (arith, mul-zero L, added_rise zero L r)))
  added_within (pos (suc a)) L n r =
      let z : W - N ≡ suc a = omega (arith, differs (pos (suc a)) N W e r) in
      let s = started (pos (suc a)) N W e r (omega arith) in
      rw z (count_rises N (suc a) e from L _ s.1 s.2 (added_rise (suc a) L r))
  added_within (negsuc a) L n r =
      let z : W - N ≡ 0 = omega (arith, differs (negsuc a) N W e r) in
      rw z (none_within _ L N n (none_added a L r))

-- over the whole segment just N - W bits
pub dropped-all : (d : ℤ) (N W e : ℕ) → Rates d N W e → sum_to (missed_at d N e) N ≡ N - W
dropped-all d zero W e r = unfold sum_to in omega arith
dropped-all d (suc n) W e r =
    sum_same (missed_at d (suc n) e) (λ k. missed_at d (suc n) e (0 + k)) (suc n) (λ k l. ap (missed_at d (suc n) e) (sym (zero-add k)))
    ∙ rounded_whole _ (suc n - W) (suc n) (dropped-within (suc n) W e 0 d (suc n) (omega arith) r)
