-- What follows from evenness alone, however copies are counted: how many there are in all and of each bit, and how far dropped bits lie apart.
use mathlib.Core.Path.{◌≡◌, sym, ap, ◌∙◌}
use mathlib.Core.Logic.{◌≢◌}
use mathlib.Core.List.{List}
use Prim.Native.Nat.{ℕ, zero, suc, ◌+◌, ◌*◌, ◌-◌, ◌≤◌, ◌<◌}
use native.Mathlib.Nat.{mul-one, suc-mul, mul-le-mul_right}
use native.Mathlib.Omega.{arith}
use Rattle.laws.specs.Rounded.{Rounded}
use Rattle.laws.proofs.TestLaws.{split}
use Rattle.laws.proofs.RoundLaws.{Within, rounded, within, rounded_alike, rounded_one, rounded_whole}
use Rattle.demands.specs.Words.{asked_n, asked_v, Has, dropped_in}
use Rattle.demands.specs.Thinned.{extra_in, fewer, more, Evenly, NextDropped, Relied}
use Rattle.demands.proofs.CountLaws.{dropped-one, extra-one, dropped-two, dropped-none}

-- c copies of a bit, of which 1 - c is (N - W) / N rounded and c - 1 is (W - N) / N rounded: c is W / N rounded
share_within : (c W N : ℕ) → 0 < N → Within (1 - c) (1 * (N - W)) N → Within (c - 1) (1 * (W - N)) N → Within c W N
share_within zero W N n dropped extra = record { low = omega (arith, dropped.low); high = omega (arith, dropped.low) }
share_within (suc c) W N n dropped extra =
    let z : 1 - suc c ≡ 0 = omega arith in
    let q : suc c - 1 ≡ c = omega arith in
    let kept : 1 * (N - W) < 0 * N + N = rw z at dropped.high in
    let low : c * N < 1 * (W - N) + N = rw q at extra.low in
    let high : 1 * (W - N) < c * N + N = rw q at extra.high in
    record {
      low =
          split N W (λ le. omega (arith, low, suc-mul c N))
          (λ lt.
          split c 0
          (λ none. omega (arith, kept, suc-mul c N, mul-le-mul_right {m = c} {n = 0} N none))
          (λ some. absurd (omega (arith, low, mul-le-mul_right {m = 1} {n = c} N some))));
      high = omega (arith, high, suc-mul c N);
    }

module _ (s : List ℕ) (k : ℕ) (copies : ℕ → ℕ) (n : 0 < asked_n s k) (even : Evenly s k copies) where
  abbrev N : ℕ
  N = asked_n s k

  dropped_in_lem : (a L : ℕ) → 0 < a → a + L ≤ N + 1 → Within (dropped_in copies a L) (L * fewer s k) N
  dropped_in_lem a L h l = within n (even n a L (omega arith) (omega arith)).dropped

  extra_in_lem : (a L : ℕ) → 0 < a → a + L ≤ N + 1 → Within (extra_in copies a L) (L * more s k) N
  extra_in_lem a L h l = within n (even n a L (omega arith) (omega arith)).extra

  -- each bit has V / N copies, rounded
  share : (m : ℕ) → Has s k m → Within (copies m) (asked_v s k) N
  share m h =
      let to : m + 1 ≤ N + 1 = omega (arith, h.to) in
      share_within (copies m) (asked_v s k) N n (rw (sym (dropped-one copies m)) (dropped_in_lem m 1 h.from to))
      (rw (sym (extra-one copies m)) (extra_in_lem m 1 h.from to))

  unaltered : asked_v s k ≡ asked_n s k → (m : ℕ) → Has s k m → copies m ≡ 1
  unaltered e m h = let q : asked_v s k ≡ N * 1 = e ∙ sym (mul-one N) in rounded_whole (copies m) 1 N (rw q at (share m h))

  apart : 2 * fewer s k ≤ asked_n s k → (m : ℕ) → Has s k m → Has s k (suc m) → copies m ≡ 0 → copies (suc m) ≢ 0
  apart few m h l a b =
      let q : m + 1 ≡ suc m = omega arith in
      omega (
        arith,
        dropped-two copies m 1 (omega arith) a (ap copies q ∙ b),
        rounded_one (dropped_in copies m 2) (2 * fewer s k) N few (dropped_in_lem m 2 h.from (omega (arith, l.to))),
      )

  gap : (m g : ℕ) → NextDropped s k copies m g → Rounded g (asked_n s k) (fewer s k)
  gap m zero w = absurd (omega (arith, w.later))
  gap m (suc g) w =
      let to : m + suc g ≤ N = w.other.to in
      let all = dropped_in_lem m (suc (suc g)) w.one.from (omega arith) in
      let inner = dropped_in_lem (suc m) g (omega arith) (omega arith) in
      let two = dropped-two copies m (suc g) (omega arith) w.one-dropped w.other-dropped in
      let none : dropped_in copies (suc m) g ≡ 0 =
      dropped-none copies (suc m) g
      (λ i l. split (copies (suc m + i)) 0 (λ z. absurd (w.between (suc m + i) (omega arith) (omega arith) (omega arith))) (λ p. p)) in
      rounded
      (record {
        low = omega (arith, inner.high, none, suc-mul g (fewer s k), ap (λ (x : ℕ). x * N) none);
        high = omega (arith, all.low, suc-mul (suc g) (fewer s k), mul-le-mul_right {m = 2} {n = dropped_in copies m (suc (suc g))} N two);
      })

  run : (a L : ℕ) → 0 < a → a + L ≤ asked_n s k + 1 → dropped_in copies a L ≡ 0 → L * fewer s k < asked_n s k
  run a L h l none = omega (arith, (dropped_in_lem a L h l).high, ap (λ (x : ℕ). x * N) none)

  pub relied : Relied s k copies
  relied =
      record {
        dropped-all = rounded_whole _ (fewer s k) N (dropped_in_lem 1 N (omega arith) (omega arith));
        extra-all = rounded_whole _ (more s k) N (extra_in_lem 1 N (omega arith) (omega arith));
        unaltered = unaltered;
        apart = apart;
        gap = gap;
        run = run;
        each = λ m h. rounded (share m h);
        alike = λ m j h l. rounded_alike (copies m) (copies j) (asked_v s k) N (share m h) (share j l);
      }
