-- Laws of runs: those of document 004, how many bits the others have by a bit's turn, and full rounds of two PhCHs.
use Rattle.std.proofs.Common.{◌≡◌, ℕ, suc, ◌+◌, ◌-◌, ◌*◌, ◌/◌, ◌%◌, ◌^◌, ◌<◌, ◌≤◌, min, true, false, cond, eqb, List, sym, refl, ap, ◌∙◌, inl, inr, ⊎_elim, mul-le-mul_right, mod-eq_of_lt, mul-le-mul, one-mul, le-div_iff_mul-le, div-mul-le_self, mul-div_cancel, arith, pow_pos, pow_mono, pow-add, le-ltb, lt-ltb, eq-eqb, ne_eqb}
use mathlib.Core.Path.{fun_ext}
use native.Mathlib.Nat.{lt-div-mul-add}
use lib.Pow.{pow-lt}
use Rattle.laws.specs.Sums.{sum_to}
use Rattle.laws.proofs.SumLaws.{sum_same, sum_parts}
use Rattle.laws.proofs.TestLaws.{split}
use Rattle.mapping.specs.Mapping.{after_turns, number_of, first_run, second_run, in_runs, ones}
use Rattle.mapping.specs.Strides.{turns}
use Rattle.mapping.specs.Runs.{had_in, Short, Paired, Coded}
use Rattle.mapping.specs.Pairs.{Rounds}
use Rattle.mapping.proofs.StrideLaws.{turns_past, turns-ahead}

-- runs of 1 are the ones of step 9
pub runs-ones : in_runs 1 1 ≡ ones
unfolding in_runs
runs-ones = fun_ext (λ q. elim (eqb q 0) as (λ x. ◌≡◌ {A = ℕ} (cond x 1 1) 1) [ true ↦ refl | false ↦ refl ])

-- each run is some bits long
pub in_runs-some : {b c : ℕ} → 0 < b → 0 < c → (q : ℕ) → 0 < in_runs b c q
unfolding in_runs
in_runs-some {b} {c} h l q = elim (eqb q 0) as (λ x. 0 < cond x b c) [ true ↦ h | false ↦ l ]

-- document 004's runs: by which factor is the greater
first-less : (sf1 sf2 : ℕ) → sf1 < sf2 → first_run sf1 sf2 ≡ sf2 / sf1
unfolding first_run
first-less sf1 sf2 h = rw (lt-ltb sf1 sf2 h)

first_more : (sf1 sf2 : ℕ) → sf2 ≤ sf1 → first_run sf1 sf2 ≡ 1
unfolding first_run
first_more sf1 sf2 h = rw (le-ltb sf1 sf2 h)

second-less : (sf1 sf2 : ℕ) → sf1 < sf2 → second_run sf1 sf2 ≡ 1
unfolding second_run
second-less sf1 sf2 h = rw (lt-ltb sf1 sf2 h)

second_more : (sf1 sf2 : ℕ) → sf2 ≤ sf1 → second_run sf1 sf2 ≡ sf1 / sf2
unfolding second_run
second_more sf1 sf2 h = rw (le-ltb sf1 sf2 h)

quotient_some : (a b : ℕ) → 0 < b → b ≤ a → 0 < a / b
quotient_some a b h l = (le-div_iff_mul-le h).1 (omega arith)

pub first-run-some : (sf1 sf2 : ℕ) → 0 < sf1 → 0 < sf2 → 0 < first_run sf1 sf2
first-run-some sf1 sf2 h l =
    split sf2 sf1
    (λ m. rw (first_more sf1 sf2 m) (omega arith))
    (λ m. rw (first-less sf1 sf2 m) (quotient_some sf2 sf1 h (omega arith)))

pub second-run-some : (sf1 sf2 : ℕ) → 0 < sf1 → 0 < sf2 → 0 < second_run sf1 sf2
second-run-some sf1 sf2 h l =
    split sf2 sf1
    (λ m. rw (second_more sf1 sf2 m) (quotient_some sf1 sf2 l m))
    (λ m. rw (second-less sf1 sf2 m) (omega arith))

-- the quotient of two powers is a shift
shifted : (i j : ℕ) → i ≤ j → 2 ^ j / 2 ^ i ≡ 2 ^ (j - i)
shifted i j h =
    let e : j ≡ (j - i) + i = omega arith in
    ap (λ (n : ℕ). 2 ^ n / 2 ^ i) e ∙ ap (λ (n : ℕ). n / 2 ^ i) (pow-add 2 (j - i) i) ∙ mul-div_cancel (2 ^ (j - i)) (pow_pos i)

-- the runs by the logarithms i and j of the factors
pub runs_up : (i j : ℕ) → i < j → (first_run (2 ^ i) (2 ^ j) ≡ 2 ^ (j - i)) × (second_run (2 ^ i) (2 ^ j) ≡ 1)
runs_up i j h =
    (first-less (2 ^ i) (2 ^ j) (pow-lt h) ∙ shifted i j (omega arith), second-less (2 ^ i) (2 ^ j) (pow-lt h))

pub runs-down : (i j : ℕ) → j ≤ i → (first_run (2 ^ i) (2 ^ j) ≡ 1) × (second_run (2 ^ i) (2 ^ j) ≡ 2 ^ (i - j))
runs-down i j h =
    (first_more (2 ^ i) (2 ^ j) (pow_mono h), second_more (2 ^ i) (2 ^ j) (pow_mono h) ∙ shifted j i h)

-- a shift of 1 by at most 4
pub shift_is : (n : ℕ) → n ≤ 4 → (1 * 2 ^ n % 18446744073709551616 ≡ 2 ^ n) × (0 < 1 * 2 ^ n % 18446744073709551616) × (1 * 2 ^ n % 18446744073709551616 ≤ 16)
shift_is n h =
    let m = pow_mono h in
    let e : 1 * 2 ^ n % 18446744073709551616 ≡ 2 ^ n = ap (λ (x : ℕ). x % 18446744073709551616) (one-mul (2 ^ n)) ∙ mod-eq_of_lt (omega arith) in
    (e, omega (arith, pow_pos n), omega arith)

-- what the others have: those before it have had a turn more
module _ (U B : ℕ → ℕ) (p t : ℕ) where
  pub had-own : had_in U B p t p ≡ 0
  unfolding had_in
  had-own = rw (eq-eqb p p refl)

  pub had-other : (q : ℕ) → (q ≡ p → ⊥) → had_in U B p t q ≡ min (U q) (turns p t q * B q)
  unfolding had_in
  had-other q h = rw (ne_eqb q p h)

  had_past : (q : ℕ) → q < p → had_in U B p t q ≡ after_turns U B (suc t) q
  had_past q h = had-other q (λ e. omega arith) ∙ ap (λ (n : ℕ). min (U q) (n * B q)) (turns_past p t q h)

  had-ahead : (q : ℕ) → p < q → had_in U B p t q ≡ after_turns U B t q
  had-ahead q h = had-other q (λ e. omega arith) ∙ ap (λ (n : ℕ). min (U q) (n * B q)) (turns-ahead p t q (omega arith))

-- the number of a bit is its own and what the others have
pub had-number : (U B : ℕ → ℕ) (P p x : ℕ) → p < P → number_of U B P p x ≡ x + sum_to (had_in U B p (x / B p)) P
unfolding number_of
had-number U B P p x h =
    let t = x / B p in
    omega (
      arith,
      sum_parts (had_in U B p t) p P h,
      had-own U B p t,
      sum_same (had_in U B p t) (after_turns U B (suc t)) p (λ q l. had_past U B p t q l),
      sum_same (λ i. had_in U B p t (suc p + i)) (λ i. after_turns U B t (suc p + i)) (P - suc p) (λ i l. had-ahead U B p t (suc p + i) (omega arith)),
    )

pub had-fits : (run n : ℕ) → run ≤ 16 → n ≤ 65536 → n * run ≤ 1048576
had-fits run n h l = mul-le-mul l h

-- two runs that add up to 2 are ones
pub one-runs : {b c : ℕ} → Short b c → b + c ≡ 2 → ones ≡ in_runs b c
one-runs {b} {c} s e =
    let x : b ≡ 1 = omega (arith, s.first, s.other) in
    let y : c ≡ 1 = omega (arith, s.first, s.other) in
    rw (x, y) (sym runs-ones)

-- and with others there are at most two PhCHs
pub coded_pair : {caps : List ℕ} {b c n m : ℕ} → Coded caps b c n m → (b + c ≡ 2 → ⊥) → Paired caps b c n m
coded_pair k h = record { slot = k.slot; few = ⊎_elim (λ l. l) (λ e. absurd (h (omega arith))) k.few; runs = k.runs }

-- how many full rounds there are
pub rounds_min : (u b v c : ℕ) → 0 < b → 0 < c → Rounds u b v c (min (u / b) (v / c))
rounds_min u b v c h l = split (u / b) (v / c)
    (λ m. let e : min (u / b) (v / c) ≡ u / b = omega arith in
    rw e (record {
      first = div-mul-le_self u b;
      second = omega (arith, mul-le-mul_right c m, div-mul-le_self v c);
      end = inl (omega (arith, lt-div-mul-add {a = u} h));
    }))
    (λ m. let e : min (u / b) (v / c) ≡ v / c = omega arith in
    let m' : v / c ≤ u / b = omega arith in
    rw e (record {
      first = omega (arith, mul-le-mul_right b m', div-mul-le_self u b);
      second = div-mul-le_self v c;
      end = inr (omega (arith, lt-div-mul-add {a = v} l));
    }))
