-- A segment whose d is given by its sign and its magnitude: its sizes, its start, and the walk that it is.
use mathlib.Core.Path.{◌≡◌, refl, ◌∙◌}
use mathlib.Core.Bool.{Bool, true, false, false≢true}
use mathlib.Core.List.{List, map-id}
use Prim.Native.Nat.{ℕ, zero, suc, ◌+◌, ◌*◌, ◌-◌, ◌≤◌, ◌<◌}
use native.Mathlib.Omega.{arith}
use lib.IntN.{pos, negsuc}
use Rattle.laws.specs.Sums.{sum_to}
use Rattle.matching.specs.Signed.{signed_by}
use Rattle.matching.proofs.SignedLaws.{magnitude}
use Rattle.pattern.specs.Pattern.{walked, copies_from, shared_from, matched, copies_of, shared, as_is, Stands, Segment}
use Rattle.pattern.specs.Closed.{count, changed, sent_before}
use Rattle.pattern.proofs.MatchedLaws.{differs, started, matched-same, sent_all, sent_sum}

-- how many bits come out
pub sized_same : (less : Bool) (m N W e : ℕ) → Segment less m N W e → m ≡ 0 → W ≡ N
sized_same false m N W e s z = omega (arith, differs (pos m) N W e s.rates)
sized_same true zero N W e s z = omega (arith, differs (pos zero) N W e s.rates)
sized_same true (suc a) N W e s z = absurd (omega arith)

pub sized_less : (m N W e : ℕ) → Segment true m N W e → N ≡ W + m
sized_less zero N W e s = omega (arith, differs (pos zero) N W e s.rates)
sized_less (suc a) N W e s = differs (negsuc a) N W e s.rates

-- the start
pub begins : (less : Bool) (m N W e : ℕ) → Segment less m N W e → 0 < m → (0 < N) × (0 < e) × (e ≤ 2 * N)
begins less m N W e s h = started (signed_by less m) N W e s.rates (omega (arith, magnitude less m))

pub stands : (less : Bool) (m N W e : ℕ) → Segment less m N W e → 0 < m → Stands less (2 * N) (2 * m) e
stands less m N W e s h = let b = begins less m N W e s h in record { above = b.1; top = b.2; most = few less s }
  where
    few : (less : Bool) → Segment less m N W e → less ≡ true → 2 * m ≤ 2 * N
    few false s q = absurd (false≢true q)
    few true s q = omega (arith, sized_less m N W e s)

-- the copies of all bits are the bits that come out
pub sized_copies : (less : Bool) (m N W e : ℕ) → Segment less m N W e → (less ≡ true → 0 < m) → sum_to (copies_from less (2 * N) (2 * m) e) N ≡ W
unfolding copies_of
sized_copies false m N W e s h = sent_sum (pos m) N W e N s.rates ∙ sent_all (pos m) N W e s.rates
sized_copies true zero N W e s h = absurd (omega (arith, h refl))
sized_copies true (suc a) N W e s h = sent_sum (negsuc a) N W e N s.rates ∙ sent_all (negsuc a) N W e s.rates

-- the walk itself
pub matched_by : {A B : Type 0} (f : A → ℕ → B) (less : Bool) (m N e : ℕ) (xs : List A) → 0 < m
    → matched f (signed_by less m) N e xs ≡ walked f less (2 * N) (2 * m) e xs
unfolding matched
matched_by f false m N e xs h = refl
matched_by f true zero N e xs h = absurd (omega arith)
matched_by f true (suc a) N e xs h = refl

pub shared_by : {A : Type 0} (less : Bool) (m N e : ℕ) (vs : List A) → (less ≡ true → 0 < m)
    → shared (signed_by less m) N e vs ≡ shared_from less (2 * N) (2 * m) e N vs
unfolding shared
shared_by false m N e vs h = refl
shared_by true zero N e vs h = absurd (omega (arith, h refl))
shared_by true (suc a) N e vs h = refl

-- how many are sent of the first j bits: d = 0, d < 0, d > 0
pub sent_same : (less : Bool) (m N e j : ℕ) → m ≡ 0 → sent_before (signed_by less m) N e j ≡ j
unfolding sent_before changed
sent_same false zero N e j z = omega arith
sent_same true zero N e j z = omega arith
sent_same less (suc a) N e j z = absurd (omega arith)

pub sent_less : (m N e j : ℕ) → 0 < m → sent_before (signed_by true m) N e j ≡ j - count (2 * N) (2 * m) e j
unfolding sent_before changed
sent_less zero N e j h = absurd (omega arith)
sent_less (suc a) N e j h = refl

pub sent_added : (m N e j : ℕ) → 0 < m → sent_before (signed_by false m) N e j ≡ j + count (2 * N) (2 * m) e j
unfolding sent_before changed
sent_added zero N e j h = absurd (omega arith)
sent_added (suc a) N e j h = refl

-- d = 0: the bits as they are
pub matched-none : {A : Type 0} (less : Bool) (m N e : ℕ) (xs : List A) → m ≡ 0 → matched as_is (signed_by less m) N e xs ≡ xs
matched-none false zero N e xs z = matched-same as_is N e xs ∙ map-id xs
matched-none true zero N e xs z = matched-same as_is N e xs ∙ map-id xs
matched-none less (suc a) N e xs z = absurd (omega arith)
