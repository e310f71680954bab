-- Laws of step 6's way back: how long it is, what each position gets, and the segment as it was sent.
use mathlib.Core.Path.{◌≡◌, refl, sym, ap, ◌∙◌}
use mathlib.Core.Bool.{Bool, true, false}
use mathlib.Core.List.{List, [], ◌∷◌, map}
use Prim.Native.Nat.{ℕ, zero, suc, ◌+◌, ◌*◌, ◌-◌, ◌≤◌, ◌<◌}
use native.Mathlib.Numerals.{add-one}
use native.Mathlib.Omega.{arith}
use lib.IntN.{ℤ}
use lib.ListN.{length, get_or, take, drop, length-map}
use lib.Ieee.{Float}
use Rattle.laws.specs.Tables.{table}
use Rattle.laws.proofs.LeastLaws.{rises}
use Rattle.laws.proofs.PartLaws.{map_at}
use Rattle.matching.specs.Signed.{signed_by}
use Rattle.pattern.specs.Pattern.{again, grown, after, shared_from, shared, matched, copies_of, Rates}
use Rattle.pattern.specs.Closed.{sent_before}
use Rattle.pattern.proofs.MatchedLaws.{sent_all, sent_more, length-shared, shared_at, shared-matched}
use Rattle.pattern.proofs.SourceLaws.{sent_up}
use Rattle.pattern.proofs.SegmentLaws.{shared_by}
use Rattle.joining.specs.declared.Heard.{Heard}
use Rattle.joining.specs.declared.Heard.TheVariants.{Nothing, Once}
use Rattle.joining.specs.Joining.{raw_of, clipped, clipped_of, join_of, value_of, heard_of, home_of}

-- one for each bit
pub length-heard : (d : ℤ) (N e : ℕ) (vs : List Float) → length (heard_of d N e vs) ≡ N
unfolding heard_of
length-heard d N e vs = simp length-map (length-shared d N e vs)

pub length_home : (d : ℤ) (N e : ℕ) (vs : List Float) → length (home_of d N e vs) ≡ N
unfolding home_of
length_home d N e vs = simp length-map (length-heard d N e vs)

-- what was heard of bit j, from 0, and the value that it gets, by its share of the values
pub heard-shared : (d : ℤ) (N e j : ℕ) (vs : List Float) → j < N → get_or (heard_of d N e vs) j Nothing ≡ join_of (get_or (shared d N e vs) j [])
unfolding heard_of
heard-shared d N e j vs h = map_at join_of (shared d N e vs) j Nothing [] (omega (arith, length-shared d N e vs))

pub home_shared : (d : ℤ) (N e j : ℕ) (vs : List Float) (z : Float) → j < N
    → get_or (home_of d N e vs) j z ≡ value_of (join_of (get_or (shared d N e vs) j []))
unfolding home_of
home_shared d N e j vs z h =
    map_at value_of (heard_of d N e vs) j z Nothing (omega (arith, length-heard d N e vs)) ∙ ap value_of (heard-shared d N e j vs h)

-- where copy c of x came as f x c, it gets the join of f x 0, f x 1, .. of its own x
pub home_matched : {A : Type 0} (f : A → ℕ → Float) (d : ℤ) (e j : ℕ) (xs : List A) (a : A) (z : Float) → j < length xs
    → get_or (home_of d (length xs) e (matched f d (length xs) e xs)) j z
    ≡ value_of (join_of (table (f (get_or xs j a)) 0 (copies_of d (length xs) e j)))
home_matched f d e j xs a z h =
    home_shared d (length xs) e j (matched f d (length xs) e xs) z h
    ∙ ap (λ (l : List Float). value_of (join_of l)) (shared-matched f d e j xs a h)

-- bit j by itself, its values found without a walk: those from a up to b
pub record Alone (d : ℤ) (N e j : ℕ) (vs : List Float) (a b : ℕ) : Type 0 where
  pub order : a ≤ b
  pub within : b ≤ length vs
  pub joined : join_of (take (b - a) (drop a vs)) ≡ join_of (get_or (shared d N e vs) j [])

pub heard_alone : (d : ℤ) (N e j : ℕ) (vs : List Float) {a b : ℕ} → Rates d N (length vs) e → j < N → a ≡ sent_before d N e j
    → b ≡ sent_before d N e (j + 1) → Alone d N e j vs a b
heard_alone d N e j vs {a} {b} r h qa qb =
    let more : b ≡ a + copies_of d N e j = rw add-one at qb ∙ sent_more d N (length vs) e j r ∙ ap (λ (n : ℕ). n + copies_of d N e j) (sym qa) in
    let last = rises (sent_before d N e) N (λ k l. sent_up d N (length vs) e k r) (j + 1) N (omega arith) (omega arith) in
    let c : b - a ≡ copies_of d N e j = omega arith in
    record {
      order = omega arith;
      within = omega (arith, last, sent_all d N (length vs) e r);
      joined = rw (c, qa) (ap join_of (sym (shared_at d N (length vs) e j vs r h)));
    }

-- ---- by a sign and a magnitude

-- d is not 0
pub heard_by : (less : Bool) (m N e : ℕ) (vs : List Float) → (less ≡ true → 0 < m)
    → heard_of (signed_by less m) N e vs ≡ map join_of (shared_from less (2 * N) (2 * m) e N vs)
unfolding heard_of
heard_by less m N e vs h = ap (map join_of) (shared_by less m N e vs h)

-- d = 0: each bit is heard once
each_once : (P e n : ℕ) (vs : List Float) → length vs ≡ n → map join_of (shared_from false P 0 e n vs) ≡ map Once (map clipped vs)
unfolding again grown shared_from raw_of clipped_of join_of
each_once P e zero [] h = refl
each_once P e zero (v ∷ vs) h = absurd (omega arith)
each_once P e (suc n) [] h = absurd (omega arith)
each_once P e (suc n) (v ∷ vs) h = ap (λ (l : List Heard). Once (clipped v) ∷ l) (each_once P (after false P 0 e) n vs (omega arith))

pub heard-same : (less : Bool) (m N e : ℕ) (vs : List Float) → m ≡ 0 → length vs ≡ N → heard_of (signed_by less m) N e vs ≡ map Once (map clipped vs)
unfolding shared heard_of
heard-same false zero N e vs z h = each_once (2 * N) e N vs h
heard-same true zero N e vs z h = each_once (2 * N) e N vs h
heard-same less (suc a) N e vs z h = absurd (omega arith)

values_once : (xs : List Float) → map value_of (map Once xs) ≡ xs
unfolding value_of
values_once [] = refl
values_once (x ∷ xs) = ap (λ (l : List Float). x ∷ l) (values_once xs)

pub home_same : (less : Bool) (m N e : ℕ) (vs : List Float) → m ≡ 0 → length vs ≡ N → home_of (signed_by less m) N e vs ≡ map clipped vs
unfolding home_of
home_same less m N e vs z h = ap (map value_of) (heard-same less m N e vs z h) ∙ values_once (map clipped vs)
