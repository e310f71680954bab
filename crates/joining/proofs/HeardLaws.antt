-- How many copies were heard of each bit, and how many bits were not heard: those of step 6.
use mathlib.Core.Path.{◌≡◌, refl, sym, ap, ap₂, ◌∙◌}
use mathlib.Core.Bool.{Bool}
use mathlib.Core.List.{List, [], ◌∷◌, map}
use Prim.Native.Nat.{ℕ, zero, suc, ◌+◌, ◌*◌, ◌-◌, ◌≤◌, ◌<◌}
use native.Mathlib.Omega.{arith}
use lib.IntN.{ℤ, nat_abs}
use lib.ListN.{length, get_or, take, drop, length-drop}
use lib.Seq.{length-take-le}
use lib.Ieee.{Float}
use Rattle.laws.specs.Sums.{sum_to}
use Rattle.laws.proofs.LeastLaws.{rises}
use Rattle.laws.proofs.SumLaws.{sum_shift}
use Rattle.pattern.specs.Pattern.{copies_at, after, copies_from, shared_from, negative, copies_of, shared, Rates}
use Rattle.pattern.specs.Closed.{sent_before}
use Rattle.pattern.proofs.WalkLaws.{first-apart}
use Rattle.pattern.proofs.MatchedLaws.{sent_all, sent_more, sent_sum, shared_at}
use Rattle.pattern.proofs.EvenLaws.{dropped-all}
use Rattle.pattern.proofs.SourceLaws.{sent_up}
use Rattle.joining.specs.declared.Heard.{Heard}
use Rattle.joining.specs.declared.Heard.TheVariants.{Nothing}
use Rattle.joining.specs.Joining.{raw_of, clipped_of, join_of, count_of, heard_of}
use Rattle.joining.specs.Linked.{punctures}
use Rattle.joining.proofs.MadeLaws.{join_count, join_voice}
use Rattle.joining.proofs.HomeLaws.{heard-shared}

-- ---- the copies of one bit

pub heard-count : (d : ℤ) (N e j : ℕ) (vs : List Float) → Rates d N (length vs) e → j < N
    → count_of (get_or (heard_of d N e vs) j Nothing) ≡ copies_of d N e j
heard-count d N e j vs r h =
    let last = rises (sent_before d N e) N (λ k l. sent_up d N (length vs) e k r) (suc j) N h (omega arith) in
    ap count_of (heard-shared d N e j vs h)
    ∙ join_count (get_or (shared d N e vs) j [])
    ∙ ap length (shared_at d N (length vs) e j vs r h)
    ∙ length-take-le (copies_of d N e j) (drop (sent_before d N e j) vs)
    (rw length-drop (omega (arith, last, sent_all d N (length vs) e r, sent_more d N (length vs) e j r)))

-- ---- the bits that were not heard

abbrev unheard : Bool → ℕ → ℕ → ℕ → ℕ → List Float → ℕ
unheard less P D e n vs = punctures (map join_of (shared_from less P D e n vs))

pub punctures-first : (l : List Float) (hs : List Heard) → punctures (join_of l ∷ hs) ≡ 1 - length l + punctures hs
punctures-first [] hs = unfold raw_of clipped_of join_of punctures in omega arith
punctures-first (v ∷ vs) hs = omega (arith, (join_voice v vs).counts hs)

-- those of which no copy is sent
unheard-sum : (less : Bool) (P D e n : ℕ) (vs : List Float) → sum_to (copies_from less P D e) n ≤ length vs
    → unheard less P D e n vs ≡ sum_to (λ m. 1 - copies_from less P D e m) n
unfolding shared_from copies_from
unheard-sum less P D e zero vs h = unfold punctures sum_to in refl
unheard-sum less P D e (suc n) vs h =
    let c = copies_at less P D e in
    let a = first-apart less P D e n in
    punctures-first (take c vs) (map join_of (shared_from less P D (after less P D e) n (drop c vs)))
    ∙ ap₂ (λ (x k : ℕ). 1 - x + k) (length-take-le c vs (omega arith))
    (unheard-sum less P D (after less P D e) n (drop c vs) (rw length-drop (omega arith)))
    ∙ sym (sum_shift (λ m. 1 - copies_from less P D e m) n)

-- over the whole segment, N - V: none where d is not below 0, and |d| where it is
pub unheard-all : (d : ℤ) (N e : ℕ) (vs : List Float) → Rates d N (length vs) e → punctures (heard_of d N e vs) ≡ N - length vs
unfolding copies_of shared heard_of
unheard-all d N e vs r =
    let s = sent_sum d N (length vs) e N r ∙ sent_all d N (length vs) e r in
    unheard-sum (negative d) (2 * N) (2 * nat_abs d) e N vs (omega (arith, s)) ∙ dropped-all d N (length vs) e r
