-- Bits sent as +1 for 0 and -1 for 1: their copies joined.
use mathlib.Core.Path.{◌≡◌, refl, ap, ◌∙◌}
use mathlib.Core.Bool.{Bool, true, false}
use mathlib.Core.List.{List}
use Prim.Native.Nat.{ℕ, zero, suc, min, ◌+◌, ◌^◌, ◌≤◌, ◌<◌}
use native.Mathlib.Omega.{arith}
use lib.IntN.{ℤ, pos, neg_ℤ}
use lib.ListN.{length, get_or}
use lib.Ieee.{Float, fin, binary32, round, add, of_int}
use lib.Ieee.Back.{round_whole, whole_unique}
use lib.Ieee.Fits.{add-fits, round-fits}
use Rattle.laws.specs.Tables.{table}
use Rattle.laws.proofs.LeastLaws.{rises}
use Rattle.sheet.specs.Counts.{most_bits}
use Rattle.pattern.specs.Pattern.{matched, copies_of, Rates}
use Rattle.pattern.specs.Closed.{sent_before}
use Rattle.pattern.proofs.MatchedLaws.{sent_all, sent_more}
use Rattle.pattern.proofs.SourceLaws.{sent_up}
use Rattle.joining.specs.Joining.{sum_of, raw_of, clipped, clipped_of, join_of, value_of, home_of}
use Rattle.joining.specs.Whole.{bound, soft, counted}
use Rattle.joining.proofs.ClipLaws.{clip_round}
use Rattle.joining.proofs.MadeLaws.{join_value}
use Rattle.joining.proofs.HomeLaws.{home_matched}
use Rattle.joining.proofs.WholeLaws.{add_is, same_sum}

abbrev one : Bool → Float
one s = fin s 1 (pos 0)

one_more : (s : Bool) (j : ℕ) → suc j ≤ 2 ^ 24 → add binary32 (round binary32 s j 1) (one s) ≡ round binary32 s (suc j) 1
one_more s j h =
    let j1 : j + 1 ≡ suc j = omega arith in
    let r = round binary32 s j 1 in
    let is = add_is binary32 r (one s) s j s 1 (round_whole binary32 s j (omega arith)) (refl, refl) in
    whole_unique binary32 (add binary32 r (one s)) (round binary32 s (suc j) 1) s (suc j)
    (add-fits binary32 r (one s)) (round-fits binary32 s (suc j) 1)
    (rw (is, ← j1) (same_sum binary32 s j 1 (omega arith)))
    (round_whole binary32 s (suc j) h)

ones-from : (s : Bool) (from n j : ℕ) → j + n ≤ 2 ^ 24 → sum_of (round binary32 s j 1) (table (λ i. one s) from n) ≡ round binary32 s (j + n) 1
unfolding table
ones-from s from zero j h = let e : j + 0 ≡ j = omega arith in rw e
ones-from s from (suc n) j h =
    let e : suc j + n ≡ j + suc n = omega arith in
    ap (λ (v : Float). sum_of v (table (λ i. one s) (suc from) n)) (one_more s j (omega arith))
    ∙ ones-from s (suc from) n (suc j) (omega arith)
    ∙ ap (λ (k : ℕ). round binary32 s k 1) e

one_round : (s : Bool) → one s ≡ round binary32 s 1 1
unfolding round
one_round false = refl
one_round true = refl

ones : (s : Bool) (c : ℕ) → suc c ≤ most_bits → value_of (join_of (table (λ i. one s) 0 (suc c))) ≡ round binary32 s (min (suc c) bound) 1
unfolding table
ones s c h =
    let e : 1 + c ≡ suc c = omega arith in
    join_value (one s) (table (λ i. one s) 1 c)
    ∙ ap (λ (v : Float). clipped (sum_of v (table (λ i. one s) 1 c))) (one_round s)
    ∙ ap clipped (ones-from s 1 c 1 (omega arith) ∙ ap (λ (k : ℕ). round binary32 s k 1) e)
    ∙ clip_round s (suc c) (omega arith)

minus_int : (n : ℕ) → 0 < n → round binary32 true n 1 ≡ of_int binary32 (neg_ℤ (pos n))
unfolding of_int
minus_int zero h = absurd (omega arith)
minus_int (suc n) h = refl

-- plus or minus the lesser of the number of copies and 1,024, and +0.0 of none
pub join_copies : (b c : ℕ) → c ≤ most_bits → value_of (join_of (table (λ j. soft b) 0 c)) ≡ counted b c
unfolding table raw_of clipped_of join_of value_of soft counted round of_int
join_copies zero zero h = refl
join_copies (suc b) zero h = refl
join_copies zero (suc c) h = ones false c h
join_copies (suc b) (suc c) h = ones true c h ∙ minus_int (min (suc c) bound) (omega arith)

-- no bit has more copies than values were sent
copies-few : (d : ℤ) (N W e j : ℕ) → Rates d N W e → j < N → copies_of d N e j ≤ W
copies-few d N W e j r h =
    omega (
      arith,
      sent_more d N W e j r,
      rises (sent_before d N e) N (λ k l. sent_up d N W e k r) (suc j) N h (omega arith),
      sent_all d N W e r,
    )

-- a segment of bits that was sent so comes home so
pub home_copies : (d : ℤ) (W e j : ℕ) (bits : List ℕ) (z : Float) → Rates d (length bits) W e → W ≤ most_bits → j < length bits
    → get_or (home_of d (length bits) e (matched (λ b c. soft b) d (length bits) e bits)) j z
    ≡ counted (get_or bits j 0) (copies_of d (length bits) e j)
home_copies d W e j bits z r w h =
    home_matched (λ b c. soft b) d e j bits 0 z h
    ∙ join_copies (get_or bits j 0) (copies_of d (length bits) e j) (omega (arith, copies-few d (length bits) W e j r h))
