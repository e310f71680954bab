-- Laws of the shares: they add up to D, an empty channel has none, and no accepted sheet divides by 0.
use mathlib.Core.Path.{◌≡◌, refl, sym, ap, ◌∙◌, subst}
use mathlib.Core.Bool.{Bool, true, false, false≢true, not, cond, ◌||◌}
use mathlib.Core.List.{List}
use Prim.Native.Nat.{ℕ, zero, suc, ◌+◌, ◌-◌, ◌*◌, ◌/◌, ◌≤◌, ◌<◌}
use native.Mathlib.Nat.{mul-zero, zero-div, add-sub_of_le, mul-le-mul_left, mul-le-mul, mul-div_cancel, le-div_iff_mul-le, div-mul-le_self, le_trans}
use native.Mathlib.Numerals.{add-one}
use native.Mathlib.Omega.{arith}
use native.Mathlib.Decide.{dec_lt}
use borrow.Author.Tests.{ne_eqb, eqb-false, not-false, not-true, lt-ltb, le-ltb}
use lib.Dec.{eqb}
use lib.IntN.{pos, negsuc, neg_ℤ, ◌-ℤ◌}
use lib.ListN.{get_or, set, replicate}
use Rattle.laws.specs.Sums.{sum_to, any_to}
use Rattle.laws.specs.Tables.{table, up_to}
use Rattle.laws.specs.Least.{Passes}
use Rattle.laws.proofs.LeastLaws.{first_passes, rises}
use Rattle.laws.proofs.SumLaws.{sum_more, sum-most}
use Rattle.laws.proofs.TableLaws.{zeros_at, table-set, table_same, filled-all, filled_at, up_to_past, up_to-same}
use Rattle.sheet.specs.Counts.{most_channels, most_encoded, most_ratio, most_bits}
use Rattle.sheet.specs.Fields.{encoded_of, ratio_of}
use Rattle.sheet.specs.Sizes.{frames_in, segment_in, frames_of, size_of, capacity_all}
use Rattle.sheet.specs.Numbers.{silent}
use Rattle.sheet.specs.Range.{Ranged}
use Rattle.sheet.specs.declared.Sheet.{Sheet}
use Rattle.sheet.proofs.SizeLaws.{size-most}
use Rattle.matching.specs.Shares.{cut_in, share_in, weight_of, weight_all, cut_of, share_of, channel_of, parts_of, cuts_of}

-- Z and V of any weights w of n channels, not all 0
module _ (d : ℕ) (w : ℕ → ℕ) (n : ℕ) (p : 0 < sum_to w n) where
  pub cut_first : cut_in d w n 0 ≡ 0
  unfolding sum_to
  cut_first = ap (λ (x : ℕ). x / sum_to w n) (mul-zero d) ∙ zero-div _

  pub cut_last : cut_in d w n n ≡ d
  cut_last = mul-div_cancel d p

  pub cut_up : (i : ℕ) → cut_in d w n i ≤ cut_in d w n (i + 1)
  cut_up i =
      let l : sum_to w i ≤ sum_to w (i + 1) = omega (arith, sum_more w i refl refl) in
      (le-div_iff_mul-le p).1 (le_trans (div-mul-le_self (d * sum_to w i) (sum_to w n)) (mul-le-mul_left d l))

  pub cuts_rise : (k : ℕ) → k < n → cut_in d w n k ≤ cut_in d w n (suc k)
  cuts_rise k l = rw add-one at (cut_up k)

  -- no Z is over D
  pub cut_most : (i : ℕ) → i ≤ n → cut_in d w n i ≤ d
  cut_most i l = omega (arith, rises (cut_in d w n) n cuts_rise i n l (omega arith), cut_last)

  pub shares_to : (i : ℕ) → sum_to (share_in d w n) i ≡ cut_in d w n i
  unfolding sum_to
  shares_to zero = sym cut_first
  shares_to (suc i) =
      ap (λ (x : ℕ). x + share_in d w n i) (shares_to i) ∙ add-sub_of_le (cut_up i) ∙ ap (cut_in d w n) (add-one i)

  -- V_1 + .. + V_I = D
  pub shares_all : sum_to (share_in d w n) n ≡ d
  shares_all = shares_to n ∙ cut_last

  -- a channel with no weight has no share
  pub share_none : (i : ℕ) → w i ≡ 0 → share_in d w n i ≡ 0
  share_none i z =
      let e : sum_to w (i + 1) ≡ sum_to w i = sym (sum_more w i refl refl) ∙ omega (arith, z) in
      let f : cut_in d w n (i + 1) ≡ cut_in d w n i = ap (λ (x : ℕ). d * x / sum_to w n) e in
      omega arith

-- N = 0: V = 0
pub empty_share : (sh : Sheet) (i : ℕ) → 0 < weight_all sh → size_of sh i ≡ 0 → share_of sh i ≡ 0
empty_share sh i p z =
    share_none (capacity_all sh) (weight_of sh) sh.channels p i (ap (λ (x : ℕ). ratio_of sh i * x) z ∙ mul-zero (ratio_of sh i))

-- no share is over D
pub share_most : (sh : Sheet) (i : ℕ) → 0 < weight_all sh → i < sh.channels → share_of sh i ≤ capacity_all sh
share_most sh i p h = omega (arith, cut_most (capacity_all sh) (weight_of sh) sh.channels p (i + 1) (omega arith))

-- step 7: the channel of an index
pub channel_passes : (sh : Sheet) (x : ℕ) → 0 < weight_all sh → x < capacity_all sh → Passes (cut_of sh) x 0 sh.channels (channel_of sh x)
unfolding channel_of
channel_passes sh x p h =
    first_passes (cut_of sh) x sh.channels
    (omega (arith, cut_first (capacity_all sh) (weight_of sh) sh.channels p))
    (omega (arith, cut_last (capacity_all sh) (weight_of sh) sh.channels p))

-- a channel that has bits has weight
weight_one : (sh : Sheet) → Ranged sh → (n : ℕ) → n < sh.channels → (encoded_of sh n ≡ 0 → ⊥) → 1 ≤ weight_of sh n
weight_one sh r n l z =
    let e = ap (λ (b : Bool). cond b 0 ((encoded_of sh n - 1) / frames_of sh n + 1)) (ne_eqb (encoded_of sh n) 0 z) in
    let s : 1 ≤ size_of sh n = subst (λ (x : ℕ). 1 ≤ x) (sym e) (omega arith) in
    mul-le-mul {n₁ = 1} {m₁ = 1} (r.ratio n l) s

weight_step : (sh : Sheet) → Ranged sh → (n : ℕ) → n < sh.channels → (a : Bool) → (a ≡ true → 0 < sum_to (weight_of sh) n)
    → (a || not (eqb (encoded_of sh n) 0)) ≡ true → 0 < sum_to (weight_of sh) n + weight_of sh n
weight_step sh r n l true k h = omega (arith, k refl)
weight_step sh r n l false k h = omega (arith, weight_one sh r n l (eqb-false (encoded_of sh n) 0 (not-true (eqb (encoded_of sh n) 0) h)))

weight_some : (sh : Sheet) → Ranged sh → (n : ℕ) → n ≤ sh.channels → any_to (λ i. not (eqb (encoded_of sh i) 0)) n ≡ true
    → 0 < sum_to (weight_of sh) n
unfolding sum_to any_to
weight_some sh r zero l h = absurd (false≢true h)
weight_some sh r (suc n) l h =
    weight_step sh r n l (any_to (λ i. not (eqb (encoded_of sh i) 0)) n) (weight_some sh r n (omega arith)) h

-- number 8 keeps the divisor of step 4 from being 0
pub weight_heard : (sh : Sheet) → Ranged sh → silent sh ≡ false → 0 < weight_all sh
weight_heard sh r h = weight_some sh r sh.channels (omega arith) (not-false _ h)

-- RM x N of each channel, by the arrays
abbrev pub weights_in : List ℕ → List ℕ → List ℕ → ℕ → ℕ
weights_in rm e tti i = get_or rm i 0 * segment_in (get_or e i 0) (frames_in (get_or tti i 0))

-- numbers after 0 to I channels as an array, of which the first k + 1 are filled; the first is 0
abbrev pub filled_to : (ℕ → ℕ) → ℕ → List ℕ
filled_to f k = table (λ i. up_to (k + 1) i (f i)) 0 (most_channels + 1)

module _ (f : ℕ → ℕ) where
  first_entry : f 0 ≡ 0 → (i : ℕ) → Dec (i < 1) → 0 ≡ up_to 1 i (f i)
  first_entry z i (yes l) = let e : 0 ≡ i = omega arith in subst (λ (x : ℕ). 0 ≡ up_to 1 x (f x)) e (sym z)
  first_entry z i (no l) = sym (up_to_past 1 i (f i) (omega arith))

  pub fill_first : f 0 ≡ 0 → replicate (most_channels + 1) 0 ≡ filled_to f 0
  fill_first z =
      filled-all (λ i. up_to 1 i (f i)) (replicate (most_channels + 1) 0) (most_channels + 1) refl
      (λ i l. zeros_at (most_channels + 1) i ∙ first_entry z i (dec_lt i 1))

  pub fill_more : (k : ℕ) {x : ℕ} (l : List ℕ) → k < most_channels → l ≡ filled_to f k → x ≡ f (k + 1) → set l (k + 1) x ≡ filled_to f (k + 1)
  fill_more k l h e ex = rw (e, ex) (table-set f (most_channels + 1) (k + 1) (omega arith))

pub parts_all : (sh : Sheet) (k : ℕ) → k ≡ sh.channels → filled_to (sum_to (weight_of sh)) k ≡ parts_of sh
unfolding parts_of
parts_all sh k e = ap (filled_to (sum_to (weight_of sh))) e

-- what stands in the sums: they begin with 0 and end with the sum over all, and no product with one, and no quotient, is too large
module _ (sh : Sheet) (r : Ranged sh) (parts : List ℕ) (e : parts ≡ parts_of sh) where
  part_at : (i : ℕ) → i ≤ sh.channels → get_or parts i 0 ≡ sum_to (weight_of sh) i
  unfolding parts_of
  part_at i h = rw e (filled_at (sum_to (weight_of sh)) (sh.channels + 1) (most_channels + 1) i (omega (arith, r.few_channels)) (omega arith))

  pub part_none : (d all : ℕ) → d * get_or parts 0 0 / all ≡ 0
  unfolding sum_to
  part_none d all = ap (λ (x : ℕ). d * x / all) (part_at 0 (omega arith)) ∙ ap (λ (x : ℕ). x / all) (mul-zero d) ∙ zero-div all

  pub part-all : (n : ℕ) → n ≡ sh.channels → get_or parts n 0 ≡ weight_all sh
  part-all n q = part_at n (omega arith) ∙ ap (sum_to (weight_of sh)) q

  part-most : (i : ℕ) → i ≤ sh.channels → get_or parts i 0 ≤ most_ratio * most_encoded * most_channels
  part-most i h =
      let m =
      sum-most (weight_of sh) (most_ratio * most_encoded) i
      (λ k l. mul-le-mul (r.ratio256 k (omega arith)) (le_trans (size-most (encoded_of sh k) (frames_of sh k)) (r.encoded k (omega arith))))
      in
      omega (arith, part_at i h, r.few_channels)

  pub product_most : (i : ℕ) → i ≤ sh.channels → {d : ℕ} → d ≤ most_bits → d * get_or parts i 0 ≤ most_bits * (most_ratio * most_encoded * most_channels)
  product_most i h l = mul-le-mul l (part-most i h)

  pub quotient_most : (i : ℕ) → i ≤ sh.channels → 0 < weight_all sh → {d all : ℕ} → all ≡ weight_all sh → d * get_or parts i 0 / all ≤ d
  quotient_most i h p {d} q = rw (q, part_at i h) (cut_most d (weight_of sh) sh.channels p i h)

  -- the cuts, from the sums
  pub cuts_all : (k : ℕ) {d all : ℕ} → d ≡ capacity_all sh → all ≡ weight_all sh → k ≡ sh.channels
      → filled_to (λ i. d * get_or parts i 0 / all) k ≡ cuts_of sh
  unfolding cuts_of
  cuts_all k ed ea q =
      rw (ed, ea, q)
      (table_same _ _ (most_channels + 1)
      (λ i l.
      up_to-same (sh.channels + 1) (sh.channels + 1) i _ _ refl (λ m. ap (λ (x : ℕ). capacity_all sh * x / weight_all sh) (part_at i (omega arith)))))

pub cuts_at : (sh : Sheet) (i : ℕ) → sh.channels ≤ most_channels → i ≤ sh.channels → get_or (cuts_of sh) i 0 ≡ cut_of sh i
unfolding cuts_of
cuts_at sh i b h = filled_at (cut_of sh) (sh.channels + 1) (most_channels + 1) i (omega arith) (omega arith)

-- d by its sign and its magnitude
pub change-less : (v n : ℕ) → v < n → neg_ℤ (pos (n - v)) ≡ pos v -ℤ pos n
change-less v zero h = absurd (omega arith)
change-less v (suc m) h =
    let e : suc m - v ≡ suc (suc m - suc v) = omega arith in
    ap (λ (x : ℕ). neg_ℤ (pos x)) e ∙ sym (ap (λ (b : Bool). cond b (negsuc (suc m - suc v)) (pos (v - suc m))) (lt-ltb v (suc m) h))

pub change-more : (v n : ℕ) → n ≤ v → pos (v - n) ≡ pos v -ℤ pos n
change-more v zero h = ap pos (omega arith)
change-more v (suc m) h = sym (ap (λ (b : Bool). cond b (negsuc (suc m - suc v)) (pos (v - suc m))) (le-ltb v (suc m) h))

-- the bound of RM x N
pub weight_most : {a b : ℕ} → a ≤ most_ratio → b ≤ most_encoded → a * b ≤ most_ratio * most_encoded
weight_most h i = mul-le-mul h i
