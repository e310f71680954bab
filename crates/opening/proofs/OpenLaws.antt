-- Laws of an opened sheet.
use mathlib.Core.Path.{◌≡◌, sym, ap, ◌∙◌}
use mathlib.Core.List.{List}
use Prim.Native.Nat.{ℕ, ◌+◌, ◌≤◌, ◌<◌}
use native.Mathlib.Numerals.{add-one}
use native.Mathlib.Omega.{arith}
use lib.ListN.{get_or, set}
use Rattle.laws.specs.Tables.{table, up_to}
use Rattle.laws.proofs.TestLaws.{split}
use Rattle.laws.proofs.LeastLaws.{passes_one}
use Rattle.laws.proofs.TableLaws.{table-set, filled_at}
use borrow.Author.Tests.{ltb-false}
use Rattle.sheet.specs.Counts.{most_channels, most_bits, most_encoded}
use Rattle.sheet.specs.Fields.{sheet_of, encoded_of}
use Rattle.sheet.specs.Sizes.{frames_in, segment_in, frames_of, size_of, capacity_all}
use Rattle.sheet.specs.Numbers.{read_number}
use Rattle.sheet.specs.Range.{Accepted}
use Rattle.sheet.specs.declared.Sheet.{Sheet}
use Rattle.sheet.proofs.SizeLaws.{size-most}
use Rattle.sheet.proofs.FieldLaws.{ranged_in, caps-whole}
use Rattle.sheet.proofs.NumberLaws.{loads-zero, readable}
use Rattle.matching.specs.Shares.{weight_of, weight_all, cut_of, share_of, channel_of}
use Rattle.matching.proofs.ShareLaws.{weight_heard, cut_first, cut_last, cut_up, cuts_rise, cuts_at, share_most, channel_passes}
use Rattle.opening.specs.Opened.{sizes_of}
use Rattle.opening.specs.declared.Opened.{Opened}

-- N of each channel, by the arrays, filled up to k
abbrev pub sizes_to : List ℕ → List ℕ → ℕ → List ℕ
sizes_to e tti k = table (λ i. up_to k i (segment_in (get_or e i 0) (frames_in (get_or tti i 0)))) 0 most_channels

pub sizes_more : (e tti : List ℕ) (k : ℕ) {x : ℕ} (l : List ℕ) → k < most_channels → l ≡ sizes_to e tti k → x ≡ segment_in (get_or e k 0) (frames_in (get_or tti k 0))
    → set l k x ≡ sizes_to e tti (k + 1)
sizes_more e tti k l h p q = rw (p, q) (table-set (λ i. segment_in (get_or e i 0) (frames_in (get_or tti i 0))) most_channels k h)

pub sizes_all : (sh : Sheet) (k : ℕ) → k ≡ sh.channels → sizes_to sh.e sh.tti k ≡ sizes_of sh
unfolding sizes_of
sizes_all sh k e = ap (sizes_to sh.e sh.tti) e

pub sizes_at : (sh : Sheet) (i : ℕ) → sh.channels ≤ most_channels → i < sh.channels → get_or (sizes_of sh) i 0 ≡ size_of sh i
unfolding sizes_of
sizes_at sh i b h = filled_at (size_of sh) sh.channels most_channels i (omega arith) h

-- an accepted sheet's weights are not all 0
pub weighs : (sh : Sheet) → Accepted sh → 0 < weight_all sh
weighs sh a = weight_heard sh a.ranged (loads-zero sh a.loads).heard

-- no share, and no N, is over 60,000
pub capacity_most : (sh : Sheet) → Accepted sh → capacity_all sh ≤ most_bits
capacity_most sh a = ltb-false most_bits (capacity_all sh) (loads-zero sh a.loads).capacity

pub shares_most : (sh : Sheet) → Accepted sh → (i : ℕ) → i < sh.channels → share_of sh i ≤ most_bits
shares_most sh a i l = omega (arith, share_most sh i (weighs sh a) l, capacity_most sh a)

pub sizes_most : (sh : Sheet) → Accepted sh → (i : ℕ) → i < sh.channels → size_of sh i ≤ most_encoded
sizes_most sh a i l = omega (arith, size-most (encoded_of sh i) (frames_of sh i), a.ranged.encoded i l)

pub accepted_in : (s : List ℕ) → read_number s ≡ 0 → Accepted (sheet_of s)
accepted_in s z = record { ranged = ranged_in s; loads = (readable s z).loads; whole = caps-whole s }

-- what stands in an opened sheet
module _ (o : Opened) (i : ℕ) (l : i < o.fields.channels) where
  abbrev few : o.fields.channels ≤ most_channels
  few = o.accepted.ranged.few_channels

  pub size_is : get_or o.sizes i 0 ≡ size_of o.fields i
  size_is = ap (λ (x : List ℕ). get_or x i 0) o.sizes_own ∙ sizes_at o.fields i few l

  pub low-is : get_or o.cuts i 0 ≡ cut_of o.fields i
  low-is = ap (λ (x : List ℕ). get_or x i 0) o.cuts_own ∙ cuts_at o.fields i few (omega arith)

  pub high_is : get_or o.cuts (i + 1) 0 ≡ cut_of o.fields (i + 1)
  high_is = ap (λ (x : List ℕ). get_or x (i + 1) 0) o.cuts_own ∙ cuts_at o.fields (i + 1) few (omega arith)

  pub cut_rises : get_or o.cuts i 0 ≤ get_or o.cuts (i + 1) 0
  cut_rises =
      let f = o.fields in
      omega (arith, low-is, high_is, cut_up (capacity_all f) (weight_of f) f.channels (weighs f o.accepted) i)

-- Z_I is D
pub last-is : (o : Opened) → get_or o.cuts o.fields.channels 0 ≡ capacity_all o.fields
last-is o =
    let f = o.fields in
    ap (λ (x : List ℕ). get_or x f.channels 0) o.cuts_own
    ∙ cuts_at f f.channels o.accepted.ranged.few_channels (omega arith)
    ∙ cut_last (capacity_all f) (weight_of f) f.channels (weighs f o.accepted)

-- the walk over the Z: those up to i are not above x
pub record Under (z : List ℕ) (x i : ℕ) : Type 0 where
  pub all : (k : ℕ) → k ≤ i → get_or z k 0 ≤ x

pub under_more : (z : List ℕ) (x i : ℕ) → Under z x i → get_or z (i + 1) 0 ≤ x → Under z x (i + 1)
under_more z x i u h =
    record { all = λ k l. split k i (λ le. u.all k le) (λ lt. let e : k ≡ i + 1 = omega arith in rw e h) }

module _ (o : Opened) (x : ℕ) (l : x < capacity_all o.fields) where
  abbrev of : Sheet
  of = o.fields

  pub under_first : Under o.cuts x 0
  under_first =
      record {
        all =
            λ k m.
            let e : k ≡ 0 = omega arith in
            let n = low-is o 0 o.accepted.ranged.one in
            rw e (omega (arith, n, cut_first (capacity_all of) (weight_of of) of.channels (weighs of o.accepted)));
      }

  -- Z_I is above x
  pub under_inside : (i : ℕ) → Under o.cuts x i → i < of.channels
  under_inside i u = split of.channels i (λ le. absurd (omega (arith, u.all of.channels le, last-is o))) (λ lt. lt)

  -- the first Z above x is the channel's
  pub under_ends : (i : ℕ) → Under o.cuts x i → x < get_or o.cuts (i + 1) 0 → i ≡ channel_of of x
  under_ends i u b =
      let w = weighs of o.accepted in
      let m = under_inside i u in
      let hi : x < cut_of of (i + 1) = omega (arith, high_is o i m) in
      sym
      (passes_one (cut_of of) x of.channels (channel_of of x) i (cuts_rise (capacity_all of) (weight_of of) of.channels w)
      (channel_passes of x w l) m (omega (arith, u.all i (omega arith), low-is o i m)) (rw add-one at hi))
