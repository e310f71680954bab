-- Laws of taking a channel's segment out of its values.
use mathlib.Core.Path.{◌≡◌, sym, ap, ap₂, ◌∙◌}
use mathlib.Core.List.{List, [], map}
use Prim.Native.Nat.{ℕ, ◌+◌, ◌*◌, ◌-◌, ◌%◌, ◌≤◌, ◌<◌}
use native.Mathlib.Numerals.{add-one}
use native.Mathlib.Omega.{arith}
use lib.IntN.{ℤ, nat_abs}
use lib.Ieee.{Float}
use borrow.Rule.Slice.PartMut.{put_mid}
use lib.ListN.{length, get_or, take, drop}
use lib.Seq.{sets}
use Rattle.laws.proofs.StoreLaws.{put_back}
use Rattle.sheet.specs.Sizes.{frames_of, size_of}
use Rattle.sheet.specs.declared.Sheet.{Sheet}
use Rattle.matching.specs.Signed.{signed_by}
use Rattle.matching.specs.Shares.{change_of, channel_part}
use Rattle.pattern.specs.Pattern.{shared}
use Rattle.pattern.proofs.StartLaws.{shared_start}
use Rattle.matching.proofs.SignedLaws.{magnitude}
use Rattle.frame.specs.Frame.{start_at}
use Rattle.frame.specs.Walk.{Walks}
use Rattle.frame.specs.declared.walking.Walk.{Walk}
use Rattle.joining.specs.Joining.{join_of, value_of, heard_of, home_of}
use Rattle.joining.specs.Linked.{link_of}
use Rattle.joining.specs.declared.Heard.{Heard}
use Rattle.joining.specs.declared.linking.Link.{Link}
use Rattle.opening.specs.declared.Opened.{Opened}
use Rattle.opening.proofs.OpenLaws.{low-is}
use Rattle.frame.proofs.SendLaws.{cut_share}
use Rattle.homing.specs.Home.{channel_start, segment_start}
use Rattle.homing.specs.Taking.{home_in, hear_in, survey_in, taken_from}

module _ (sh : Sheet) (number i : ℕ) (w : Walk) (k : Walks sh number i w) (vs : List Float) where
  shares : shared (signed_by w.d.less w.d.size) w.n w.e vs ≡ shared (change_of sh i) (size_of sh i) (start_at sh number i) vs
  shares =
      ap₂ (λ (d : ℤ) (n : ℕ). shared d n w.e vs) k.change k.size
      ∙ shared_start (change_of sh i) (size_of sh i) w.e (start_at sh number i) vs
      (λ a b. k.start a (let p : 0 < nat_abs (signed_by w.d.less w.d.size) = rw k.change b in rw (magnitude w.d.less w.d.size) at p))

  pub home_in_lem : {n : ℕ} {out : List Float} → n ≡ w.n → out ≡ home_of (signed_by w.d.less w.d.size) n w.e vs → out ≡ home_in sh number i vs
  unfolding home_in home_of heard_of
  home_in_lem p q =
      q ∙ ap (λ (x : ℕ). home_of (signed_by w.d.less w.d.size) x w.e vs) p ∙ ap (λ (l : List (List Float)). map value_of (map join_of l)) shares

  pub hear_in_lem : (m : ℕ) {h : Heard} → h ≡ join_of (get_or (shared (signed_by w.d.less w.d.size) w.n w.e vs) m []) → h ≡ hear_in sh number i m vs
  unfolding hear_in
  hear_in_lem m q = q ∙ ap (λ (l : List (List Float)). join_of (get_or l m [])) shares

  pub survey_in_lem : {l : Link} → l ≡ link_of (heard_of (signed_by w.d.less w.d.size) w.n w.e vs) → l ≡ survey_in sh number i vs
  unfolding survey_in heard_of
  survey_in_lem q = q ∙ ap (λ (l : List (List Float)). link_of (map join_of l)) shares

-- ---- the segments, one channel after the other

-- one channel more
module _ (o : Opened) (number : ℕ) (ms old l : List Float) (i base from : ℕ) (inside : i < o.fields.channels) where
  abbrev sh : Sheet
  sh = o.fields

  module _ (was : l ≡ taken_from sh number ms i old) (eb : base ≡ channel_start sh i) (ef : from ≡ number % frames_of sh i * size_of sh i) where
    pub taken_next : {size : ℕ} {y : List Float} → size ≡ size_of sh i → base + from + size ≤ length l → length y ≡ base + from + size - (base + from)
        → y ≡ home_in sh number i (channel_part sh i ms)
        → put_mid (base + from) (base + from + size - (base + from)) l y ≡ taken_from sh number ms (i + 1) old
    unfolding taken_from segment_start
    taken_next {size} {y} es b n q =
        put_back l y (base + from) (base + from + size) (omega arith) b n
        ∙ ap₂ (λ (a : List Float) (k : ℕ). sets a k y) was (ap₂ ◌+◌ eb ef)
        ∙ ap (sets (taken_from sh number ms i old) (channel_start sh i + number % frames_of sh i * size_of sh i)) q
        ∙ ap (λ (k : ℕ). taken_from sh number ms k old) (sym (add-one i))

-- the channel's part by its cuts
pub part_at : {A : Type 0} (o : Opened) → (i : ℕ) → i < o.fields.channels → (xs : List A) {a z : ℕ} → a ≡ get_or o.cuts i 0
    → z ≡ get_or o.cuts (i + 1) 0 → take (z - a) (drop a xs) ≡ channel_part o.fields i xs
part_at o i l xs ea ez = ap₂ (λ (n k : ℕ). take n (drop k xs)) (ap₂ ◌-◌ ez ea ∙ cut_share o i l) (ea ∙ low-is o i l)
