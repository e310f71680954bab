-- Laws of what one channel sends, as the code works it out.
use mathlib.Core.Path.{◌≡◌, refl, sym, ap, ap₂, ◌∙◌, subst}
use mathlib.Core.Bool.{Bool}
use mathlib.Core.List.{List, []}
use Prim.Native.Nat.{ℕ, ◌+◌, ◌*◌, ◌-◌, ◌%◌, ◌≤◌, ◌<◌}
use native.Mathlib.Nat.{mod-one}
use native.Mathlib.Omega.{arith}
use lib.IntN.{ℤ, nat_abs}
use borrow.Rule.Slice.PartMut.{put_mid}
use lib.ListN.{length, get_or, take, drop}
use Rattle.laws.specs.Sums.{sum_to}
use Rattle.laws.specs.Laid.{Laid}
use Rattle.laws.specs.Joined.{joined}
use Rattle.laws.proofs.SumLaws.{sum-within}
use Rattle.laws.proofs.PartLaws.{part_length}
use Rattle.laws.proofs.LaidLaws.{laid-joined}
use Rattle.sheet.specs.Counts.{most_bits}
use Rattle.sheet.specs.Fields.{tti_of, encoded_of}
use Rattle.sheet.specs.Sizes.{frames_in, frames_of, size_of, encoded_all, capacity_all}
use Rattle.sheet.specs.Range.{Accepted}
use Rattle.sheet.specs.declared.Sheet.{Sheet}
use Rattle.orders.specs.Orders.{orders, column_at}
use Rattle.orders.proofs.OrderLaws.{frames_bounds}
use Rattle.matching.specs.Signed.{signed_by}
use Rattle.matching.specs.Shares.{weight_of, cut_of, share_of, change_of}
use Rattle.matching.proofs.ShareLaws.{cut_first, cut_most}
use Rattle.offset.specs.Offset.{start_of}
use Rattle.opening.proofs.OpenLaws.{sizes_most, weighs, low-is, high_is, cut_rises}
use Rattle.opening.specs.declared.Opened.{Opened}
use Rattle.pattern.specs.Pattern.{as_is, matched, Segment}
use Rattle.pattern.specs.Every.{every, Strided}
use Rattle.pattern.proofs.StartLaws.{matched-start}
use Rattle.matching.proofs.SignedLaws.{magnitude}
use Rattle.interleaving.specs.First.{equalised}
use Rattle.interleaving.proofs.EqualisedLaws.{segments_hold, equalised-length}
use Rattle.interleaving.proofs.FirstLaws.{segment-every}
use Rattle.frame.specs.Frame.{start_at, sent_of, contents_of}
use Rattle.frame.specs.Walk.{Walks}
use Rattle.frame.specs.declared.walking.Walk.{Walk}
use Rattle.frame.proofs.FrameLaws.{rates, turn_inside, part_of, sent_matched, length_part}

-- a TTI of one frame has one column
pub column-one : (t frame : ℕ) → t ≡ 0 → 0 ≡ column_at t (frame % frames_in t)
unfolding column_at orders
column-one t frame e = rw (e, mod-one frame) refl

module _ (sh : Sheet) (ok : Accepted sh) (i : ℕ) (l : i < sh.channels) where
  -- the contents hold the segment
  content_fits : encoded_of sh i ≤ frames_of sh i * size_of sh i
  content_fits = (segments_hold (encoded_of sh i) (frames_of sh i) (frames_bounds (tti_of sh i) (ok.ranged.tti i l)).0).0

  pub strided : {f n e : ℕ} → f ≡ frames_of sh i → n ≡ size_of sh i → e ≡ encoded_of sh i → Strided f n e
  strided ef en ee =
      let b = frames_bounds (tti_of sh i) (ok.ranged.tti i l) in
      rw (ef, en, ee) (record { some = b.0; few = b.1; fits = content_fits })

  -- what is asked of the pattern: d by its sign and magnitude, and a start that is step 5's where there is a pattern
  pub sending : (frame : ℕ) (less : Bool) (m e : ℕ) {N W : ℕ} → signed_by less m ≡ change_of sh i → m ≤ most_bits → N ≡ size_of sh i → W ≡ share_of sh i
      → (0 < size_of sh i → 0 < m → e ≡ start_at sh frame i) → Segment less m N W e
  sending frame less m e ed em en ew h =
      let r = rates sh ok frame i in
      rw (en, ew)
      (record {
        few = sizes_most sh ok i l;
        most = em;
        rates =
            record {
              change = ed ∙ r.change;
              empty = r.empty;
              start =
                  λ a b.
                  let p : 0 < m = rw (magnitude less m) at b in
                  let q : 0 < nat_abs (change_of sh i) = rw ed at b in
                  rw (h a p) (r.start a q);
            };
      })

  -- the segment where it stands among the channel's contents, by the numbers that the code works out
  segment_read : (frame : ℕ) (c : List ℕ) → length c ≡ encoded_of sh i → {p f n : ℕ} → p ≡ column_at (tti_of sh i) (frame % frames_of sh i) → f ≡ frames_of sh i
      → n ≡ size_of sh i → every 0 p f n c ≡ part_of sh frame i (equalised 0 (tti_of sh i) (size_of sh i) c)
  unfolding every
  segment_read frame c ec ep ef en =
      rw (ep, ef, en)
      (sym
      (segment-every 0 (tti_of sh i) (size_of sh i) (frame % frames_of sh i) c (ok.ranged.tti i l) (turn_inside sh ok frame i l)
      (omega (arith, content_fits))))

  -- what comes out is what the channel sends
  pub sent_is : (frame : ℕ) (w : Walk) → Walks sh frame i w → (c : List ℕ) → length c ≡ encoded_of sh i → {p f : ℕ} {out : List ℕ}
      → p ≡ column_at (tti_of sh i) (frame % frames_of sh i) → f ≡ frames_of sh i
      → out ≡ matched as_is (signed_by w.d.less w.d.size) w.n w.e (every 0 p f w.n c)
      → out ≡ sent_of as_is sh frame i (equalised 0 (tti_of sh i) (size_of sh i) c)
  sent_is frame w k c ec {p} {f} ep ef eo =
      let t = equalised 0 (tti_of sh i) (size_of sh i) c in
      let full = equalised-length 0 (tti_of sh i) (size_of sh i) c (omega (arith, content_fits)) in
      eo
      ∙ ap₂ (λ (d : ℤ) (xs : List ℕ). matched as_is d w.n w.e xs) k.change (segment_read frame c ec ep ef k.size)
      ∙ ap (λ (n : ℕ). matched as_is (change_of sh i) n w.e (part_of sh frame i t)) k.size
      ∙ matched-start as_is (change_of sh i) (size_of sh i) w.e (start_at sh frame i) (part_of sh frame i t) (length_part as_is sh ok frame i t l full)
      (λ a b. k.start a (let p : 0 < nat_abs (signed_by w.d.less w.d.size) = rw k.change b in rw (magnitude w.d.less w.d.size) at p))
      ∙ sym (sent_matched as_is sh ok frame i t)

  -- the start that the code works out is step 5's where there is a pattern
  pub started : (frame : ℕ) (less : Bool) (m : ℕ) {e N : ℕ} → N ≡ size_of sh i → signed_by less m ≡ change_of sh i
      → (0 < N → 0 < m → e ≡ start_of N (signed_by less m) (tti_of sh i) frame) → 0 < size_of sh i → 0 < m → e ≡ start_at sh frame i
  unfolding start_at
  started frame less m en ed h a p =
      h (omega arith) p ∙ ap₂ (λ (n : ℕ) (d : ℤ). start_of n d (tti_of sh i) frame) en ed

-- a walk fits a segment of N and its share
pub fits_by : (sh : Sheet) (number i : ℕ) (w : Walk) → Walks sh number i w → {n v : ℕ} → n ≡ size_of sh i → v ≡ share_of sh i
    → Segment w.d.less w.d.size n v w.e
fits_by sh number i w k p q = rw (p ∙ sym k.size, q) k.fits

-- channel after channel: the part of the contents, and the part of the multiplexed frame
module _ (o : Opened) (i : ℕ) (l : i < o.fields.channels) where
  abbrev sh : Sheet
  sh = o.fields

  pub content_within : {from k : ℕ} → from ≡ sum_to (encoded_of sh) i → k ≡ encoded_of sh i → from + k ≤ encoded_all sh
  content_within p q = omega (arith, sum-within (encoded_of sh) i sh.channels l)

  pub content_part : (c : List ℕ) {from k : ℕ} → from ≡ sum_to (encoded_of sh) i → k ≡ encoded_of sh i → length c ≡ encoded_all sh
      → (take (from + k - from) (drop from c) ≡ contents_of sh c i) × (length (take (from + k - from) (drop from c)) ≡ encoded_of sh i)
  unfolding contents_of
  content_part c {from} {k} p q n =
      let e : from + k - from ≡ encoded_of sh i = omega arith in (
        ap₂ (λ (x y : ℕ). take x (drop y c)) e p,
        part_length c from (from + k) (omega arith) (omega (arith, content_within p q)) ∙ e,
      )

  pub cut_share : get_or o.cuts (i + 1) 0 - get_or o.cuts i 0 ≡ share_of sh i
  cut_share = ap₂ ◌-◌ (high_is o i l) (low-is o i l)

  pub cut_within : get_or o.cuts (i + 1) 0 ≤ capacity_all sh
  cut_within =
      omega (arith, high_is o i l, cut_most (capacity_all sh) (weight_of sh) sh.channels (weighs sh o.accepted) (i + 1) (omega arith))

  -- one channel more is laid
  pub sent_more : (g : ℕ → List ℕ) (was out : List ℕ) {y : List ℕ} {a z : ℕ} → a ≡ get_or o.cuts i 0 → z ≡ get_or o.cuts (i + 1) 0
      → Laid was out (cut_of sh i) (joined g i) → length y ≡ z - a → y ≡ g i → Laid was (put_mid a (z - a) out y) (cut_of sh (i + 1)) (joined g (i + 1))
  sent_more g was out {y} {a} {z} ea ez w n q =
      let v = subst (λ (k : ℕ). Laid was out k (joined g i)) (sym (ea ∙ low-is o i l)) w in
      let rises : a ≤ z = omega (arith, cut_rises o i l) in
      subst (λ (k : ℕ). Laid was (put_mid a (z - a) out y) k (joined g (i + 1))) (ez ∙ high_is o i l) (laid-joined g was out _ _ i v rises n q)

-- nothing is laid before the first channel
pub sent_none : {A : Type 0} (sh : Sheet) → Accepted sh → (xs : List A) → Laid xs xs (cut_of sh 0) []
sent_none sh ok xs =
    let e : cut_of sh 0 ≡ 0 = cut_first (capacity_all sh) (weight_of sh) sh.channels (weighs sh ok) in
    record { end = e; text = ap (λ (k : ℕ). drop k xs) (sym e) }
