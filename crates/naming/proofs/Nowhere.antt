-- S6, second half: a bit of a frame's segment is named nowhere exactly when step 6 drops it. And the labels of a frame are pairwise different,
-- and every frame is the frame of labels with each label replaced by what it names.
use mathlib.Core.Path.{◌≡◌, sym, ap, ◌∙◌, subst}
use mathlib.Core.Logic.{◌↔◌}
use mathlib.Core.List.{List, map}
use Prim.Native.Nat.{ℕ, suc, ◌+◌, ◌-◌, ◌<◌}
use native.Mathlib.Omega.{arith}
use lib.ListN.{length, get_or, length-map, get_or-map}
use lib.Seq.{ext_get_or}
use Rattle.laws.proofs.TestLaws.{split}
use Rattle.laws.proofs.LeastLaws.{passes_one}
use Rattle.sheet.specs.Sizes.{size_of, equalised_of, capacity_all}
use Rattle.sheet.specs.Range.{Accepted}
use Rattle.sheet.specs.declared.Sheet.{Sheet}
use Rattle.matching.specs.Shares.{weight_of, cut_of, share_of, change_of, channel_of}
use Rattle.matching.proofs.ShareLaws.{cuts_rise, cut_most, channel_passes}
use Rattle.pattern.specs.Pattern.{copies_of}
use Rattle.pattern.specs.Closed.{sent_before, Dropped}
use Rattle.pattern.proofs.MatchedLaws.{none_sent}
use Rattle.pattern.proofs.SourceLaws.{source_kept, Kept, kept}
use Rattle.opening.proofs.OpenLaws.{weighs}
use Rattle.frame.specs.Frame.{start_at, frame_of}
use Rattle.frame.proofs.FrameLaws.{rates, cut_next, length-frame}
use Rattle.naming.specs.Name.{Name, copy_named, labels, label_frame, index_of, multiplexed_at, bit_number, name_at, name_of, bit_name, NamedBy}
use Rattle.naming.proofs.Multiplexed.{lies}
use Rattle.naming.proofs.Slots.{index_below}
use Rattle.naming.proofs.Named.{stands, labels_full, names}
use Rattle.naming.proofs.Apart.{bits-apart, segment_bit, segment_copy, spot_of, apart}
use Rattle.naming.proofs.Places.{place_onto, index_onto}

module _ (sh : Sheet) (ok : Accepted sh) (frame i m : ℕ) (l : i < sh.channels) (h : m < size_of sh i) where
  -- how many copies of the bit step 6 sends
  abbrev sent : ℕ
  sent = copies_of (change_of sh i) (size_of sh i) (start_at sh frame i) m

  module _ (j : ℕ) (hj : j < sent) where
    abbrev spot : ℕ
    spot = spot_of sh frame i m j

    here : Kept (change_of sh i) (size_of sh i) (share_of sh i) (start_at sh frame i) m j
    here = kept (change_of sh i) (size_of sh i) (share_of sh i) (start_at sh frame i) m j (rates sh ok frame i) h hj

    spot_below : spot < capacity_all sh
    spot_below =
        omega (
          arith,
          here.within,
          cut_next sh ok i,
          cut_most (capacity_all sh) (weight_of sh) sh.channels (weighs sh ok) (suc i) l,
        )

    spot_channel : channel_of sh spot ≡ i
    spot_channel =
        passes_one (cut_of sh) spot sh.channels (channel_of sh spot) i (cuts_rise (capacity_all sh) (weight_of sh) sh.channels (weighs sh ok)) (channel_passes sh spot (weighs sh ok) spot_below) l (omega arith)
        (omega (arith, here.within, cut_next sh ok i))

    spot_name : name_at sh frame spot ≡ bit_name sh frame i m j
    unfolding name_at bit_name
    spot_name =
        let q : spot - cut_of sh i ≡ sent_before (change_of sh i) (size_of sh i) (start_at sh frame i) m + j = omega arith in
        rw (spot_channel, q, here.source, here.copy)

    -- a copy that is sent is named somewhere
    somewhere : NamedBy sh frame i m j
    unfolding name_of
    somewhere =
        let p = place_onto sh spot spot_below in
        record { subframe = p.subframe; slot = p.slot; phch = p.phch; place = p.place; there = p.there; named = ap (name_at sh frame) p.index ∙ spot_name }

  -- what is named somewhere is a copy that is sent
  is_sent : (j : ℕ) → NamedBy sh frame i m j → j < sent
  unfolding name_of name_at bit_name
  is_sent j w =
      let x = multiplexed_at sh w.subframe w.slot w.phch w.place in
      let p = lies sh ok x (index_below sh w.subframe w.slot w.phch w.place w.there) in
      let c = channel_of sh x in
      let v = x - cut_of sh c in
      let e : c ≡ i = omega (arith, ap (λ (n : Name). n.channel) w.named) in
      let b : bit_number sh frame c (segment_bit sh frame x) ≡ bit_number sh frame i m = omega (arith, ap (λ (n : Name). n.bit) w.named) in
      let q : segment_bit sh frame x ≡ m =
      bits-apart sh ok frame c (segment_bit sh frame x) m p.channel (b ∙ ap (λ (k : ℕ). bit_number sh frame k m) (sym e)) in
      let y : segment_copy sh frame x ≡ j = ap (λ (n : Name). n.copy) w.named in
      subst (λ (t : ℕ). j < copies_of (change_of sh t) (size_of sh t) (start_at sh frame t) m) e
      (subst (λ (n : ℕ). j < copies_of (change_of sh c) (size_of sh c) (start_at sh frame c) n) q
      (subst (λ (n : ℕ). n < copies_of (change_of sh c) (size_of sh c) (start_at sh frame c) (segment_bit sh frame x)) y
      (source_kept (change_of sh c) (size_of sh c) (share_of sh c) (start_at sh frame c) v (rates sh ok frame c) p.share)))

  -- copies 0, 1, .. of a bit name places: as many as step 6 sends
  pub named_iff : (j : ℕ) → NamedBy sh frame i m j ↔ (j < copies_of (change_of sh i) (size_of sh i) (start_at sh frame i) m)
  named_iff j = (is_sent j, somewhere j)

  -- S6: a bit of a segment is named nowhere exactly when step 6 drops it
  pub nowhere : ((j : ℕ) → NamedBy sh frame i m j → ⊥) ↔ Dropped (change_of sh i) (size_of sh i) (start_at sh frame i) m
  nowhere =
      let z = none_sent (change_of sh i) (size_of sh i) (share_of sh i) (start_at sh frame i) m (rates sh ok frame i) in
      (λ n. z.0 (split 1 sent (λ le. absurd (n 0 (somewhere 0 le))) (λ lt. omega arith)), λ d j w. omega (arith, z.1 d, is_sent j w))

-- ---- the whole frame

module _ (sh : Sheet) (ok : Accepted sh) (frame : ℕ) where
  -- the labels of a frame are pairwise different
  pub labels_apart : (x y : ℕ) (d : Name) → x < capacity_all sh → y < capacity_all sh
      → get_or (label_frame sh frame) x d ≡ get_or (label_frame sh frame) y d → x ≡ y
  labels_apart x y d h k e =
      let a = index_onto sh x h in
      let b = index_onto sh y k in
      let n = names sh ok frame a.subframe a.slot a.phch a.place a.there d in
      let m = names sh ok frame b.subframe b.slot b.phch b.place b.there d in
      let e' : name_of sh frame a.subframe a.slot a.phch a.place ≡ name_of sh frame b.subframe b.slot b.phch b.place =
      sym n
      ∙ ap (λ (i : ℕ). get_or (label_frame sh frame) i d) a.index
      ∙ e
      ∙ ap (λ (i : ℕ). get_or (label_frame sh frame) i d) (sym b.index)
      ∙ m in
      let w = apart sh ok frame a.subframe a.slot a.phch a.place b.subframe b.slot b.phch b.place a.there b.there e' in
      sym a.index
      ∙ ap (λ (h : ℕ). index_of sh h a.slot a.phch a.place) w.0
      ∙ ap (λ (s : ℕ). index_of sh b.subframe s a.phch a.place) w.1
      ∙ ap (λ (p : ℕ). index_of sh b.subframe b.slot p a.place) w.2
      ∙ ap (index_of sh b.subframe b.slot b.phch) w.3
      ∙ b.index

  -- every frame is the frame of labels, with each label replaced by what it names
  pub carried : {A B : Type 0} (f : A → ℕ → B) (ts : ℕ → List A) → ((i : ℕ) → i < sh.channels → length (ts i) ≡ equalised_of sh i) → (z : A)
      → frame_of f sh frame ts ≡ map (λ (n : Name). f (get_or (ts (n.channel - 1)) (n.bit - 1) z) n.copy) (label_frame sh frame)
  unfolding label_frame
  carried {A} {B} f ts full z =
      let v : Name → B = λ n. f (get_or (ts (n.channel - 1)) (n.bit - 1) z) n.copy in
      let o : Name = record { channel = 0; bit = 0; copy = 0 } in
      let len = length-frame f sh ok frame ts full in
      ext_get_or (v o) (frame_of f sh frame ts) (map v (label_frame sh frame))
      (len ∙ sym (length-map (label_frame sh frame) v ∙ length-frame copy_named sh ok frame (labels sh) (labels_full sh)))
      (λ x h.
      let a = index_onto sh x (omega arith) in
      ap (λ (i : ℕ). get_or (frame_of f sh frame ts) i (v o)) (sym a.index)
      ∙ stands sh ok frame a.subframe a.slot a.phch a.place a.there f ts full (v o) z
      ∙ ap v (sym (names sh ok frame a.subframe a.slot a.phch a.place a.there o))
      ∙ sym (get_or-map v (label_frame sh frame) (index_of sh a.subframe a.slot a.phch a.place) o)
      ∙ ap (λ (i : ℕ). get_or (map v (label_frame sh frame)) i (v o)) a.index)
