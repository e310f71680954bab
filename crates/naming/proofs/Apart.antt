-- S6, first half: two places of a frame that have one name are one place.
use mathlib.Core.Path.{◌≡◌, sym, ap, ◌∙◌}
use mathlib.Core.Bool.{Bool, true, false}
use Prim.Native.Nat.{ℕ, ◌+◌, ◌*◌, ◌-◌, ◌≤◌, ◌<◌}
use native.Mathlib.Omega.{arith}
use lib.Dec.{eqb}
use Rattle.laws.proofs.SumLaws.{parts_apart}
use Rattle.laws.proofs.FallLaws.{digits_apart, sum-times, rows_apart}
use Rattle.sheet.specs.Fields.{tti_of, phchs_of, capacity_of}
use Rattle.sheet.specs.Sizes.{frames_of, size_of, slot_capacity, subframes_of, capacity_all}
use Rattle.sheet.specs.Range.{Accepted}
use Rattle.sheet.specs.declared.Sheet.{Sheet}
use Rattle.orders.proofs.OrderLaws.{frames_bounds}
use Rattle.matching.specs.Shares.{cut_of, share_of, change_of, channel_of}
use Rattle.pattern.specs.Closed.{sent_before, source_of, copy_of}
use Rattle.pattern.proofs.SourceLaws.{source_passes}
use Rattle.interleaving.specs.Second as Second
use Rattle.interleaving.proofs.SecondLaws.{source_below, place_source}
use Rattle.mapping.specs.Mapping.{pos_of, filled_as}
use Rattle.mapping.proofs.PlaceLaws.{filled_in, pos_filled}
use Rattle.mapping.proofs.TurnLaws.{number-apart}
use Rattle.frame.specs.Frame.{start_at, runs_of, slot_start, subframe_start}
use Rattle.frame.proofs.FrameLaws.{rates}
use Rattle.frame.proofs.TurnLaws.{runs-some}
use Rattle.naming.specs.Name.{Name, slot_bit_at, read_from, multiplexed_at, bit_number, name_at, name_of, Exists}
use Rattle.naming.proofs.Multiplexed.{lies}
use Rattle.naming.proofs.Slots.{read_by, bit-inside, bit-shared, subframe_in, slot_in, phch_in, number_in, index_below}

-- ---- steps 2 to 7: a name determines the index

-- a bit's number before step 2 determines the segment's bit
pub bits-apart : (sh : Sheet) → Accepted sh → (frame i m n : ℕ) → i < sh.channels → bit_number sh frame i m ≡ bit_number sh frame i n → m ≡ n
unfolding bit_number
bits-apart sh ok frame i m n l e =
    let h = (frames_bounds (tti_of sh i) (ok.ranged.tti i l)).0 in
    (digits_apart (frames_of sh i) m 0 n 0 h h (omega arith)).0

-- the segment's bit that stands at index x, and its copy
abbrev pub segment_bit : Sheet → ℕ → ℕ → ℕ
segment_bit sh frame x =
    let i = channel_of sh x in
    source_of (change_of sh i) (size_of sh i) (start_at sh frame i) (x - cut_of sh i)

abbrev pub segment_copy : Sheet → ℕ → ℕ → ℕ
segment_copy sh frame x =
    let i = channel_of sh x in
    copy_of (change_of sh i) (size_of sh i) (start_at sh frame i) (x - cut_of sh i)

-- where copy j of bit m of channel i's segment stands
abbrev pub spot_of : Sheet → ℕ → ℕ → ℕ → ℕ → ℕ
spot_of sh frame i m j = cut_of sh i + (sent_before (change_of sh i) (size_of sh i) (start_at sh frame i) m + j)

module _ (sh : Sheet) (ok : Accepted sh) (frame : ℕ) where
  spot_back : (x : ℕ) → x < capacity_all sh → x ≡ spot_of sh frame (channel_of sh x) (segment_bit sh frame x) (segment_copy sh frame x)
  unfolding copy_of
  spot_back x h =
      let p = lies sh ok x h in
      let i = channel_of sh x in
      let s = source_passes (change_of sh i) (size_of sh i) (share_of sh i) (start_at sh frame i) (x - cut_of sh i) (rates sh ok frame i) p.share in
      omega (arith, p.from, s.low)

  pub index-apart : (x y : ℕ) → x < capacity_all sh → y < capacity_all sh → name_at sh frame x ≡ name_at sh frame y → x ≡ y
  unfolding name_at
  index-apart x y h k e =
      let c : channel_of sh x ≡ channel_of sh y = omega (arith, ap (λ (n : Name). n.channel) e) in
      let b : bit_number sh frame (channel_of sh x) (segment_bit sh frame x) ≡ bit_number sh frame (channel_of sh y) (segment_bit sh frame y) =
      omega (arith, ap (λ (n : Name). n.bit) e) in
      let m : segment_bit sh frame x ≡ segment_bit sh frame y =
      bits-apart sh ok frame (channel_of sh x) (segment_bit sh frame x) (segment_bit sh frame y) (lies sh ok x h).channel
      (b ∙ ap (λ (i : ℕ). bit_number sh frame i (segment_bit sh frame y)) (sym c)) in
      let j : segment_copy sh frame x ≡ segment_copy sh frame y = ap (λ (n : Name). n.copy) e in
      spot_back x h
      ∙ ap (λ (n : ℕ). spot_of sh frame n (segment_bit sh frame x) (segment_copy sh frame x)) c
      ∙ ap (λ (n : ℕ). spot_of sh frame (channel_of sh y) n (segment_copy sh frame x)) m
      ∙ ap (λ (n : ℕ). spot_of sh frame (channel_of sh y) (segment_bit sh frame y) n) j
      ∙ sym (spot_back y k)

-- ---- step 8

source_apart : (K i j : ℕ) → i < K → j < K → Second.comes_from K i ≡ Second.comes_from K j → i ≡ j
source_apart K i j h k e = sym (place_source K i h) ∙ ap (Second.goes_to K) e ∙ place_source K j k

module _ (sh : Sheet) (g h s t a b : ℕ) (lg : g < subframes_of sh) (lh : h < subframes_of sh) (ls : s < sh.slots) (lt : t < sh.slots)
    (la : a < slot_capacity sh s) (lb : b < slot_capacity sh t) where
  read_apart : read_from sh g s a ≡ read_from sh h t b → (g ≡ h) × (s ≡ t) × (a ≡ b)
  unfolding read_from
  read_apart = by (eqb sh.mode 0)
    where
      by : (m : Bool) → read_by sh m g s a ≡ read_by sh m h t b → (g ≡ h) × (s ≡ t) × (a ≡ b)
      by true e =
          rows_apart (slot_capacity sh) sh.slots g s a h t b ls la lt lb
          (source_apart (capacity_all sh) (subframe_start sh g + (slot_start sh s + a)) (subframe_start sh h + (slot_start sh t + b)) (bit-inside sh g s a lg ls la)
          (bit-inside sh h t b lh lt lb) e)
      by false e =
          let K = subframes_of sh in
          let C = slot_capacity sh in
          let u = bit-shared sh g s a lg ls la in
          let v = bit-shared sh h t b lh lt lb in
          let w =
          parts_apart (λ i. K * C i) s t (Second.comes_from (K * C s) (g * C s + a)) (Second.comes_from (K * C t) (h * C t + b)) (source_below (K * C s) (g * C s + a) u)
          (source_below (K * C t) (h * C t + b) v)
          (omega (arith, sum-times K C s, sum-times K C t)) in
          let q : C t ≡ C s = ap C (sym w.0) in
          let n : K * C t ≡ K * C s = ap (λ (c : ℕ). K * c) q in
          let k : h * C t + b < K * C s = omega arith in
          let x : g * C s + a ≡ h * C t + b = source_apart (K * C s) (g * C s + a) (h * C t + b) u k (w.1 ∙ ap (λ (n : ℕ). Second.comes_from (K * n) (h * C t + b)) q) in
          let d = digits_apart (C s) g a h b la (omega arith) (x ∙ ap (λ (n : ℕ). h * n + b) q) in
          (d.0, w.0, d.1)

-- ---- step 9

module _ (sh : Sheet) (t p i q j : ℕ) (hp : p < phchs_of sh t) (i-from : 0 < i) (i-to : i ≤ capacity_of sh t p) (hq : q < phchs_of sh t) (j-from : 0 < j)
    (j-to : j ≤ capacity_of sh t q) where
  places-apart : slot_bit_at sh t p i ≡ slot_bit_at sh t q j → (p ≡ q) × (i ≡ j)
  unfolding slot_bit_at
  places-apart e =
      let U = capacity_of sh t in
      let x = filled_as (U p) (p + 1) i in
      let y = filled_as (U q) (q + 1) j in
      let w =
      number-apart U (runs_of sh t) (phchs_of sh t) (λ r l. runs-some sh t r) p x q y hp (filled_in (U p) (p + 1) i i-from i-to) hq
      (filled_in (U q) (q + 1) j j-from j-to) e in (
        w.0,
        sym (pos_filled (U p) (p + 1) i i-from i-to)
            ∙ ap (pos_of (U p) (p + 1)) w.1
            ∙ ap (λ (r : ℕ). pos_of (U r) (r + 1) y) w.0
            ∙ pos_filled (U q) (q + 1) j j-from j-to,
      )

-- S6: places with one name are one place
module _ (sh : Sheet) (ok : Accepted sh) (frame g s p i h t q j : ℕ) (a : Exists sh g s p i) (b : Exists sh h t q j) where
  pub apart : name_of sh frame g s p i ≡ name_of sh frame h t q j → (g ≡ h) × (s ≡ t) × (p ≡ q) × (i ≡ j)
  unfolding name_of multiplexed_at
  apart e =
      let x : multiplexed_at sh g s p i ≡ multiplexed_at sh h t q j =
      index-apart sh ok frame (multiplexed_at sh g s p i) (multiplexed_at sh h t q j) (index_below sh g s p i a) (index_below sh h t q j b) e in
      let w =
      read_apart sh (g - 1) (h - 1) (s - 1) (t - 1) (slot_bit_at sh (s - 1) (p - 1) i) (slot_bit_at sh (t - 1) (q - 1) j) (subframe_in sh g s p i a) (subframe_in sh h t q j b) (slot_in sh g s p i a) (slot_in sh h t q j b)
      (number_in sh g s p i a) (number_in sh h t q j b) x in
      let gh : g ≡ h = omega (arith, w.0, a.subframe-from, b.subframe-from) in
      let st : s ≡ t = omega (arith, w.1, a.slot-from, b.slot-from) in
      let b' : Exists sh h s q j = rw st b in
      let n : slot_bit_at sh (s - 1) (p - 1) i ≡ slot_bit_at sh (s - 1) (q - 1) j =
      w.2 ∙ ap (λ (r : ℕ). slot_bit_at sh r (q - 1) j) (sym w.1) in
      let v =
      places-apart sh (s - 1) (p - 1) i (q - 1) j (phch_in sh g s p i a) a.place-from a.place-to (phch_in sh h s q j b') b'.place-from
      b'.place-to n in
      (gh, st, omega (arith, v.0, a.phch-from, b.phch-from), v.1)
