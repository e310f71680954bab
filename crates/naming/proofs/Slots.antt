-- Steps 8 and 9: which index of the multiplexed frame stands at a place of the frame.
use mathlib.Core.Path.{◌≡◌, sym, ap, ap₂, ◌∙◌}
use mathlib.Core.Bool.{Bool, true, false, cond}
use mathlib.Core.List.{List}
use Prim.Native.Nat.{ℕ, suc, min, ◌+◌, ◌*◌, ◌-◌, ◌/◌, ◌≤◌, ◌<◌}
use native.Mathlib.Omega.{arith}
use lib.Dec.{eqb}
use lib.ListN.{length, get_or, drop}
use lib.Seq.{get_or-take, get_or-drop}
use Rattle.laws.specs.Sums.{sum_to}
use Rattle.laws.proofs.SumLaws.{sum_same, sum-within}
use Rattle.laws.proofs.RowLaws.{rows_at}
use Rattle.sheet.specs.Fields.{phchs_of, capacity_of}
use Rattle.sheet.specs.Sizes.{slot_capacity, subframes_of, capacity_all}
use Rattle.sheet.specs.Range.{Accepted}
use Rattle.sheet.specs.declared.Sheet.{Sheet}
use Rattle.interleaving.specs.Second.{second_interleaved, comes_from}
use Rattle.interleaving.proofs.SecondLaws.{source_below, second_at}
use Rattle.mapping.specs.Mapping.{after_turns, number_of, filled_as, at}
use Rattle.mapping.proofs.PlaceLaws.{filled_in}
use Rattle.mapping.proofs.TurnLaws.{place_gets}
use Rattle.mapping.proofs.MappedLaws.{mapped-place}
use Rattle.frame.specs.Frame.{caps_of, runs_of, slot_start, subframe_start, slot_part, slot_share, share_part, slot_bits, slot_mapped, spread}
use Rattle.frame.proofs.FrameLaws.{caps-at, caps-length, caps-size, slot-room, share_room, share_part-room, length_share, length-slot-bits, length-slot}
use Rattle.frame.proofs.TurnLaws.{runs-some}
use Rattle.naming.specs.Name.{index_of, slot_bit_at, read_from, multiplexed_at, Exists}

-- ---- step 8: the slot's bit k

module _ {A : Type 0} (sh : Sheet) (t : ℕ) (xs : List A) (d : A) where
  slot-part-at : (h k : ℕ) → k < slot_capacity sh t → get_or (slot_part sh h t xs) k d ≡ get_or xs (subframe_start sh h + (slot_start sh t + k)) d
  unfolding slot_part
  slot-part-at h k b =
      let e : subframe_start sh h + slot_start sh t + k ≡ subframe_start sh h + (slot_start sh t + k) = omega arith in
      get_or-take (slot_capacity sh t) (drop (subframe_start sh h + slot_start sh t) xs) k d b
      ∙ get_or-drop (subframe_start sh h + slot_start sh t) xs k d
      ∙ ap (λ (i : ℕ). get_or xs i d) e

  share_at : (k : ℕ) → k < subframes_of sh * slot_capacity sh t → get_or (slot_share sh t xs) k d ≡ get_or xs (subframes_of sh * slot_start sh t + k) d
  unfolding slot_share
  share_at k b =
      get_or-take (subframes_of sh * slot_capacity sh t) (drop (subframes_of sh * slot_start sh t) xs) k d b ∙ get_or-drop (subframes_of sh * slot_start sh t) xs k d

  share_part-at : (h k : ℕ) → k < slot_capacity sh t → get_or (share_part sh h t xs) k d ≡ get_or xs (h * slot_capacity sh t + k) d
  unfolding share_part
  share_part-at h k b = get_or-take (slot_capacity sh t) (drop (h * slot_capacity sh t) xs) k d b ∙ get_or-drop (h * slot_capacity sh t) xs k d

-- from where it is read, by the mode
abbrev pub read_by : Sheet → Bool → ℕ → ℕ → ℕ → ℕ
read_by sh m h t k =
    cond m (comes_from (capacity_all sh) (subframe_start sh h + (slot_start sh t + k)))
    (subframes_of sh * slot_start sh t + comes_from (subframes_of sh * slot_capacity sh t) (h * slot_capacity sh t + k))

module _ (sh : Sheet) (h t k : ℕ) (m : h < subframes_of sh) (l : t < sh.slots) (b : k < slot_capacity sh t) where
  -- it is one of the frame's, and one of its slot's share
  pub bit-inside : subframe_start sh h + (slot_start sh t + k) < capacity_all sh
  bit-inside = omega (arith, slot-room sh t l h m)

  pub bit-shared : h * slot_capacity sh t + k < subframes_of sh * slot_capacity sh t
  bit-shared = omega (arith, share_part-room sh t l h m)

  pub read_below : read_from sh h t k < capacity_all sh
  unfolding read_from
  read_below = by (eqb sh.mode 0)
    where
      by : (c : Bool) → read_by sh c h t k < capacity_all sh
      by true = source_below (capacity_all sh) (subframe_start sh h + (slot_start sh t + k)) bit-inside
      by false =
          omega (arith, source_below (subframes_of sh * slot_capacity sh t) (h * slot_capacity sh t + k) bit-shared, share_room sh t l)

  pub read_at : {A : Type 0} (xs : List A) (d : A) → length xs ≡ capacity_all sh → get_or (slot_bits sh xs h t) k d ≡ get_or xs (read_from sh h t k) d
  unfolding slot_bits read_from
  read_at {A} xs d full = by (eqb sh.mode 0)
    where
      by : (c : Bool) → get_or (cond c (slot_part sh h t (second_interleaved xs)) (share_part sh h t (second_interleaved (slot_share sh t xs)))) k d
          ≡ get_or xs (read_by sh c h t k) d
      by true =
          slot-part-at sh t (second_interleaved xs) d h k b
          ∙ second_at xs (subframe_start sh h + (slot_start sh t + k)) d (omega (arith, bit-inside))
          ∙ ap (λ (n : ℕ). get_or xs (comes_from n (subframe_start sh h + (slot_start sh t + k))) d) full
      by false =
          let n = length_share sh t l xs full in
          let K = subframes_of sh * slot_capacity sh t in
          let j = h * slot_capacity sh t + k in
          share_part-at sh t (second_interleaved (slot_share sh t xs)) d h k b
          ∙ second_at (slot_share sh t xs) j d (omega (arith, bit-shared))
          ∙ ap (λ (i : ℕ). get_or (slot_share sh t xs) (comes_from i j) d) n
          ∙ share_at sh t xs d (comes_from K j) (source_below K j bit-shared)

-- ---- step 9: the place

-- the number looks at the capacities of the slot alone
numbers-alike : (U W B : ℕ → ℕ) (P p x : ℕ) → ((q : ℕ) → q < P → U q ≡ W q) → p < P → number_of U B P p x ≡ number_of W B P p x
unfolding number_of
numbers-alike U W B P p x same h =
    ap₂ (λ (a b : ℕ). x + a + b)
    (sum_same (after_turns U B (suc (x / B p))) (after_turns W B (suc (x / B p))) p
    (λ q l. ap (λ (u : ℕ). min u (suc (x / B p) * B q)) (same q (omega arith))))
    (sum_same (λ i. after_turns U B (x / B p) (suc p + i)) (λ i. after_turns W B (x / B p) (suc p + i)) (P - suc p)
    (λ i l. ap (λ (u : ℕ). min u (x / B p * B (suc p + i))) (same (suc p + i) (omega arith))))

-- the slot's bit at a place, by the list of the slot's capacities
pub bit_by_caps : (sh : Sheet) → Accepted sh → (t : ℕ) → t < sh.slots → (p place : ℕ) → p < phchs_of sh t
    → number_of (at (caps_of sh t)) (runs_of sh t) (length (caps_of sh t)) p (filled_as (at (caps_of sh t) p) (p + 1) place) ≡ slot_bit_at sh t p place
unfolding slot_bit_at
bit_by_caps sh ok t l p place h =
    let caps = caps_of sh t in
    let B = runs_of sh t in
    let x = filled_as (capacity_of sh t p) (p + 1) place in
    ap (λ (i : ℕ). number_of (at caps) B (length caps) p (filled_as i (p + 1) place)) (caps-at sh t p h)
    ∙ ap (λ (i : ℕ). number_of (at caps) B i p x) (caps-length sh ok t l)
    ∙ numbers-alike (at caps) (capacity_of sh t) B (phchs_of sh t) p x (caps-at sh t) h

module _ (sh : Sheet) (t p place : ℕ) (h : p < phchs_of sh t) (from : 0 < place) (to : place ≤ capacity_of sh t p) where
  pub bit_below : slot_bit_at sh t p place < slot_capacity sh t
  unfolding slot_bit_at
  bit_below =
      (place_gets (capacity_of sh t) (runs_of sh t) (phchs_of sh t) (λ q b. runs-some sh t q) p (filled_as (capacity_of sh t p) (p + 1) place) h
      (filled_in (capacity_of sh t p) (p + 1) place from to)).0

  -- the place is one of the slot's
  pub place-below : sum_to (capacity_of sh t) p + (place - 1) < slot_capacity sh t
  place-below = omega (arith, sum-within (capacity_of sh t) p (phchs_of sh t) h)

  module _ {A : Type 0} (ok : Accepted sh) (s : ℕ) (m : s < subframes_of sh) (l : t < sh.slots) (xs : List A) (d : A)
      (full : length xs ≡ capacity_all sh) where
    slot_at : get_or (slot_mapped sh t (slot_bits sh xs s t)) (sum_to (capacity_of sh t) p + (place - 1)) d ≡ get_or (slot_bits sh xs s t) (slot_bit_at sh t p place) d
    slot_at =
        let caps = caps_of sh t in
        let bits = slot_bits sh xs s t in
        let n = caps-length sh ok t l in
        let m = length-slot-bits sh xs full s t m l ∙ sym (caps-size sh ok t l) in
        let u = caps-at sh t p h in
        let e = sum_same (at caps) (capacity_of sh t) p (λ q b. caps-at sh t q (omega arith)) in
        ap (λ (i : ℕ). get_or (slot_mapped sh t bits) (i + (place - 1)) d) (sym e)
        ∙ mapped-place (at caps) (runs_of sh t) (length caps) (λ q b. runs-some sh t q) d bits bits m m p place (omega arith) from (omega arith)
        ∙ ap (λ (i : ℕ). get_or bits i d) (bit_by_caps sh ok t l p place h)

    pub spread_at : get_or (spread sh xs) (subframe_start sh s + (slot_start sh t + (sum_to (capacity_of sh t) p + (place - 1)))) d
        ≡ get_or (slot_bits sh xs s t) (slot_bit_at sh t p place) d
    unfolding spread
    spread_at =
        rows_at (slot_capacity sh) (λ i j. slot_mapped sh j (slot_bits sh xs i j)) (subframes_of sh) sh.slots (length-slot sh xs full) s t m l
        (sum_to (capacity_of sh t) p + (place - 1)) d place-below
        ∙ slot_at

-- ---- a place that exists

module _ (sh : Sheet) (subframe slot phch place : ℕ) (there : Exists sh subframe slot phch place) where
  pub subframe_in : subframe - 1 < subframes_of sh
  subframe_in = omega (arith, there.subframe-from, there.subframe-to)

  pub slot_in : slot - 1 < sh.slots
  slot_in = omega (arith, there.slot-from, there.slot-to)

  pub phch_in : phch - 1 < phchs_of sh (slot - 1)
  phch_in = omega (arith, there.phch-from, there.phch-to)

  pub number_in : slot_bit_at sh (slot - 1) (phch - 1) place < slot_capacity sh (slot - 1)
  number_in = bit_below sh (slot - 1) (phch - 1) place phch_in there.place-from there.place-to

  pub index_below : multiplexed_at sh subframe slot phch place < capacity_all sh
  unfolding multiplexed_at
  index_below = read_below sh (subframe - 1) (slot - 1) (slot_bit_at sh (slot - 1) (phch - 1) place) subframe_in slot_in number_in

  pub placed_at : {A : Type 0} → Accepted sh → (xs : List A) (d : A) → length xs ≡ capacity_all sh
      → get_or (spread sh xs) (index_of sh subframe slot phch place) d ≡ get_or xs (multiplexed_at sh subframe slot phch place) d
  unfolding index_of multiplexed_at
  placed_at ok xs d full =
      spread_at sh (slot - 1) (phch - 1) place phch_in there.place-from there.place-to ok (subframe - 1) subframe_in slot_in xs d full
      ∙ read_at sh (subframe - 1) (slot - 1) (slot_bit_at sh (slot - 1) (phch - 1) place) subframe_in slot_in number_in xs d full
