-- Laws of the frame: what each channel sends, how long each part is and where it begins, and that the steps move whatever stands in the lists.
use mathlib.Core.Path.{◌≡◌, refl, sym, ap, ◌∙◌, subst}
use mathlib.Core.Bool.{Bool, true, false, cond}
use mathlib.Core.List.{List, map}
use Prim.Native.Nat.{ℕ, suc, ◌+◌, ◌*◌, ◌%◌, ◌≤◌, ◌<◌}
use native.Mathlib.Nat.{mod-lt, mul-add, mul-le-mul_left}
use native.Mathlib.Numerals.{add-one}
use native.Mathlib.Omega.{arith}
use lib.Dec.{eqb}
use lib.ListN.{length, get_or, drop, length-take, length-drop}
use lib.Seq.{get_or-take, get_or-drop}
use Rattle.laws.specs.Sums.{sum_to}
use Rattle.laws.proofs.SumLaws.{sum_same, sum-within}
use Rattle.laws.proofs.PartLaws.{take-map, drop-map}
use Rattle.laws.proofs.JoinedLaws.{Begins, length-joined, map-joined, joined_same}
use Rattle.laws.proofs.FallLaws.{part_ends}
use Rattle.laws.proofs.RowLaws.{row_room, length-rows, rows_same, map_rows}
use Rattle.sheet.specs.Counts.{most_codes}
use Rattle.sheet.specs.Fields.{tti_of, phchs_of, capacity_of}
use Rattle.sheet.specs.Sizes.{frames_of, size_of, equalised_of, slot_capacity, subframes_of, capacity_all}
use Rattle.sheet.specs.Range.{Accepted}
use Rattle.sheet.specs.declared.Sheet.{Sheet}
use Rattle.orders.specs.Orders.{column_at}
use Rattle.orders.proofs.OrderLaws.{frames_bounds}
use Rattle.matching.specs.Shares.{weight_of, cut_of, share_of, change_of}
use Rattle.matching.proofs.ShareLaws.{cut_first, cut_last, cut_up, empty_share}
use Rattle.offset.proofs.Whole.{start_in_lem}
use Rattle.pattern.specs.Pattern.{as_is, matched, Rates}
use Rattle.pattern.specs.Closed.{source_of, copy_of}
use Rattle.pattern.proofs.TextLaws.{matched-text}
use Rattle.pattern.proofs.MatchedLaws.{length-matched, matched-map, matched_of}
use Rattle.pattern.proofs.SourceLaws.{source_passes, matched-at}
use Rattle.interleaving.specs.First.{segment_of}
use Rattle.interleaving.specs.Second.{second_interleaved}
use Rattle.interleaving.proofs.FirstLaws.{segment-length, segment-at, segment-map}
use Rattle.interleaving.proofs.SecondLaws.{second-length, second-map}
use Rattle.mapping.specs.Mapping.{at, slot_size}
use Rattle.mapping.proofs.MappedLaws.{mapped-length, mapped-map}
use Rattle.opening.proofs.OpenLaws.{weighs}
use Rattle.frame.specs.Frame.{start_at, sent_of, multiplexed, caps_of, runs_of, slot_start, subframe_start, slot_part, slot_share, share_part, slot_bits, slot_mapped, spread, frame_of}

-- ---- steps 4 to 7

module _ (sh : Sheet) (ok : Accepted sh) where
  -- N bits of a channel become V, and the start is in 1 to 2N
  pub rates : (frame i : ℕ) → Rates (change_of sh i) (size_of sh i) (share_of sh i) (start_at sh frame i)
  unfolding start_at
  rates frame i =
      record {
        change = refl;
        empty = empty_share sh i (weighs sh ok);
        start = λ n k. let s = start_in_lem (size_of sh i) (change_of sh i) (tti_of sh i) frame n in (s.0, omega (arith, s.1));
      }

  -- Z_I = D, and Z_(i+1) = Z_i + V_(i+1)
  pub cuts_end : cut_of sh sh.channels ≡ capacity_all sh
  cuts_end = cut_last (capacity_all sh) (weight_of sh) sh.channels (weighs sh ok)

  pub cut_next : (i : ℕ) → cut_of sh (suc i) ≡ cut_of sh i + share_of sh i
  cut_next i =
      let u = cut_up (capacity_all sh) (weight_of sh) sh.channels (weighs sh ok) i in
      ap (cut_of sh) (sym (add-one i)) ∙ omega arith

  -- the frame's number within a TTI
  pub turn_inside : (frame i : ℕ) → i < sh.channels → frame % frames_of sh i < frames_of sh i
  turn_inside frame i l = mod-lt frame (frames_bounds (tti_of sh i) (ok.ranged.tti i l)).0

-- the segment that a channel has for a frame
abbrev pub part_of : {A : Type 0} → Sheet → ℕ → ℕ → List A → List A
part_of sh frame i t = segment_of (tti_of sh i) (frame % frames_of sh i) (size_of sh i) t

module _ {A B : Type 0} (f : A → ℕ → B) (sh : Sheet) (ok : Accepted sh) (frame i : ℕ) (t : List A) where
  abbrev part : List A
  part = part_of sh frame i t

  -- step 6 of the segment, over natural numbers
  pub sent_matched : sent_of f sh frame i t ≡ matched f (change_of sh i) (size_of sh i) (start_at sh frame i) part
  unfolding sent_of
  sent_matched = matched-text f (change_of sh i) (size_of sh i) (share_of sh i) (start_at sh frame i) part (rates sh ok frame i)

  module _ (l : i < sh.channels) (full : length t ≡ equalised_of sh i) where
    pub length_part : length part ≡ size_of sh i
    length_part =
        segment-length (tti_of sh i) (ok.ranged.tti i l) (size_of sh i) t full (frame % frames_of sh i) (turn_inside sh ok frame i l)

    part-rates : Rates (change_of sh i) (length part) (share_of sh i) (start_at sh frame i)
    part-rates = subst (λ (n : ℕ). Rates (change_of sh i) n (share_of sh i) (start_at sh frame i)) (sym length_part) (rates sh ok frame i)

    -- a channel sends V elements
    pub length_sent : length (sent_of f sh frame i t) ≡ share_of sh i
    length_sent =
        ap length sent_matched
        ∙ subst (λ (n : ℕ). length (matched f (change_of sh i) n (start_at sh frame i) part) ≡ share_of sh i) length_part
        (length-matched f (change_of sh i) (share_of sh i) (start_at sh frame i) part part-rates)

    -- at v it sends a copy of the segment's bit that stands there, which is in row m of column P(n) before step 2
    pub sent_at : (v : ℕ) (b : B) (z : A) → v < share_of sh i
        → get_or (sent_of f sh frame i t) v b
        ≡ f
        (get_or t
        (source_of (change_of sh i) (size_of sh i) (start_at sh frame i) v * frames_of sh i + column_at (tti_of sh i) (frame % frames_of sh i))
        z)
        (copy_of (change_of sh i) (size_of sh i) (start_at sh frame i) v)
    sent_at v b z h =
        ap (λ (l : List B). get_or l v b) sent_matched
        ∙ subst
        (λ (n : ℕ).
        get_or (matched f (change_of sh i) n (start_at sh frame i) part) v b
        ≡ f (get_or part (source_of (change_of sh i) n (start_at sh frame i) v) z) (copy_of (change_of sh i) n (start_at sh frame i) v))
        length_part
        (matched-at f (change_of sh i) (share_of sh i) (start_at sh frame i) v part b z part-rates h)
        ∙ ap (λ (y : A). f y (copy_of (change_of sh i) (size_of sh i) (start_at sh frame i) v))
        (segment-at (tti_of sh i) (ok.ranged.tti i l) (size_of sh i) t full (frame % frames_of sh i) (turn_inside sh ok frame i l)
        (source_of (change_of sh i) (size_of sh i) (start_at sh frame i) v) z
        (source_passes (change_of sh i) (size_of sh i) (share_of sh i) (start_at sh frame i) v (rates sh ok frame i) h).below)

module _ {A B : Type 0} (f : A → ℕ → B) (sh : Sheet) (ok : Accepted sh) (frame : ℕ) (ts : ℕ → List A)
    (full : (i : ℕ) → i < sh.channels → length (ts i) ≡ equalised_of sh i) where
  -- channel i begins at Z_i
  pub channels_begin : Begins (λ i. sent_of f sh frame i (ts i)) (cut_of sh) sh.channels
  channels_begin =
      record {
        first = cut_first (capacity_all sh) (weight_of sh) sh.channels (weighs sh ok);
        next = λ i l. cut_next sh ok i ∙ ap (λ (n : ℕ). cut_of sh i + n) (sym (length_sent f sh ok frame i (ts i) l (full i l)));
      }

  pub length-multiplexed : length (multiplexed f sh frame ts) ≡ capacity_all sh
  unfolding multiplexed
  length-multiplexed = length-joined (λ i. sent_of f sh frame i (ts i)) (cut_of sh) sh.channels channels_begin ∙ cuts_end sh ok

-- ---- a slot's capacities

pub caps-at : (sh : Sheet) (t p : ℕ) → p < phchs_of sh t → get_or (caps_of sh t) p 0 ≡ capacity_of sh t p
unfolding caps_of
caps-at sh t p h = get_or-take (phchs_of sh t) (drop (most_codes * t) sh.caps) p 0 h ∙ get_or-drop (most_codes * t) sh.caps p 0

module _ (sh : Sheet) (ok : Accepted sh) (t : ℕ) (l : t < sh.slots) where
  pub caps-length : length (caps_of sh t) ≡ phchs_of sh t
  unfolding caps_of
  caps-length = rw (length-take, length-drop, ok.whole) (omega (arith, ok.ranged.phch16 t l, ok.ranged.few_slots))

  pub caps-size : slot_size (caps_of sh t) ≡ slot_capacity sh t
  caps-size = ap (sum_to (at (caps_of sh t))) caps-length ∙ sum_same (at (caps_of sh t)) (capacity_of sh t) (phchs_of sh t) (caps-at sh t)

-- ---- steps 8 and 9

module _ (sh : Sheet) (t : ℕ) (l : t < sh.slots) where
  -- the slot lies within a sub-frame, in the frame, and in the multiplexed elements
  pub slot-room : (h : ℕ) → h < subframes_of sh → subframe_start sh h + slot_start sh t + slot_capacity sh t ≤ capacity_all sh
  slot-room h k = row_room (slot_capacity sh) (subframes_of sh) sh.slots h t k l

  pub share_room : subframes_of sh * slot_start sh t + subframes_of sh * slot_capacity sh t ≤ capacity_all sh
  share_room =
      omega (
        arith,
        mul-le-mul_left (subframes_of sh) (sum-within (slot_capacity sh) t sh.slots l),
        mul-add (subframes_of sh) (slot_start sh t) (slot_capacity sh t),
      )

  -- sub-frame h of the slot's share
  pub share_part-room : (h : ℕ) → h < subframes_of sh → h * slot_capacity sh t + slot_capacity sh t ≤ subframes_of sh * slot_capacity sh t
  share_part-room h k = part_ends h (subframes_of sh) (slot_capacity sh t) k

  module _ {A : Type 0} where
    pub length-slot-part : (xs : List A) → length xs ≡ capacity_all sh → (h : ℕ) → h < subframes_of sh → length (slot_part sh h t xs) ≡ slot_capacity sh t
    unfolding slot_part
    length-slot-part xs full h k = rw (length-take, length-drop, full) (omega (arith, slot-room h k))

    pub length_share : (xs : List A) → length xs ≡ capacity_all sh → length (slot_share sh t xs) ≡ subframes_of sh * slot_capacity sh t
    unfolding slot_share
    length_share xs full = rw (length-take, length-drop, full) (omega (arith, share_room))

    pub length-share_part : (ys : List A) → length ys ≡ subframes_of sh * slot_capacity sh t → (h : ℕ) → h < subframes_of sh
        → length (share_part sh h t ys) ≡ slot_capacity sh t
    unfolding share_part
    length-share_part ys full h k = rw (length-take, length-drop, full) (omega (arith, share_part-room h k))

    -- what mode 1 makes of a slot's share, for one sub-frame
    pub length_share_made : (xs : List A) → length xs ≡ capacity_all sh → (h : ℕ) → h < subframes_of sh
        → length (share_part sh h t (second_interleaved (slot_share sh t xs))) ≡ slot_capacity sh t
    length_share_made xs full h k = length-share_part (second_interleaved (slot_share sh t xs)) (second-length (slot_share sh t xs) ∙ length_share xs full) h k

    pub length-mapped : (p : List A) → length (slot_mapped sh t p) ≡ length p
    length-mapped p = mapped-length (at (caps_of sh t)) (runs_of sh t) (length (caps_of sh t)) p p

module _ {A : Type 0} (sh : Sheet) (xs : List A) (full : length xs ≡ capacity_all sh) where
  pub length-slot-bits : (h t : ℕ) → h < subframes_of sh → t < sh.slots → length (slot_bits sh xs h t) ≡ slot_capacity sh t
  unfolding slot_bits
  length-slot-bits h t k l = by (eqb sh.mode 0)
    where
      by : (b : Bool) → length (cond b (slot_part sh h t (second_interleaved xs)) (share_part sh h t (second_interleaved (slot_share sh t xs)))) ≡ slot_capacity sh t
      by true = length-slot-part sh t l (second_interleaved xs) (second-length xs ∙ full) h k
      by false = length_share_made sh t l xs full h k

  pub length-slot : (h t : ℕ) → h < subframes_of sh → t < sh.slots → length (slot_mapped sh t (slot_bits sh xs h t)) ≡ slot_capacity sh t
  length-slot h t k l = length-mapped sh t l (slot_bits sh xs h t) ∙ length-slot-bits h t k l

  pub length-spread : length (spread sh xs) ≡ capacity_all sh
  unfolding spread
  length-spread = length-rows (slot_capacity sh) (λ h t. slot_mapped sh t (slot_bits sh xs h t)) (subframes_of sh) sh.slots length-slot

pub length-frame : {A B : Type 0} (f : A → ℕ → B) (sh : Sheet) → Accepted sh → (frame : ℕ) (ts : ℕ → List A)
    → ((i : ℕ) → i < sh.channels → length (ts i) ≡ equalised_of sh i) → length (frame_of f sh frame ts) ≡ capacity_all sh
unfolding frame_of
length-frame f sh ok frame ts full = length-spread sh (multiplexed f sh frame ts) (length-multiplexed f sh ok frame ts full)

-- ---- S4: a map of what is sent is a map of the frame, and a map of the elements is a map of what is sent

module _ {A B : Type 0} (g : A → B) (sh : Sheet) where
  slot-bits-map : (xs : List A) (h t : ℕ) → slot_bits sh (map g xs) h t ≡ map g (slot_bits sh xs h t)
  unfolding slot_bits slot_part slot_share share_part
  slot-bits-map xs h t = by (eqb sh.mode 0)
    where
      by : (b : Bool) → cond b (slot_part sh h t (second_interleaved (map g xs))) (share_part sh h t (second_interleaved (slot_share sh t (map g xs))))
          ≡ map g (cond b (slot_part sh h t (second_interleaved xs)) (share_part sh h t (second_interleaved (slot_share sh t xs))))
      by true = simp (second-map, drop-map, take-map)
      by false = simp (second-map, drop-map, take-map)

  pub spread-map : (xs : List A) → spread sh (map g xs) ≡ map g (spread sh xs)
  unfolding spread
  spread-map xs =
      rows_same (λ h t. slot_mapped sh t (slot_bits sh (map g xs) h t)) (λ h t. map g (slot_mapped sh t (slot_bits sh xs h t))) (subframes_of sh) sh.slots
      (λ h t k l.
      ap (slot_mapped sh t) (slot-bits-map xs h t)
      ∙ mapped-map g (at (caps_of sh t)) (runs_of sh t) (length (caps_of sh t)) (slot_bits sh xs h t) (slot_bits sh xs h t))
      ∙ sym (map_rows g (λ h t. slot_mapped sh t (slot_bits sh xs h t)) (subframes_of sh) sh.slots)

module _ {A B C : Type 0} (f : A → ℕ → B) (h : B → C) (sh : Sheet) (ok : Accepted sh) (frame : ℕ) (ts : ℕ → List A) where
  abbrev mapped_sent : A → ℕ → C
  mapped_sent a j = h (f a j)

  sent_map : (i : ℕ) → sent_of mapped_sent sh frame i (ts i) ≡ map h (sent_of f sh frame i (ts i))
  sent_map i =
      sent_matched mapped_sent sh ok frame i (ts i)
      ∙ matched-map f h (change_of sh i) (size_of sh i) (start_at sh frame i) (part_of sh frame i (ts i))
      ∙ ap (map h) (sym (sent_matched f sh ok frame i (ts i)))

  pub multiplexed-map : multiplexed (λ a j. h (f a j)) sh frame ts ≡ map h (multiplexed f sh frame ts)
  unfolding multiplexed
  multiplexed-map =
      joined_same (λ i. sent_of mapped_sent sh frame i (ts i)) (λ i. map h (sent_of f sh frame i (ts i))) sh.channels (λ i l. sent_map i)
      ∙ sym (map-joined h (λ i. sent_of f sh frame i (ts i)) sh.channels)

  pub frame-map : frame_of (λ a j. h (f a j)) sh frame ts ≡ map h (frame_of f sh frame ts)
  unfolding frame_of
  frame-map = ap (spread sh) multiplexed-map ∙ spread-map h sh (multiplexed f sh frame ts)

module _ {A B C : Type 0} (g : A → B) (f : B → ℕ → C) (sh : Sheet) (ok : Accepted sh) (frame : ℕ) (ts : ℕ → List A) where
  sent_of_lem : (i : ℕ) → sent_of f sh frame i (map g (ts i)) ≡ sent_of (λ a j. f (g a) j) sh frame i (ts i)
  sent_of_lem i =
      sent_matched f sh ok frame i (map g (ts i))
      ∙ ap (matched f (change_of sh i) (size_of sh i) (start_at sh frame i)) (segment-map g (tti_of sh i) (ts i) (frame % frames_of sh i) (size_of sh i))
      ∙ matched_of g f (change_of sh i) (size_of sh i) (start_at sh frame i) (part_of sh frame i (ts i))
      ∙ sym (sent_matched (λ a j. f (g a) j) sh ok frame i (ts i))

  pub frame_of-map : frame_of f sh frame (λ i. map g (ts i)) ≡ frame_of (λ a j. f (g a) j) sh frame ts
  unfolding frame_of multiplexed
  frame_of-map =
      ap (spread sh)
      (joined_same (λ i. sent_of f sh frame i (map g (ts i))) (λ i. sent_of (λ a j. f (g a) j) sh frame i (ts i)) sh.channels (λ i l. sent_of_lem i))

-- an element that is sent as it is, whichever copy it is: the frame of the mapped is the frame mapped
pub moves : {A B : Type 0} (g : A → B) (sh : Sheet) → Accepted sh → (frame : ℕ) (ts : ℕ → List A)
    → frame_of as_is sh frame (λ i. map g (ts i)) ≡ map g (frame_of as_is sh frame ts)
moves g sh ok frame ts = frame_of-map g as_is sh ok frame ts ∙ frame-map as_is g sh ok frame ts
