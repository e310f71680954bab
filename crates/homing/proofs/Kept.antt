-- Frames taken back one after the other: a segment stays until a frame with its number mod F comes again.
use mathlib.Core.Path.{◌≡◌, sym, ap, ◌∙◌}
use mathlib.Core.List.{List}
use Prim.Native.Nat.{ℕ, zero, suc, ◌+◌, ◌*◌, ◌%◌, ◌<◌}
use native.Mathlib.Decide.{ℕ_discrete}
use native.Mathlib.Omega.{arith}
use lib.Arith.{lt_of_le-ne}
use lib.Ieee.{Float, nan}
use lib.ListN.{length, get_or, drop, length-take, length-drop}
use lib.Seq.{get_or-take, get_or-drop, ext_get_or}
use Rattle.sheet.specs.Sizes.{frames_of, size_of, equalised_all}
use Rattle.sheet.specs.declared.Sheet.{Sheet}
use Rattle.homing.specs.Home.{segment_home, channel_start, segment_start, taken_back_of}
use Rattle.homing.specs.Received.{segment_at, taken_all, LastOf}
use Rattle.homing.proofs.Taken.{turn_below, spots_apart, segment-within, length-segment, taken-length, taken-outside, taken-inside}

module _ (sh : Sheet) where
  -- value m of segment n of channel i
  pub segment-value : (i n m : ℕ) (buffer : List Float) (d : Float) → m < size_of sh i
      → get_or (segment_at sh i n buffer) m d ≡ get_or buffer (channel_start sh i + n * size_of sh i + m) d
  unfolding segment_at
  segment-value i n m buffer d h =
      get_or-take (size_of sh i) (drop (channel_start sh i + n * size_of sh i) buffer) m d h
      ∙ get_or-drop (channel_start sh i + n * size_of sh i) buffer m d

  length-segment-at : (i n : ℕ) (buffer : List Float) → i < sh.channels → n < frames_of sh i → length buffer ≡ equalised_all sh
      → length (segment_at sh i n buffer) ≡ size_of sh i
  unfolding segment_at
  length-segment-at i n buffer l h full = rw (length-take, length-drop, full) (omega (arith, segment-within sh i n l h))

  module _ (number : ℕ) (frame old : List Float) (full : length old ≡ equalised_all sh) (i : ℕ) (l : i < sh.channels) where
    long : length (taken_back_of sh number frame old) ≡ equalised_all sh
    long = taken-length sh number frame old ∙ full

    -- the frame's own segment is written
    segment-taken : (n : ℕ) → number % frames_of sh i ≡ n → segment_at sh i n (taken_back_of sh number frame old) ≡ segment_home sh number i frame
    unfolding segment_start
    segment-taken n e =
        let b : n < frames_of sh i = omega (arith, turn_below sh number i) in
        let size = length-segment-at i n (taken_back_of sh number frame old) l b long in
        ext_get_or nan _ _ (size ∙ sym (length-segment sh number frame i))
        (λ m h.
        segment-value i n m (taken_back_of sh number frame old) nan (omega arith)
        ∙ ap (λ (k : ℕ). get_or (taken_back_of sh number frame old) (channel_start sh i + k * size_of sh i + m) nan) (sym e)
        ∙ taken-inside sh number frame old full i m nan l (omega arith))

    -- every other one is as it was
    segment_kept : (n : ℕ) → n < frames_of sh i → (number % frames_of sh i ≡ n → ⊥)
        → segment_at sh i n (taken_back_of sh number frame old) ≡ segment_at sh i n old
    unfolding segment_start
    segment_kept n b e =
        let size = length-segment-at i n (taken_back_of sh number frame old) l b long in
        ext_get_or nan _ _ (size ∙ sym (length-segment-at i n old l b full))
        (λ m h.
        let k : m < size_of sh i = omega arith in
        segment-value i n m (taken_back_of sh number frame old) nan k
        ∙ taken-outside sh number frame old (channel_start sh i + n * size_of sh i + m) nan
        (record {
          none =
              λ j o lj ho q.
              let w = spots_apart sh i n m j (number % frames_of sh j) o b k (turn_below sh number j) ho q in
              e (ap (λ (x : ℕ). number % frames_of sh x) w.0 ∙ sym w.1);
        })
        ∙ sym (segment-value i n m old nan k))

  module _ (number : ℕ → ℕ) (frame : ℕ → List Float) (old : List Float) (full : length old ≡ equalised_all sh) where
    pub length-taken-all : (count : ℕ) → length (taken_all sh number frame count old) ≡ equalised_all sh
    unfolding taken_all
    length-taken-all zero = full
    length-taken-all (suc count) = taken-length sh (number count) (frame count) (taken_all sh number frame count old) ∙ length-taken-all count

    -- segment n is what came home of the last frame that has it
    pub last_taken : (i : ℕ) → i < sh.channels → (count n last : ℕ) → LastOf sh i number count n last
        → segment_at sh i n (taken_all sh number frame count old) ≡ segment_home sh (number last) i (frame last)
    unfolding taken_all
    last_taken i l zero n last w = absurd (omega (arith, w.among))
    last_taken i l (suc count) n last w = side (ℕ_discrete last count) (last_taken i l count n last)
      where
        before : List Float
        before = taken_all sh number frame count old

        b : n < frames_of sh i
        b = omega (arith, w.turn, turn_below sh (number last) i)

        side : Dec (last ≡ count)
            → (LastOf sh i number count n last → segment_at sh i n before ≡ segment_home sh (number last) i (frame last))
            → segment_at sh i n (taken_back_of sh (number count) (frame count) before) ≡ segment_home sh (number last) i (frame last)
        side (yes e) earlier =
            segment-taken (number count) (frame count) before (length-taken-all count) i l n
            (ap (λ (t : ℕ). number t % frames_of sh i) (sym e) ∙ w.turn)
            ∙ ap (λ (t : ℕ). segment_home sh (number t) i (frame t)) (sym e)
        side (no e) earlier =
            let k : last < count = lt_of_le-ne (omega (arith, w.among)) e in
            segment_kept (number count) (frame count) before (length-taken-all count) i l n b (w.none count k (omega arith))
            ∙ earlier (record { among = k; turn = w.turn; none = λ t h m. w.none t h (omega arith) })
