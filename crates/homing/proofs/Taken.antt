-- "Only the segments of this frame are written": what stands at each position of the buffer after a frame was taken back.
use mathlib.Core.Path.{◌≡◌, refl, sym, ap, ◌∙◌}
use mathlib.Core.List.{List}
use Prim.Native.Nat.{ℕ, zero, suc, ◌+◌, ◌*◌, ◌%◌, ◌≤◌, ◌<◌}
use native.Mathlib.Nat.{mod-lt}
use native.Mathlib.Decide.{ℕ_discrete}
use native.Mathlib.Omega.{arith}
use lib.Arith.{lt_of_le-ne, digits_lt}
use lib.Pow.{pow_pos}
use lib.Ieee.{Float}
use lib.ListN.{length, get_or}
use lib.Seq.{length-sets}
use Rattle.laws.specs.Sums.{sum_to}
use Rattle.laws.proofs.SumLaws.{sum-within, parts_apart}
use Rattle.laws.proofs.StoreLaws.{sets_outside, sets_inside}
use Rattle.laws.proofs.FallLaws.{part_ends, digits_apart}
use Rattle.sheet.specs.Fields.{tti_of}
use Rattle.sheet.specs.Sizes.{frames_of, size_of, equalised_of, equalised_all}
use Rattle.sheet.specs.declared.Sheet.{Sheet}
use Rattle.matching.specs.Shares.{change_of}
use Rattle.frame.specs.Frame.{start_at}
use Rattle.joining.proofs.HomeLaws.{length_home}
use Rattle.homing.specs.Home.{heard_in, segment_home, channel_start, segment_start, taken_to, taken_back_of}
use Rattle.homing.specs.Received.{Outside}

-- ---- the positions of the buffer: bit m of segment n of channel i

module _ (sh : Sheet) where
  abbrev pub spot_of : ℕ → ℕ → ℕ → ℕ
  spot_of i n m = channel_start sh i + n * size_of sh i + m

  pub turn_below : (number i : ℕ) → number % frames_of sh i < frames_of sh i
  turn_below number i = mod-lt number (pow_pos (tti_of sh i))

  pub spots_apart : (i n m j k o : ℕ) → n < frames_of sh i → m < size_of sh i → k < frames_of sh j → o < size_of sh j
      → spot_of i n m ≡ spot_of j k o → (i ≡ j) × (n ≡ k)
  unfolding channel_start
  spots_apart i n m j k o hn hm hk ho e =
      let a = digits_lt {q = n} {m = frames_of sh i} {r = m} {c = size_of sh i} hn hm in
      let b = digits_lt {q = k} {m = frames_of sh j} {r = o} {c = size_of sh j} hk ho in
      let q : i ≡ j = (parts_apart (equalised_of sh) i j (n * size_of sh i + m) (k * size_of sh j + o) a b (omega arith)).0 in
      let s : sum_to (equalised_of sh) i ≡ sum_to (equalised_of sh) j = ap (sum_to (equalised_of sh)) q in
      let z : size_of sh j ≡ size_of sh i = ap (size_of sh) (sym q) in
      let w : k * size_of sh j ≡ k * size_of sh i = ap (λ (x : ℕ). k * x) z in
      (q, (digits_apart (size_of sh i) n m k o hm (omega arith) (omega arith)).0)

  -- a segment lies within the buffer, and no two have a position in common
  pub segment-within : (i n : ℕ) → i < sh.channels → n < frames_of sh i → channel_start sh i + n * size_of sh i + size_of sh i ≤ equalised_all sh
  unfolding channel_start
  segment-within i n l h =
      omega (
        arith,
        part_ends n (frames_of sh i) (size_of sh i) h,
        sum-within (equalised_of sh) i sh.channels l,
      )

  pub segment-below : (number i : ℕ) → i < sh.channels → segment_start sh number i + size_of sh i ≤ equalised_all sh
  unfolding segment_start
  segment-below number i l = segment-within i (number % frames_of sh i) l (turn_below number i)

  pub segments_apart : (number i m j o : ℕ) → m < size_of sh i → o < size_of sh j → segment_start sh number i + m ≡ segment_start sh number j + o → i ≡ j
  unfolding segment_start
  segments_apart number i m j o h k e =
      (spots_apart i (number % frames_of sh i) m j (number % frames_of sh j) o (turn_below number i) h (turn_below number j) k e).0

  -- ---- one frame taken back

  module _ (number : ℕ) (frame : List Float) where
    pub length-segment : (i : ℕ) → length (segment_home sh number i frame) ≡ size_of sh i
    unfolding segment_home
    length-segment i = length_home (change_of sh i) (size_of sh i) (start_at sh number i) (heard_in sh i frame)

    length_to : (n : ℕ) (old : List Float) → length (taken_to sh number frame n old) ≡ length old
    unfolding taken_to
    length_to zero old = refl
    length_to (suc n) old =
        length-sets (taken_to sh number frame n old) (segment_start sh number n) (segment_home sh number n frame) ∙ length_to n old

    outside-to : (n : ℕ) (old : List Float) (x : ℕ) (d : Float)
        → ((i m : ℕ) → i < n → m < size_of sh i → x ≡ segment_start sh number i + m → ⊥)
        → get_or (taken_to sh number frame n old) x d ≡ get_or old x d
    unfolding taken_to
    outside-to zero old x d h = refl
    outside-to (suc n) old x d h =
        sets_outside (segment_home sh number n frame) (taken_to sh number frame n old) (segment_start sh number n) x d
        (λ m k. h n m (omega arith) (omega (arith, length-segment n)))
        ∙ outside-to n old x d (λ i m l. h i m (omega arith))

    inside-to : (n : ℕ) (old : List Float) → n ≤ sh.channels → length old ≡ equalised_all sh → (i m : ℕ) (d : Float) → i < n → m < size_of sh i
        → get_or (taken_to sh number frame n old) (segment_start sh number i + m) d ≡ get_or (segment_home sh number i frame) m d
    unfolding taken_to
    inside-to zero old b full i m d l k = absurd (omega arith)
    inside-to (suc n) old b full i m d l k = side (ℕ_discrete i n) (λ h. inside-to n old (omega arith) full i m d h k)
      where
        long : length (taken_to sh number frame n old) ≡ equalised_all sh
        long = length_to n old ∙ full

        side : Dec (i ≡ n)
            → (i < n → get_or (taken_to sh number frame n old) (segment_start sh number i + m) d ≡ get_or (segment_home sh number i frame) m d)
            → get_or (taken_to sh number frame (suc n) old) (segment_start sh number i + m) d
            ≡ get_or (segment_home sh number i frame) m d
        side (yes e) before =
            ap (λ (j : ℕ). get_or (taken_to sh number frame (suc n) old) (segment_start sh number j + m) d) e
            ∙ sets_inside (segment_home sh number n frame) (taken_to sh number frame n old) (segment_start sh number n) m d
            (omega (arith, long, length-segment n, segment-below number n b)) (omega (arith, length-segment n, ap (size_of sh) e))
            ∙ ap (λ (j : ℕ). get_or (segment_home sh number j frame) m d) (sym e)
        side (no e) before =
            sets_outside (segment_home sh number n frame) (taken_to sh number frame n old) (segment_start sh number n) (segment_start sh number i + m) d
            (λ o h q. e (segments_apart number i m n o k (omega (arith, length-segment n)) q))
            ∙ before (lt_of_le-ne (omega arith) e)

    -- the buffer's length is kept
    pub taken-length : (old : List Float) → length (taken_back_of sh number frame old) ≡ length old
    unfolding taken_back_of
    taken-length old = length_to sh.channels old

    -- every position outside this frame's segments is as it was
    pub taken-outside : (old : List Float) (x : ℕ) (d : Float) → Outside sh number x → get_or (taken_back_of sh number frame old) x d ≡ get_or old x d
    unfolding taken_back_of
    taken-outside old x d o = outside-to sh.channels old x d o.none

    -- position m of each channel's segment gets value m of what comes home of it
    pub taken-inside : (old : List Float) → length old ≡ equalised_all sh → (i m : ℕ) (d : Float) → i < sh.channels → m < size_of sh i
        → get_or (taken_back_of sh number frame old) (segment_start sh number i + m) d ≡ get_or (segment_home sh number i frame) m d
    unfolding taken_back_of
    taken-inside old full i m d l k = inside-to sh.channels old (omega arith) full i m d l k
