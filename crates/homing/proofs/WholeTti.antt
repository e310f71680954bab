-- S8 for a whole TTI: "Once each of the channel's F frames has been taken back into that buffer under the same sheet", bits sent as +1 for 0 and
-- -1 for 1 come home as "plus or minus the lesser of copies and 1,024", exactly, and as +0.0 where punctured.
use mathlib.Core.Path.{◌≡◌, refl, sym, ap, ap₂, ◌∙◌, subst}
use mathlib.Core.Logic.{◌↔◌}
use mathlib.Core.Bool.{true, false}
use mathlib.Core.List.{List}
use Prim.Native.Nat.{ℕ, zero, suc, min, ◌+◌, ◌*◌, ◌/◌, ◌%◌, ◌≤◌, ◌<◌}
use native.Mathlib.Nat.{min-le_right, mod-eq_of_lt, div-add-mod'}
use native.Mathlib.Omega.{arith}
use lib.IntN.{pos, neg_ℤ}
use lib.Ieee.{Float, nan, binary32, of_int, round}
use lib.Ieee.Back.{round_whole}
use lib.ListN.{length, get_or, take, drop}
use lib.Seq.{get_or-take, get_or-drop}
use Rattle.sheet.specs.Fields.{tti_of, encoded_of}
use Rattle.sheet.specs.Sizes.{frames_of, size_of, equalised_of, encoded_all, equalised_all}
use Rattle.sheet.specs.Range.{Accepted}
use Rattle.sheet.specs.declared.Sheet.{Sheet}
use Rattle.orders.specs.Orders.{column_at}
use Rattle.orders.proofs.OrderLaws.{frames_bounds, column_swaps}
use Rattle.matching.specs.Shares.{share_of, change_of}
use Rattle.offset.specs.Offset.{start_of}
use Rattle.pattern.specs.Pattern.{as_is, matched, copies_of, Rates}
use Rattle.interleaving.specs.First.{seat}
use Rattle.interleaving.proofs.EqualisedLaws.{segments_hold, equalised-bit}
use Rattle.interleaving.proofs.FirstLaws.{segment-at}
use Rattle.interleaving.proofs.FinishLaws.{row_below, seat-below, finished-length, finished-at}
use Rattle.opening.proofs.OpenLaws.{shares_most}
use Rattle.frame.specs.Frame.{start_at, contents_of, bits_of, bit_frame}
use Rattle.frame.proofs.FrameLaws.{part_of, rates, turn_inside, sent_matched, length_part, frame-map}
use Rattle.frame.proofs.ContentLaws.{length-contents, length-bits}
use Rattle.naming.specs.Name.{bit_number, NamedBy}
use Rattle.naming.proofs.Nowhere.{named_iff}
use Rattle.joining.specs.Joining.{plus_zero, home_of}
use Rattle.joining.specs.Whole.{Whole, bound, soft, counted}
use Rattle.joining.proofs.CopyLaws.{home_copies}
use Rattle.homing.specs.Home.{heard_in, segment_home, channel_start, finished_of}
use Rattle.homing.specs.Received.{segment_at, taken_all, soft_frame, Received, LastOf, copies_in, signed_count}
use Rattle.homing.proofs.Homed.{heard_sent}
use Rattle.homing.proofs.Kept.{segment-value, last_taken}

-- ---- plus or minus a number of copies, as a float

counted_none : (b : ℕ) → counted b 0 ≡ plus_zero
unfolding counted of_int round
counted_none zero = refl
counted_none (suc b) = refl

whole_minus : (n : ℕ) → n ≤ bound → Whole (of_int binary32 (neg_ℤ (pos n))) (neg_ℤ (pos n))
unfolding of_int
whole_minus zero h = record { sign = false; size = 0; value = round_whole binary32 false 0 (omega arith); is = refl }
whole_minus (suc n) h = record { sign = true; size = suc n; value = round_whole binary32 true (suc n) (omega arith); is = refl }

counted-whole : (b c : ℕ) → Whole (counted b c) (signed_count b c)
unfolding counted of_int
counted-whole zero c =
    let n = min c bound in
    record { sign = false; size = n; value = round_whole binary32 false n (omega (arith, min-le_right c bound)); is = refl }
counted-whole (suc b) c = whole_minus (min c bound) (min-le_right c bound)

-- ---- one frame of such bits

module _ (sh : Sheet) (ok : Accepted sh) (i : ℕ) (l : i < sh.channels) where
  known : tti_of sh i ≤ 3
  known = ok.ranged.tti i l

  pub soft_home : (number : ℕ) (contents : List ℕ) → length contents ≡ encoded_all sh → (m : ℕ) (d : Float) → m < size_of sh i
      → get_or (segment_home sh number i (soft_frame sh number contents)) m d
      ≡ counted (get_or (bits_of sh contents i) (m * frames_of sh i + column_at (tti_of sh i) (number % frames_of sh i)) 0)
      (copies_of (change_of sh i) (size_of sh i) (start_at sh number i) m)
  unfolding segment_home soft_frame bit_frame
  soft_home number contents all m d h =
      let ts = bits_of sh contents in
      let full : (k : ℕ) → k < sh.channels → length (ts k) ≡ equalised_of sh k = λ k lk. length-bits sh contents all k lk ok in
      let send : ℕ → ℕ → Float = λ b c. soft b in
      let part = part_of sh number i (ts i) in
      let long : length part ≡ size_of sh i = length_part send sh ok number i (ts i) l (full i l) in
      let D = change_of sh i in
      let e = start_at sh number i in
      let r : Rates D (length part) (share_of sh i) e = rw long (rates sh ok number i) in
      ap (λ (v : List Float). get_or (home_of D (size_of sh i) e (heard_in sh i v)) m d) (sym (frame-map as_is soft sh ok number ts))
      ∙ ap (λ (v : List Float). get_or (home_of D (size_of sh i) e v) m d)
      (heard_sent send sh ok number ts full i l ∙ sent_matched send sh ok number i (ts i))
      ∙ subst (λ (n : ℕ). get_or (home_of D n e (matched send D n e part)) m d ≡ counted (get_or part m 0) (copies_of D n e m)) long
      (home_copies D (share_of sh i) e m part d r (shares_most sh ok i l) (omega arith))
      ∙ ap (λ (b : ℕ). counted b (copies_of D (size_of sh i) e m))
      (segment-at (tti_of sh i) known (size_of sh i) (ts i) (full i l) (number % frames_of sh i) (turn_inside sh ok number i l) m 0 h)

  -- the start of step 5 is that of the frame's number mod F
  start-turn : (number n : ℕ) → number % frames_of sh i ≡ n → start_at sh number i ≡ start_at sh n i
  unfolding start_at start_of
  start-turn number n e =
      let b : n < frames_of sh i = omega (arith, turn_inside sh ok number i l) in
      rw (e, mod-eq_of_lt b)

  -- ---- bit j, from 0, of the channel

  module _ (j : ℕ) (h : j < encoded_of sh i) where
    abbrev turn : ℕ
    turn = column_at (tti_of sh i) (j % frames_of sh i)

    abbrev row : ℕ
    row = j / frames_of sh i

    turns : (turn < frames_of sh i) × (column_at (tti_of sh i) turn ≡ j % frames_of sh i)
    turns = column_swaps (tti_of sh i) (j % frames_of sh i) known (turn_inside sh ok j i l)

    pub turn_below : column_at (tti_of sh i) (j % frames_of sh i) < frames_of sh i
    turn_below = turns.0

    place : row * frames_of sh i + column_at (tti_of sh i) turn ≡ j
    place = ap (λ (c : ℕ). row * frames_of sh i + c) turns.1 ∙ div-add-mod' j (frames_of sh i)

    inside : j < equalised_of sh i
    inside = omega (arith, (segments_hold (encoded_of sh i) (frames_of sh i) (frames_bounds (tti_of sh i) known).0).0)

    pub row_inside : j / frames_of sh i < size_of sh i
    row_inside = row_below (tti_of sh i) known (size_of sh i) row (j % frames_of sh i) (omega (arith, inside, div-add-mod' j (frames_of sh i)))

    -- it has that number before step 2, and in the frame that sends it as many places have its name as it has copies
    pub number_in : (number : ℕ) → number % frames_of sh i ≡ column_at (tti_of sh i) (j % frames_of sh i)
        → bit_number sh number i (j / frames_of sh i) ≡ j + 1
    unfolding bit_number
    number_in number e = rw e (ap (λ (x : ℕ). x + 1) place)

    pub copies_in_lem : (number c : ℕ) → number % frames_of sh i ≡ column_at (tti_of sh i) (j % frames_of sh i)
        → NamedBy sh number i (j / frames_of sh i) c ↔ (c < copies_in sh i j)
    unfolding copies_in
    copies_in_lem number c e = rw (sym (start-turn number turn e)) (named_iff sh ok number i row l row_inside c)

    -- what stands in the buffer where the finishing call reads it
    seat-value : (buffer : List Float) (d : Float) → get_or (finished_of sh i buffer) j d ≡ get_or (segment_at sh i turn buffer) row nan
    unfolding finished_of seat
    seat-value buffer d =
        let N = size_of sh i in
        let q : channel_start sh i + (turn * N + row) ≡ channel_start sh i + turn * N + row = omega arith in
        finished-at (tti_of sh i) known nan N (encoded_of sh i) (take (equalised_of sh i) (drop (channel_start sh i) buffer)) j d h
        ∙ get_or-take (equalised_of sh i) (drop (channel_start sh i) buffer) (turn * N + row) nan (seat-below (tti_of sh i) known N j inside)
        ∙ get_or-drop (channel_start sh i) buffer (turn * N + row) nan
        ∙ ap (λ (k : ℕ). get_or buffer k nan) q
        ∙ sym (segment-value sh i turn row buffer nan row_inside)

    -- S8: plus the lesser of the number of its copies and 1,024 for 0, minus it for 1, as the float of that whole number
    pub finished_counts : (coded : List ℕ) (buffer : List Float) (d : Float) → Received sh i coded buffer
        → get_or (finished_of sh i buffer) j d ≡ counted (get_or coded j 0) (copies_in sh i j)
    unfolding copies_in
    finished_counts coded buffer d r =
        let b = turns.0 in
        let number = r.number turn in
        let contents = r.contents turn in
        let e : number % frames_of sh i ≡ turn = r.turn turn b in
        let all = r.whole turn b in
        let k : row * frames_of sh i + column_at (tti_of sh i) (number % frames_of sh i) ≡ j = rw e place in
        let bit : get_or (bits_of sh contents i) j 0 ≡ get_or coded j 0 =
        unfold bits_of in
        equalised-bit 0 (tti_of sh i) (size_of sh i) (contents_of sh contents i) j 0 (omega (arith, length-contents sh contents all i l))
        ∙ ap (λ (c : List ℕ). get_or c j 0) (r.carries turn b) in
        seat-value buffer d
        ∙ ap (λ (s : List Float). get_or s row nan) (r.segment turn b)
        ∙ soft_home number contents all row nan row_inside
        ∙ ap₂ counted (ap (λ (x : ℕ). get_or (bits_of sh contents i) x 0) k ∙ bit)
        (ap (λ (s : ℕ). copies_of (change_of sh i) (size_of sh i) s row) (start-turn number turn e))

    -- "exactly"
    pub finished-exact : (coded : List ℕ) (buffer : List Float) (d : Float) → Received sh i coded buffer
        → Whole (get_or (finished_of sh i buffer) j d) (signed_count (get_or coded j 0) (copies_in sh i j))
    finished-exact coded buffer d r =
        rw (finished_counts coded buffer d r) (counted-whole (get_or coded j 0) (copies_in sh i j))

    -- "and as +0.0 where punctured"
    pub finished-punctured : (coded : List ℕ) (buffer : List Float) (d : Float) → Received sh i coded buffer → copies_in sh i j ≡ 0
        → get_or (finished_of sh i buffer) j d ≡ plus_zero
    finished-punctured coded buffer d r z =
        finished_counts coded buffer d r ∙ ap (counted (get_or coded j 0)) z ∙ counted_none (get_or coded j 0)

  -- and E values in all
  pub length-finished : (buffer : List Float) → length (finished_of sh i buffer) ≡ encoded_of sh i
  unfolding finished_of
  length-finished buffer =
      finished-length (tti_of sh i) known nan (size_of sh i) (encoded_of sh i) (take (equalised_of sh i) (drop (channel_start sh i) buffer))

  -- ---- taking back makes such a buffer, whatever stood in it: frames in any order, each number mod F having a last frame that sent the bits
  pub received_last : (number : ℕ → ℕ) (frame : ℕ → List Float) (contents : ℕ → List ℕ) (coded : List ℕ) (old : List Float) (count : ℕ)
      (last : ℕ → ℕ) → length old ≡ equalised_all sh → ((n : ℕ) → n < frames_of sh i → LastOf sh i number count n (last n))
      → ((n : ℕ) → n < frames_of sh i → frame (last n) ≡ soft_frame sh (number (last n)) (contents n))
      → ((n : ℕ) → n < frames_of sh i → length (contents n) ≡ encoded_all sh) → ((n : ℕ) → n < frames_of sh i → contents_of sh (contents n) i ≡ coded)
      → Received sh i coded (taken_all sh number frame count old)
  received_last number frame contents coded old count last full w sent all same =
      record {
        number = λ n. number (last n);
        contents = contents;
        turn = λ n h. (w n h).turn;
        whole = all;
        carries = same;
        segment =
            λ n h. last_taken sh number frame old full i l count n (last n) (w n h) ∙ ap (segment_home sh (number (last n)) i) (sent n h);
      }

  -- the F frames of a TTI, one after the other
  module _ (number : ℕ → ℕ) (contents : ℕ → List ℕ) (coded : List ℕ) (old : List Float) (full : length old ≡ equalised_all sh)
      (turn : (n : ℕ) → n < frames_of sh i → number n % frames_of sh i ≡ n)
      (all : (n : ℕ) → n < frames_of sh i → length (contents n) ≡ encoded_all sh)
      (same : (n : ℕ) → n < frames_of sh i → contents_of sh (contents n) i ≡ coded) where
    pub received_tti : Received sh i coded (taken_all sh number (λ n. soft_frame sh (number n) (contents n)) (frames_of sh i) old)
    received_tti =
        received_last number (λ n. soft_frame sh (number n) (contents n)) contents coded old (frames_of sh i) (λ n. n) full
        (λ n h. record { among = h; turn = turn n h; none = λ t a b e. omega (arith, turn t b) }) (λ n h. refl) all same

    pub whole-tti : (j : ℕ) (d : Float) → j < encoded_of sh i
        → get_or (finished_of sh i (taken_all sh number (λ n. soft_frame sh (number n) (contents n)) (frames_of sh i) old)) j d
        ≡ counted (get_or coded j 0) (copies_in sh i j)
    whole-tti j d h = finished_counts j h coded (taken_all sh number (λ n. soft_frame sh (number n) (contents n)) (frames_of sh i) old) d received_tti
