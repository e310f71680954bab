-- S7: where the soft value at each place is f of its name, each bit of each segment gets the joined f of its own copies 0, 1, .. in order.
use mathlib.Core.Path.{◌≡◌, sym, ap, ap₂, ◌∙◌, subst}
use mathlib.Core.List.{List, [], map}
use Prim.Native.Nat.{ℕ, ◌+◌, ◌*◌, ◌%◌, ◌<◌}
use native.Mathlib.Nat.{mul_comm}
use native.Mathlib.Numerals.{add-one}
use native.Mathlib.Omega.{arith}
use lib.Arith.{digits_lt}
use lib.Ieee.{Float, nan}
use lib.ListN.{length, get_or, take, drop}
use Rattle.laws.specs.Tables.{table}
use Rattle.laws.proofs.TableLaws.{table_get, table-alike}
use Rattle.laws.proofs.JoinedLaws.{joined-part}
use Rattle.sheet.specs.Fields.{tti_of}
use Rattle.sheet.specs.Sizes.{frames_of, size_of, equalised_of, equalised_all}
use Rattle.sheet.specs.Range.{Accepted}
use Rattle.sheet.specs.declared.Sheet.{Sheet}
use Rattle.orders.specs.Orders.{column_at}
use Rattle.orders.proofs.OrderLaws.{column_swaps}
use Rattle.matching.specs.Shares.{cut_of, share_of, change_of}
use Rattle.pattern.specs.Pattern.{matched, shared, copies_of}
use Rattle.pattern.proofs.MatchedLaws.{shared-matched}
use Rattle.interleaving.proofs.FirstLaws.{segment-at}
use Rattle.frame.specs.Frame.{start_at, sent_of, multiplexed, frame_of}
use Rattle.frame.proofs.FrameLaws.{part_of, turn_inside, sent_matched, length_part, length_sent, channels_begin, length-multiplexed, frame-map}
use Rattle.naming.specs.Name.{Name, Label, label_at, labels, copy_named, label_frame, bit_number, bit_name}
use Rattle.naming.proofs.Named.{labels_full}
use Rattle.joining.specs.Joining.{clipped, plus_zero, join_of, value_of}
use Rattle.joining.proofs.MadeLaws.{join_none, join_value}
use Rattle.joining.proofs.HomeLaws.{home_shared}
use Rattle.homing.specs.Home.{heard_in, segment_home, segment_start, taken_back_of, heard_at}
use Rattle.homing.proofs.GatherLaws.{gathered-spread}
use Rattle.homing.proofs.Taken.{taken-inside}

-- ---- a frame of anything that is sent as soft values

module _ {A : Type 0} (f : A → ℕ → Float) (sh : Sheet) (ok : Accepted sh) (number : ℕ) (ts : ℕ → List A)
    (full : (i : ℕ) → i < sh.channels → length (ts i) ≡ equalised_of sh i) (i : ℕ) (l : i < sh.channels) where
  -- steps 9 to 7 undone: what channel i sent
  pub heard_sent : heard_in sh i (frame_of f sh number ts) ≡ sent_of f sh number i (ts i)
  unfolding heard_in frame_of multiplexed
  heard_sent =
      let all = multiplexed f sh number ts in
      ap (λ (xs : List Float). take (share_of sh i) (drop (cut_of sh i) xs)) (gathered-spread nan sh ok all (length-multiplexed f sh ok number ts full))
      ∙ ap (λ (n : ℕ). take n (drop (cut_of sh i) all)) (sym (length_sent f sh ok number i (ts i) l (full i l)))
      ∙ joined-part (λ k. sent_of f sh number k (ts k)) (cut_of sh) sh.channels i (channels_begin f sh ok number ts full) l

  -- step 6 undone: bit m has the copies of what stood in row m of column P(n)
  pub shares_sent : (m : ℕ) (z : A) → m < size_of sh i
      → get_or (shared (change_of sh i) (size_of sh i) (start_at sh number i) (heard_in sh i (frame_of f sh number ts))) m []
      ≡ table (f (get_or (ts i) (m * frames_of sh i + column_at (tti_of sh i) (number % frames_of sh i)) z)) 0
      (copies_of (change_of sh i) (size_of sh i) (start_at sh number i) m)
  shares_sent m z h =
      let part = part_of sh number i (ts i) in
      let long : length part ≡ size_of sh i = length_part f sh ok number i (ts i) l (full i l) in
      let d = change_of sh i in
      let e = start_at sh number i in
      ap (λ (vs : List Float). get_or (shared d (size_of sh i) e vs) m []) (heard_sent ∙ sent_matched f sh ok number i (ts i))
      ∙ subst (λ (n : ℕ). get_or (shared d n e (matched f d n e part)) m [] ≡ table (f (get_or part m z)) 0 (copies_of d n e m)) long
      (shared-matched f d e m part z (omega arith))
      ∙ ap (λ (x : A). table (f x) 0 (copies_of d (size_of sh i) e m))
      (segment-at (tti_of sh i) (ok.ranged.tti i l) (size_of sh i) (ts i) (full i l) (number % frames_of sh i) (turn_inside sh ok number i l) m z h)

-- ---- a received frame by its names

module _ (sh : Sheet) (ok : Accepted sh) (number : ℕ) (f : Name → Float) where
  sent_by_name : map f (label_frame sh number) ≡ frame_of (λ a j. f (copy_named a j)) sh number (labels sh)
  unfolding label_frame
  sent_by_name = sym (frame-map copy_named f sh ok number (labels sh))

  module _ (i m : ℕ) (l : i < sh.channels) (h : m < size_of sh i) where
    -- the label in row m of column P(n) is that of the segment's bit m
    label_here : (c : ℕ) (z : Label)
        → copy_named (get_or (labels sh i) (m * frames_of sh i + column_at (tti_of sh i) (number % frames_of sh i)) z) c ≡ bit_name sh number i m c
    unfolding labels bit_name bit_number
    label_here c z =
        let F = frames_of sh i in
        let k = m * F + column_at (tti_of sh i) (number % F) in
        let hc = (column_swaps (tti_of sh i) (number % F) (ok.ranged.tti i l) (turn_inside sh ok number i l)).0 in
        let b : k < equalised_of sh i = omega (arith, digits_lt {q = m} {m = size_of sh i} {c = F} h hc, mul_comm F (size_of sh i)) in
        ap (λ (a : Label). copy_named a c) (table_get (label_at i) (equalised_of sh i) k z b)
        ∙ ap₂ (λ (x y : ℕ). copy_named (record { channel = x; bit = y }) c) (sym (add-one i)) (sym (add-one k))

    -- the values that are shared out to bit m of channel i's segment are those of its own names, copy after copy
    pub shares_named : get_or (shared (change_of sh i) (size_of sh i) (start_at sh number i) (heard_in sh i (map f (label_frame sh number)))) m []
        ≡ table (λ c. f (bit_name sh number i m c)) 0 (copies_of (change_of sh i) (size_of sh i) (start_at sh number i) m)
    shares_named =
        let z : Label = record { channel = 0; bit = 0 } in
        let d = change_of sh i in
        let e = start_at sh number i in
        let k = m * frames_of sh i + column_at (tti_of sh i) (number % frames_of sh i) in
        ap (λ (v : List Float). get_or (shared d (size_of sh i) e (heard_in sh i v)) m []) sent_by_name
        ∙ shares_sent (λ a j. f (copy_named a j)) sh ok number (labels sh) (labels_full sh) i l m z h
        ∙ table-alike (λ c. f (copy_named (get_or (labels sh i) k z) c)) (λ c. f (bit_name sh number i m c)) (copies_of d (size_of sh i) e m) nan
        (λ c b. ap f (label_here c z))

    -- S7: "Copies are added in the order copy 0, 1, 2, .., each sum rounded once": what was heard of the bit
    pub heard-named : heard_at sh number i m (map f (label_frame sh number))
        ≡ join_of (table (λ c. f (bit_name sh number i m c)) 0 (copies_of (change_of sh i) (size_of sh i) (start_at sh number i) m))
    unfolding heard_at
    heard-named = ap join_of shares_named

    -- and the value that it gets
    pub home_named : (d : Float) → get_or (segment_home sh number i (map f (label_frame sh number))) m d
        ≡ value_of (join_of (table (λ c. f (bit_name sh number i m c)) 0 (copies_of (change_of sh i) (size_of sh i) (start_at sh number i) m)))
    unfolding segment_home
    home_named d =
        home_shared (change_of sh i) (size_of sh i) (start_at sh number i) m (heard_in sh i (map f (label_frame sh number))) d h
        ∙ ap (λ (s : List Float). value_of (join_of s)) shares_named

    -- "a value heard once is clipped too"; within the bound it keeps every bit (joining ClipLaws)
    pub home_once : (d : Float) → copies_of (change_of sh i) (size_of sh i) (start_at sh number i) m ≡ 1
        → get_or (segment_home sh number i (map f (label_frame sh number))) m d ≡ clipped (f (bit_name sh number i m 0))
    unfolding table
    home_once d q =
        home_named d
        ∙ ap (λ (n : ℕ). value_of (join_of (table (λ c. f (bit_name sh number i m c)) 0 n))) q
        ∙ join_value (f (bit_name sh number i m 0)) []

    -- "A punctured bit gets +0.0."
    pub home_none : (d : Float) → copies_of (change_of sh i) (size_of sh i) (start_at sh number i) m ≡ 0
        → get_or (segment_home sh number i (map f (label_frame sh number))) m d ≡ plus_zero
    unfolding table
    home_none d q = home_named d ∙ ap (λ (n : ℕ). value_of (join_of (table (λ c. f (bit_name sh number i m c)) 0 n))) q ∙ join_none

    -- in the buffer; Taken has the positions outside the frame's segments as they were
    pub taken-named : (old : List Float) (d : Float) → length old ≡ equalised_all sh
        → get_or (taken_back_of sh number (map f (label_frame sh number)) old) (segment_start sh number i + m) d
        ≡ value_of (join_of (table (λ c. f (bit_name sh number i m c)) 0 (copies_of (change_of sh i) (size_of sh i) (start_at sh number i) m)))
    taken-named old d long = taken-inside sh number (map f (label_frame sh number)) old long i m d l h ∙ home_named d
