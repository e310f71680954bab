-- S8 for one frame: whole sums are exact and clipped, no joined value is a NaN or beyond 1,024, and one is -0.0 only where all its copies are.
use mathlib.Core.Path.{◌≡◌, sym, ap, ◌∙◌, subst}
use mathlib.Core.Bool.{Bool, true, false, false≢true}
use mathlib.Core.List.{List, ◌∷◌, map}
use Prim.Native.Nat.{ℕ, zero, suc, ◌≤◌, ◌<◌}
use native.Mathlib.Omega.{arith}
use lib.Ieee.{Float, nan, binary32, fits, is_nan}
use lib.ListN.{length, get_or, take, drop, length-map, get_or-replicate}
use Rattle.laws.specs.Tables.{table}
use Rattle.laws.specs.FirstFail.{NoneFails}
use Rattle.laws.proofs.FirstFailLaws.{none-take, none-drop}
use Rattle.laws.proofs.TableLaws.{table-length, table_get}
use Rattle.sheet.specs.Counts.{most_bits}
use Rattle.sheet.specs.Sizes.{size_of, capacity_all}
use Rattle.sheet.specs.Range.{Accepted}
use Rattle.sheet.specs.declared.Sheet.{Sheet}
use Rattle.matching.specs.Shares.{share_of, change_of}
use Rattle.pattern.specs.Pattern.{copies_of}
use Rattle.pattern.specs.Closed.{sent_before}
use Rattle.pattern.proofs.MatchedLaws.{shared_at}
use Rattle.opening.proofs.OpenLaws.{shares_most}
use Rattle.frame.specs.Frame.{start_at}
use Rattle.frame.proofs.FrameLaws.{rates}
use Rattle.naming.specs.Name.{Name, label_frame, bit_name}
use Rattle.joining.specs.Joining.{plus_zero, join_of, value_of, home_of}
use Rattle.joining.specs.Whole.{Whole, small_whole, whole_of, total, bound, bounded, Under}
use Rattle.joining.proofs.MadeLaws.{join_none}
use Rattle.joining.proofs.ValueLaws.{home_exact, home_under, under_number}
use Rattle.joining.proofs.ZeroLaws.{minus_zero, join_minus}
use Rattle.homing.specs.Home.{heard_in, segment_home}
use Rattle.homing.proofs.Labelled.{length-labels}
use Rattle.homing.proofs.Homed.{shares_named, home_named}
use Rattle.homing.proofs.Among.{length-heard_in, heard_passes}

-- ---- copies of one bit that join to -0.0

zeros_apart : plus_zero ≡ minus_zero → ⊥
zeros_apart q = let z : ◌≡◌ {A = Bool} false true = cc in false≢true z

minus_copies : (g : ℕ → Float) (n : ℕ) → NoneFails (fits binary32) (table g 0 n) → value_of (join_of (table g 0 n)) ≡ minus_zero
    → (0 < n) × ((c : ℕ) → c < n → g c ≡ minus_zero)
unfolding table
minus_copies g zero a q = absurd (zeros_apart (sym join_none ∙ q))
minus_copies g (suc n) a q =
    let all = join_minus (g 0) (table g 1 n) a q in
    let long = length (g 0 ∷ table g 1 n) in
    let e : long ≡ suc n = table-length g 0 (suc n) in (
      omega arith,
      λ c l.
          sym (table_get g (suc n) c nan l) ∙ ap (λ (s : List Float). get_or s c nan) all ∙ get_or-replicate long c minus_zero nan (omega arith),
    )

-- ---- a segment

module _ (sh : Sheet) (ok : Accepted sh) (number i m : ℕ) (l : i < sh.channels) (h : m < size_of sh i) where
  few : (frame : List Float) → length (heard_in sh i frame) ≤ most_bits
  few frame = omega (arith, length-heard_in sh ok i l frame, shares_most sh ok i l)

  -- each joined value is finite, and at most 1,024 in magnitude
  pub home_bounded : (frame : List Float) (d : Float) → Under (get_or (segment_home sh number i frame) m d) bound
  unfolding segment_home
  home_bounded frame d = home_under (change_of sh i) (size_of sh i) (start_at sh number i) m (heard_in sh i frame) d h

  pub home_number : (frame : List Float) (d : Float) → is_nan (get_or (segment_home sh number i frame) m d) ≡ false
  home_number frame d = under_number (get_or (segment_home sh number i frame) m d) bound (home_bounded frame d)

  module _ (f : Name → Float) where
    abbrev received : List Float
    received = map f (label_frame sh number)

    length_received : length received ≡ capacity_all sh
    length_received = length-map (label_frame sh number) f ∙ length-labels sh ok number

    -- "If all soft values of a frame are whole and at most 255 in magnitude, every sum is the exact whole sum", clipped
    pub home_whole : (d : Float) → NoneFails small_whole (map f (label_frame sh number))
        → Whole (get_or (segment_home sh number i (map f (label_frame sh number))) m d)
        (bounded (total (map whole_of (table (λ c. f (bit_name sh number i m c)) 0 (copies_of (change_of sh i) (size_of sh i) (start_at sh number i) m)))))
    unfolding segment_home
    home_whole d w =
        let home = home_of (change_of sh i) (size_of sh i) (start_at sh number i) (heard_in sh i received) in
        subst (λ (s : List Float). Whole (get_or home m d) (bounded (total (map whole_of s))))
        (shares_named sh ok number f i m l h)
        (home_exact (change_of sh i) (size_of sh i) (start_at sh number i) m (heard_in sh i received) d
        (heard_passes sh ok i l received small_whole length_received w) (few received) h)

    -- of f32 values, a joined value is -0.0 only where there is a copy and all copies are -0.0
    pub home_minus : (d : Float) → NoneFails (fits binary32) (map f (label_frame sh number))
        → get_or (segment_home sh number i (map f (label_frame sh number))) m d ≡ minus_zero
        → (0 < copies_of (change_of sh i) (size_of sh i) (start_at sh number i) m)
        × ((c : ℕ) → c < copies_of (change_of sh i) (size_of sh i) (start_at sh number i) m → f (bit_name sh number i m c) ≡ minus_zero)
    home_minus d w q =
        let e = start_at sh number i in
        let copies = copies_of (change_of sh i) (size_of sh i) e m in
        let vs = heard_in sh i received in
        let before = sent_before (change_of sh i) (size_of sh i) e m in
        let own : table (λ c. f (bit_name sh number i m c)) 0 copies ≡ take copies (drop before vs) =
        sym (shares_named sh ok number f i m l h) ∙ shared_at (change_of sh i) (size_of sh i) (share_of sh i) e m vs (rates sh ok number i) h in
        minus_copies (λ c. f (bit_name sh number i m c)) copies
        (rw own (none-take (fits binary32) copies (drop before vs)
        (none-drop (fits binary32) before vs (heard_passes sh ok i l received (fits binary32) length_received w))))
        (sym (home_named sh ok number f i m l h d) ∙ q)
