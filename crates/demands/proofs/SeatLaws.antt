-- What stands at a position of a segment that was taken back, by the values that are shared out to its bit; and what those values pass.
use mathlib.Core.Path.{◌≡◌, ap, ap₂, ◌∙◌, subst}
use mathlib.Core.Bool.{Bool}
use mathlib.Core.List.{List, [], map}
use Prim.Native.Nat.{ℕ, ◌-◌, ◌≤◌}
use native.Mathlib.Omega.{arith}
use lib.Ieee.{Float, nan}
use lib.ListN.{length, get_or}
use Rattle.laws.specs.FirstFail.{NoneFails}
use Rattle.sheet.specs.Fields.{sheet_of}
use Rattle.sheet.specs.Counts.{most_bits}
use Rattle.sheet.specs.Sizes.{size_of}
use Rattle.sheet.specs.declared.Sheet.{Sheet}
use Rattle.matching.specs.Shares.{change_of}
use Rattle.opening.proofs.OpenLaws.{accepted_in, shares_most}
use Rattle.pattern.specs.Pattern.{shared}
use Rattle.frame.specs.Frame.{start_at}
use Rattle.joining.specs.Joining.{join_of, value_of}
use Rattle.joining.specs.Whole.{bound, Under}
use Rattle.joining.proofs.MadeLaws.{join_under}
use Rattle.joining.proofs.ValueLaws.{Among, among}
use Rattle.joining.proofs.HomeLaws.{home_shared}
use Rattle.homing.specs.Home.{heard_in, segment_home}
use Rattle.homing.proofs.Taken.{taken-inside}
use Rattle.homing.proofs.Among.{length-heard_in, heard_passes}
use Rattle.receiving.specs.Receiving.{take_into}
use Rattle.demands.specs.Words.{Place, Copies, value_at, Has, segment_bit, seat_of}
use Rattle.demands.proofs.AskedLaws.{seat-is, sits}
use Rattle.demands.proofs.ZeroLaws.{TakeZero, take-zero}
use Rattle.demands.proofs.CopyLaws.{shared-places}

-- at most 60,000 values that pass a test
pub record Passing (test : Float → Bool) (vs : List Float) : Type 0 where
  pub none : NoneFails test vs
  pub few : length vs ≤ most_bits

module _ (s : List ℕ) (frame : ℕ) (values old : List Float) (accepted : (take_into s frame values old).number ≡ 0) where
  takes : TakeZero s frame values old
  takes = take-zero s frame values old accepted

  abbrev sh : Sheet
  sh = sheet_of s

  -- what is shared out to bit m of channel k's segment
  abbrev share : ℕ → ℕ → List Float
  share k m = let i = k - 1 in get_or (shared (change_of sh i) (size_of sh i) (start_at sh frame i) (heard_in sh i values)) (m - 1) []

  seat-value : (k m : ℕ) → Has s k m → get_or (take_into s frame values old).buffer (seat_of s frame k m) nan ≡ value_of (join_of (share k m))
  unfolding segment_home
  seat-value k m h =
      let at = sits s k m h in
      let i = k - 1 in
      ap₂ (λ (l : List Float) (y : ℕ). get_or l y nan) takes.is (seat-is s at.accepted frame k m at.from at.inside)
      ∙ taken-inside sh frame values old takes.wide i (m - 1) nan at.inside at.bit
      ∙ home_shared (change_of sh i) (size_of sh i) (start_at sh frame i) (m - 1) (heard_in sh i values) nan at.bit

  own_values : (k m : ℕ) → Has s k m → (places : List Place) → Copies s frame k (segment_bit s frame k m) places
      → share k m ≡ map (value_at s values) places
  own_values k m h places own = shared-places s frame k m takes.early (sits s k m h) values takes.long places own

  pub joined : (k m : ℕ) → Has s k m → (places : List Place) → Copies s frame k (segment_bit s frame k m) places
      → get_or (take_into s frame values old).buffer (seat_of s frame k m) nan ≡ value_of (join_of (map (value_at s values) places))
  joined k m h places own = seat-value k m h ∙ ap (λ (v : List Float). value_of (join_of v)) (own_values k m h places own)

  pub seat_under : (k m : ℕ) → Has s k m → Under (get_or (take_into s frame values old).buffer (seat_of s frame k m) nan) bound
  seat_under k m h = rw (seat-value k m h) (join_under (share k m))

  -- what all values of the frame pass, those at a bit's places do
  pub passing : (test : Float → Bool) → NoneFails test values → (k m : ℕ) → Has s k m → (places : List Place)
      → Copies s frame k (segment_bit s frame k m) places → Passing test (map (value_at s values) places)
  passing test fine k m h places own =
      let at = sits s k m h in
      let i = k - 1 in
      let ok = accepted_in s at.accepted in
      let heard = heard_in sh i values in
      let a : Among test heard (share k m) =
      among test (change_of sh i) (size_of sh i) (start_at sh frame i) (m - 1) heard (heard_passes sh ok i at.inside values test takes.long fine) in
      subst (Passing test) (own_values k m h places own)
      (record { none = a.none; few = omega (arith, a.few, length-heard_in sh ok i at.inside values, shares_most sh ok i at.inside) })
