-- What was asked of the gathered values is what the definitions of coming home say of the frame.
use mathlib.Core.Path.{◌≡◌, refl, ap}
use mathlib.Core.List.{List}
use Prim.Native.Nat.{ℕ, zero, suc}
use lib.Ieee.{Float, nan}
use lib.Seq.{sets}
use Rattle.sheet.specs.declared.Sheet.{Sheet}
use Rattle.matching.specs.Shares.{channel_part}
use Rattle.homing.specs.Gather.{gathered}
use Rattle.homing.specs.Home.{heard_in, segment_home, segment_start, taken_to, taken_back_of, heard_at, link_in}
use Rattle.homing.specs.Taking.{home_in, hear_in, survey_in, taken_from}

module _ (sh : Sheet) (number : ℕ) (frame : List Float) where
  taken-to : (n : ℕ) (old : List Float) → taken_from sh number (gathered nan sh frame) n old ≡ taken_to sh number frame n old
  unfolding taken_from taken_to segment_home heard_in home_in
  taken-to zero old = refl
  taken-to (suc n) old =
      ap (λ (l : List Float). sets l (segment_start sh number n) (home_in sh number n (channel_part sh n (gathered nan sh frame)))) (taken-to n old)

  pub taken_back : (old : List Float) → taken_from sh number (gathered nan sh frame) sh.channels old ≡ taken_back_of sh number frame old
  unfolding taken_back_of
  taken_back old = taken-to sh.channels old

  pub heard-at : (i m : ℕ) → hear_in sh number i m (channel_part sh i (gathered nan sh frame)) ≡ heard_at sh number i m frame
  unfolding hear_in heard_at heard_in
  heard-at i m = refl

  pub link_in_lem : (i : ℕ) → survey_in sh number i (channel_part sh i (gathered nan sh frame)) ≡ link_in sh number i frame
  unfolding survey_in link_in heard_in
  link_in_lem i = refl
