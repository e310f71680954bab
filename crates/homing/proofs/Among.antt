-- What is heard of a channel are values of the received frame: a test that all of those pass, these pass.
use mathlib.Core.Path.{◌≡◌, sym, ap, ◌∙◌}
use mathlib.Core.Bool.{Bool}
use mathlib.Core.List.{List}
use Prim.Native.Nat.{ℕ, suc, ◌<◌}
use native.Mathlib.Omega.{arith}
use lib.Ieee.{Float, nan}
use lib.ListN.{length, get_or, drop, length-take, length-drop}
use Rattle.laws.specs.FirstFail.{NoneFails}
use Rattle.laws.proofs.FirstFailLaws.{none-take, none-drop, passes_at, passes_all}
use Rattle.sheet.specs.Sizes.{capacity_all}
use Rattle.sheet.specs.Range.{Accepted}
use Rattle.sheet.specs.declared.Sheet.{Sheet}
use Rattle.matching.specs.Shares.{weight_of, cut_of, share_of}
use Rattle.matching.proofs.ShareLaws.{cut_most}
use Rattle.opening.proofs.OpenLaws.{weighs}
use Rattle.frame.specs.Frame.{spread}
use Rattle.frame.proofs.FrameLaws.{cut_next}
use Rattle.naming.specs.Name.{index_of}
use Rattle.naming.proofs.Slots.{placed_at}
use Rattle.naming.proofs.Places.{place_onto, index-inside}
use Rattle.homing.specs.Gather.{gathered}
use Rattle.homing.specs.Home.{heard_in}
use Rattle.homing.proofs.GatherLaws.{length-gathered, spread-gathered}

-- ---- each value of the multiplexed frame is that of a place

spread_passes : (sh : Sheet) → Accepted sh → (test : Float → Bool) (xs ys : List Float) → length xs ≡ capacity_all sh → length ys ≡ capacity_all sh
    → spread sh xs ≡ ys → NoneFails test ys → NoneFails test xs
spread_passes sh ok test xs ys full long e h =
    passes_all test xs nan
    (λ x l.
    let p = place_onto sh x (omega arith) in
    let at = index_of sh p.subframe p.slot p.phch p.place in
    let q : get_or ys at nan ≡ get_or xs x nan =
    ap (λ (l : List Float). get_or l at nan) (sym e)
    ∙ placed_at sh p.subframe p.slot p.phch p.place p.there ok xs nan full
    ∙ ap (λ (k : ℕ). get_or xs k nan) p.index in
    ap test (sym q) ∙ passes_at test ys at nan h (omega (arith, index-inside sh p.subframe p.slot p.phch p.place p.there)))

module _ (sh : Sheet) (ok : Accepted sh) (i : ℕ) (l : i < sh.channels) (frame : List Float) where
  -- as many as the channel's share
  pub length-heard_in : length (heard_in sh i frame) ≡ share_of sh i
  unfolding heard_in
  length-heard_in =
      rw (length-take, length-drop, length-gathered nan sh ok frame)
      (omega (
        arith,
        cut_next sh ok i,
        cut_most (capacity_all sh) (weight_of sh) sh.channels (weighs sh ok) (suc i) l,
      ))

  pub heard_passes : (test : Float → Bool) → length frame ≡ capacity_all sh → NoneFails test frame → NoneFails test (heard_in sh i frame)
  unfolding heard_in
  heard_passes test full h =
      let xs = gathered nan sh frame in
      none-take test (share_of sh i) (drop (cut_of sh i) xs)
      (none-drop test (cut_of sh i) xs
      (spread_passes sh ok test xs frame (length-gathered nan sh ok frame) full (spread-gathered nan sh ok frame full) h))
