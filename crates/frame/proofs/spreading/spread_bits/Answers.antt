use native.Mathlib.Omega.{arith}
use mathlib.Core.Path.{◌≡◌, refl, sym, ap, ◌∙◌}
use Prim.Native.Nat.{ℕ, ◌+◌, ◌<◌}
use Rattle.laws.specs.Joined.{in_rows}
use Rattle.laws.proofs.SumLaws.{sum_const}
use Rattle.sheet.specs.Sizes.{places_all, subframes_of}
use Rattle.frame.specs.Frame.{spread_subframe, spread}
use Rattle.frame.proofs.SpreadLaws.{parts_start, next-within, parts_turn, parts_end}
use Rattle.frame.proofs.spreading.spread_bits.Goals.{In-loop-h}
use Rattle.frame.proofs.spreading.spread_bits.Goals as goal

-- the sub-frame's places, from a up to e
module _ (c : In-loop-h) where
  inside : c.loop-h.h < subframes_of c.args.fields.now
  inside = omega arith

  end : c.loop-h.a + c.subframe_places-w.result ≡ c.loop-h.a + places_all c.args.fields.now
  end = ap (λ (w : ℕ). c.loop-h.a + w) c.subframe_places-w.ensures

pub loop-h-init : goal.loop-h-init
loop-h-init c =
    let w = places_all c.args.fields.now in
    let all = sum_const (λ i. w) w (subframes_of c.args.fields.now) (λ i l. refl) in
    parts_start _ _ _ _ (c.requires.2 ∙ sym all) refl

pub slice_bounds-spread_subframe-end : goal.slice_bounds-spread_subframe-end
slice_bounds-spread_subframe-end c =
    let g = (goal.at.slice_bounds-spread_subframe-end c).In-loop-h in
    omega (arith, next-within c.loop-h.invariant (inside g) (end g))

pub loop-h-preserved : goal.loop-h-preserved
loop-h-preserved c =
    let g = (goal.at.loop-h-preserved c).In-loop-h in
    parts_turn c.loop-h.invariant (inside g) (end g) refl c.spread_subframe.auto.out c.spread_subframe.ensures

pub returns : goal.returns
unfolding spread spread_subframe in_rows
returns c = parts_end c.loop-h.invariant (omega arith)
