use native.Mathlib.Omega.{arith}
use mathlib.Core.Path.{◌≡◌, refl, ap, ap₂, ◌∙◌}
use Prim.Native.Nat.{ℕ, ◌+◌, ◌*◌, ◌-◌, ◌%◌, ◌≤◌, ◌<◌}
use lib.ListN.{length, take, drop}
use Rattle.laws.specs.Sums.{sum_to}
use Rattle.laws.proofs.SumLaws.{sum_more, sum-within}
use Rattle.laws.proofs.PartLaws.{part_length}
use Rattle.sheet.specs.Sizes.{size_of, equalised_of}
use Rattle.opening.specs.declared.Opened.{Opened}
use Rattle.opening.proofs.OpenLaws.{size_is, sizes_most}
use Rattle.homing.specs.Home.{channel_start}
use Rattle.homing.specs.Taking.{home_in, taken_from}
use Rattle.homing.proofs.TakeLaws.{taken_next}
use Rattle.homing.proofs.taking.take_segments.Goals.{After-segment_from}
use Rattle.homing.proofs.taking.take_segments.Goals as goal

-- the channel's segment
module _ (c : After-segment_from) where
  abbrev o : Opened
  o = c.args.opened.now

  abbrev i : ℕ
  i = c.loop-i.i

  -- where it begins in the buffer
  abbrev at : ℕ
  at = c.loop-i.base + c.segment_from.result

  inside : i < o.fields.channels
  inside = omega arith

  size : c.from-size.result ≡ size_of o.fields i
  size = c.from-size.ensures ∙ size_is o i inside

  -- T_i
  whole : c.frames-f.result * c.from-size.result ≡ equalised_of o.fields i
  whole = ap₂ ◌*◌ c.frames-f.ensures.0 size

  end : c.loop-i.base + equalised_of o.fields i ≤ length c.loop-i.joined
  unfolding channel_start
  end = omega (arith, sum-within (equalised_of o.fields) i o.fields.channels inside, c.loop-i.invariant.0, c.requires.1)

  fits : at + c.from-size.result ≤ length c.loop-i.joined
  fits = omega (arith, end, whole, c.segment_from.ensures.1)

  long : length (take (at + c.from-size.result - at) (drop at c.loop-i.joined)) ≡ at + c.from-size.result - at
  long = part_length c.loop-i.joined at (at + c.from-size.result) (omega arith) fits

pub loop-i-init : goal.loop-i-init
unfolding sum_to channel_start taken_from
loop-i-init c = (refl, refl)

pub segment_from-requires : goal.segment_from-requires
segment_from-requires c =
    let o = c.args.opened.now in
    let i = c.loop-i.i in
    let l : i < o.fields.channels = omega arith in (
      omega (arith, c.frames-f.ensures.1),
      c.frames-f.ensures.2,
      omega (arith, size_is o i l, sizes_most o.fields c.args.opened.now.accepted i l),
    )

pub overflow_add-at : goal.overflow_add-at
overflow_add-at c = omega (arith, fits (goal.at.overflow_add-at c).After-segment_from)

pub overflow_add-to : goal.overflow_add-to
overflow_add-to c = omega (arith, fits (goal.at.overflow_add-to c).After-segment_from)

pub offset_bounds-joined-at : goal.offset_bounds-joined-at
offset_bounds-joined-at c = omega (arith, fits (goal.at.offset_bounds-joined-at c).After-segment_from)

pub slice_bounds-take_channel-end : goal.slice_bounds-take_channel-end
slice_bounds-take_channel-end c = fits (goal.at.slice_bounds-take_channel-end c).After-segment_from

pub take_channel-requires : goal.take_channel-requires
take_channel-requires c =
    let g = (goal.at.take_channel-requires c).After-segment_from in
    (inside g, c.part.ensures.1, omega (arith, long g, size g))

pub loop-i-preserved : goal.loop-i-preserved
unfolding channel_start
loop-i-preserved c =
    let g = (goal.at.loop-i-preserved c).After-segment_from in
    let l = c.loop-i in
    let y = c.take_channel in
    let sh = (o g).fields in
    let n = c.args.number.0 in
    let from = c.segment_from.ensures.0 ∙ ap₂ (λ (f s : ℕ). n % f * s) c.frames-f.ensures.0 (size g) in (
      sum_more (equalised_of sh) (i g) l.invariant.0 (whole g),
      taken_next (o g) n c.args.values.now c.args.joined.now l.joined (i g) l.base c.segment_from.result (inside g) l.invariant.1
          l.invariant.0 from (size g) (fits g) (y.auto.segment ∙ long g) (y.ensures ∙ ap (home_in sh n (i g)) c.part.ensures.0),
    )
