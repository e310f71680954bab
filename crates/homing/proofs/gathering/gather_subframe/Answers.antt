use native.Mathlib.Omega.{arith}
use mathlib.Core.Path.{◌≡◌, refl, ap, ◌∙◌}
use Prim.Native.Nat.{ℕ, ◌+◌, ◌*◌, ◌-◌, ◌≤◌, ◌<◌}
use lib.Ieee.{nan}
use lib.ListN.{length, take, drop}
use Rattle.sheet.specs.Sizes.{slot_capacity, capacity_all}
use Rattle.sheet.specs.declared.Sheet.{Sheet}
use Rattle.opening.proofs.OpenLaws.{capacity_most}
use Rattle.frame.specs.Slots.{slot_block}
use Rattle.frame.proofs.FrameLaws.{length-slot-part}
use Rattle.frame.proofs.SpreadLaws.{span_asks, slot-fits}
use Rattle.frame.proofs.BlockLaws.{Lies, block_in, block_is, block_lies, block_long}
use Rattle.homing.proofs.ThroughLaws.{frame_ends, frame_lent, slots_begin, slots_through}
use Rattle.homing.proofs.gathering.gather_subframe.Goals.{After-block_of-b}
use Rattle.homing.proofs.gathering.gather_subframe.Goals as goal

-- the slot: its part of the frame, and where its bits stand
module _ (c : After-block_of-b) where
  abbrev sh : Sheet
  sh = c.args.fields.now

  abbrev t : ℕ
  t = c.loop-t.t

  -- where its part begins, and where it ends
  abbrev x : ℕ
  x = c.args.h * c.subframe_places-w.result + c.loop-t.a

  abbrev y : ℕ
  y = c.args.h * c.subframe_places-w.result + c.span_of-s.result.end

  inside : t < sh.slots
  inside = omega arith

  end : y ≤ capacity_all sh
  end = frame_ends sh c.loop-t.invariant.begins c.requires.2 inside c.span_of-s.ensures c.subframe_places-w.ensures refl refl

  block : c.block_of-b.result ≡ slot_block sh c.args.h t
  block = block_is sh t c.loop-t.invariant.begins c.span_of-s.ensures c.args.h c.subframes-k.ensures.0 c.subframe_places-w.ensures c.block_of-b.ensures

  lies : Lies (capacity_all sh) (slot_capacity sh t) c.block_of-b.result
  lies = block_lies sh c.requires.2 inside block

  long : length (block_in c.block_of-b.result c.loop-t.out) ≡ c.block_of-b.result.to - c.block_of-b.result.from
  long = block_long sh c.requires.2 inside block c.loop-t.out c.loop-t.invariant.through.long

  size : length (take (y - x) (drop x c.args.frame.now)) ≡ slot_capacity sh t
  size =
      ap length (frame_lent sh c.loop-t.invariant.begins c.requires.2 inside c.span_of-s.ensures c.subframe_places-w.ensures refl refl c.args.frame.now)
      ∙ length-slot-part sh t inside c.args.frame.now c.requires.1 c.args.h c.requires.2

pub loop-t-init : goal.loop-t-init
loop-t-init c = slots_begin _ _ _ _ c.requires.3

pub span_of-s-requires : goal.span_of-s-requires
span_of-s-requires c = span_asks c.args.fields.now c.loop-t.t c.loop-t.invariant.begins c.requires.0 (omega arith) (omega (arith, c.subframe_places-w.ensures))

pub offset_bounds-out-b : goal.offset_bounds-out-b
offset_bounds-out-b c =
    let g = (goal.at.offset_bounds-out-b c).After-block_of-b in
    omega (arith, (lies g).ordered, (lies g).within, capacity_most (sh g) c.requires.0)

pub slice_bounds-unmap_slot-count-in-loop-t-2 : goal.slice_bounds-unmap_slot-count-in-loop-t-2
slice_bounds-unmap_slot-count-in-loop-t-2 c = (lies (goal.at.slice_bounds-unmap_slot-count-in-loop-t-2 c).After-block_of-b).ordered

pub slice_bounds-unmap_slot-start-in-loop-t-2 : goal.slice_bounds-unmap_slot-start-in-loop-t-2
slice_bounds-unmap_slot-start-in-loop-t-2 c = (lies (goal.at.slice_bounds-unmap_slot-start-in-loop-t-2 c).After-block_of-b).ordered

pub slice_bounds-unmap_slot-end-in-loop-t-2 : goal.slice_bounds-unmap_slot-end-in-loop-t-2
slice_bounds-unmap_slot-end-in-loop-t-2 c =
    omega (arith, (lies (goal.at.slice_bounds-unmap_slot-end-in-loop-t-2 c).After-block_of-b).within, c.loop-t.invariant.through.long)

pub unmap_slot-requires : goal.unmap_slot-requires
unmap_slot-requires c =
    let g = (goal.at.unmap_slot-requires c).After-block_of-b in (
      slot-fits (sh g) (t g) c.loop-t.invariant.begins c.span_of-s.ensures c.requires.0 (inside g) c.runs_at.ensures (size g) (size g),
      omega (arith, (lies g).inside, size g, long g),
      omega (arith, (lies g).within, long g, capacity_most (sh g) c.requires.0),
    )

pub loop-t-preserved : goal.loop-t-preserved
loop-t-preserved c =
    let g = (goal.at.loop-t-preserved c).After-block_of-b in
    slots_through nan (sh g) c.requires.0 c.args.frame.now c.loop-t.invariant c.requires.2 (inside g) c.span_of-s.ensures c.subframe_places-w.ensures refl refl
    c.runs_at.ensures (block g) (size g) _ c.out-1.given.0 c.unmap_slot.ensures
