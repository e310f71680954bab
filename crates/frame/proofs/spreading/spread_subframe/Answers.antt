use native.Mathlib.Omega.{arith}
use mathlib.Core.Path.{◌≡◌, refl}
use Prim.Native.Nat.{ℕ, ◌-◌, ◌<◌}
use lib.ListN.{length, take, drop}
use Rattle.sheet.specs.Sizes.{slot_capacity, capacity_all}
use Rattle.sheet.specs.declared.Sheet.{Sheet}
use Rattle.opening.proofs.OpenLaws.{capacity_most}
use Rattle.frame.specs.Frame.{spread_subframe}
use Rattle.frame.specs.Slots.{slot_block}
use Rattle.frame.proofs.BlockLaws.{Lies, block_is, block_lies, block_long, slot-spread}
use Rattle.frame.proofs.SpreadLaws.{parts_start, next-long, parts_turn, parts_end, span_asks, slot-fits}
use Rattle.frame.proofs.spreading.spread_subframe.Goals.{After-block_of-b}
use Rattle.frame.proofs.spreading.spread_subframe.Goals as goal

-- the slot's block
module _ (c : After-block_of-b) where
  abbrev sh : Sheet
  sh = c.args.fields.now

  abbrev t : ℕ
  t = c.loop-t.t

  inside : t < sh.slots
  inside = omega arith

  block : c.block_of-b.result ≡ slot_block sh c.args.h t
  block = block_is sh t c.loop-t.invariant.begins c.span_of-s.ensures c.args.h c.subframes-k.ensures.0 c.requires.3 c.block_of-b.ensures

  lies : Lies (capacity_all sh) (slot_capacity sh t) c.block_of-b.result
  lies = block_lies sh c.requires.1 inside block

  room : length (take (c.span_of-s.result.end - c.loop-t.a) (drop c.loop-t.a c.loop-t.out)) ≡ slot_capacity sh t
  room = next-long c.loop-t.invariant inside c.span_of-s.ensures.end

pub loop-t-init : goal.loop-t-init
loop-t-init c = parts_start _ _ _ _ c.requires.3 refl

pub span_of-s-requires : goal.span_of-s-requires
span_of-s-requires c = span_asks c.args.fields.now c.loop-t.t c.loop-t.invariant.begins c.requires.0 (omega arith) (omega arith)

pub slice_bounds-map_slot-count : goal.slice_bounds-map_slot-count
slice_bounds-map_slot-count c = (lies (goal.at.slice_bounds-map_slot-count c).After-block_of-b).ordered

pub slice_bounds-map_slot-start : goal.slice_bounds-map_slot-start
slice_bounds-map_slot-start c = (lies (goal.at.slice_bounds-map_slot-start c).After-block_of-b).ordered

pub slice_bounds-map_slot-end : goal.slice_bounds-map_slot-end
slice_bounds-map_slot-end c = omega (arith, (lies (goal.at.slice_bounds-map_slot-end c).After-block_of-b).within, c.requires.2)

pub map_slot-requires : goal.map_slot-requires
map_slot-requires c =
    let g = (goal.at.map_slot-requires c).After-block_of-b in
    let n = block_long (sh g) c.requires.1 (inside g) (block g) c.args.bits.now c.requires.2 in (
      slot-fits (sh g) (t g) c.loop-t.invariant.begins c.span_of-s.ensures c.requires.0 (inside g) c.runs_at.ensures (room g) (room g),
      omega (arith, (lies g).inside, room g, n),
      omega (arith, (lies g).within, n, capacity_most (sh g) c.requires.0),
    )

pub loop-t-preserved : goal.loop-t-preserved
loop-t-preserved c =
    let g = (goal.at.loop-t-preserved c).After-block_of-b in
    parts_turn c.loop-t.invariant (inside g) c.span_of-s.ensures.end refl c.map_slot.auto.frame
    (slot-spread (sh g) (t g) c.loop-t.invariant.begins c.span_of-s.ensures c.args.h c.subframes-k.ensures.0 c.requires.3 c.block_of-b.ensures c.requires.0 c.requires.1 (inside g)
    c.runs_at.ensures c.args.bits.now _ c.requires.2 (room g) (room g) c.map_slot.ensures)

pub returns : goal.returns
unfolding spread_subframe
returns c = parts_end c.loop-t.invariant (omega arith)
