use Rattle.std.proofs.Common.{◌≡◌, List, ◌++◌, length, take, drop, sym, ap, ◌∙◌, arith, length-take-le, take_at}
use Rattle.interleaving.specs.Second.{second_interleaved}
use Rattle.interleaving.proofs.SecondLaws.{second-length}
use Rattle.mapping.specs.declared.lines.Line.{Line}
use borrow.Rule.Slice.PartMut.{put_mid}
use lib.Ieee.{Float, nan}
use Rattle.mapping.specs.Lines.{spot_on, index_on, copied}
use Rattle.mapping.proofs.LineLaws.{whole-within, whole_take}
use Rattle.mapping.proofs.SlotLaws.{settled_bits}
use Rattle.mapping.proofs.short.unmap_between.Goals.{After-laid}
use Rattle.mapping.proofs.short.unmap_between.Goals as goal

-- the slot's values fill the first part of the room
module _ (g : After-laid) where
  abbrev values : List Float
  values = g.laid.new.to

  full : length values ≡ length g.args.frame.now
  full = g.laid.auto.to ∙ length-take-le _ _ g.requires.2

  front : let n = length g.args.frame.now in take n (values ++ drop n g.args.room.now) ≡ values
  front = take_at values _ _ full

pub slice_bounds-laid-end-2 : goal.slice_bounds-laid-end-2
slice_bounds-laid-end-2 c = sym (length-take-le _ _ c.requires.2)

pub laid-requires : goal.laid-requires
laid-requires c = (record { bits = length-take-le _ _ c.requires.2 ∙ c.requires.0.bits; room = c.requires.0.room }, c.requires.1, omega (arith, c.requires.0.room, c.requires.3.inside, c.requires.3.all, c.args.turns.now.few))

pub slice_bounds-along-end-2 : goal.slice_bounds-along-end-2
slice_bounds-along-end-2 c = sym (ap (λ (l : List Float). length l) (front (goal.at.slice_bounds-along-end-2 c).After-laid) ∙ full (goal.at.slice_bounds-along-end-2 c).After-laid)

pub along-requires : goal.along-requires
along-requires c =
    let e = ap (λ (l : List Float). length l) (front (goal.at.along-requires c).After-laid) ∙ full (goal.at.along-requires c).After-laid in
    rw (e, c.whole_line.ensures) (whole-within _ (omega (arith, c.requires.3.inside, c.requires.3.all, c.args.turns.now.few)), c.requires.3)

pub returns : goal.returns
returns c =
    let a = c.args in
    let S = second_interleaved a.values.now in
    let n = length a.frame.now in
    let v = take n (values (goal.at.returns c).After-laid ++ drop n a.room.now) in
    c.along.ensures
    ∙ ap (λ (l : Line). copied nan (spot_on l) (index_on a.at l) v l.count S) c.whole_line.ensures
    ∙ whole_take nan a.at n S v (omega (arith, second-length a.values.now, c.requires.3.inside)) (ap (λ (l : List Float). length l) (front (goal.at.returns c).After-laid) ∙ full (goal.at.returns c).After-laid)
    ∙ ap (put_mid a.at n S) (front (goal.at.returns c).After-laid ∙ settled_bits c.laid.ensures (λ q h. omega arith))
