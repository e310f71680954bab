use Rattle.std.proofs.Common.{◌≡◌, ℕ, List, ◌++◌, length, take, drop, sym, ap, ◌∙◌, arith, length-take-le, take_at}
use Rattle.interleaving.specs.Second.{second_interleaved}
use Rattle.interleaving.proofs.SecondLaws.{second-length}
use Rattle.mapping.specs.declared.lines.Line.{Line}
use Rattle.mapping.specs.Mapping.{ones, slot_of}
use Rattle.mapping.specs.Lines.{spot_on, index_on, copied}
use Rattle.mapping.proofs.LineLaws.{whole-within, whole_put}
use Rattle.mapping.proofs.SlotLaws.{settled_slot}
use Rattle.mapping.proofs.short.map_between.Goals.{After-along}
use Rattle.mapping.proofs.short.map_between.Goals as goal

-- the slot's bits fill the first part of the room
module _ (g : After-along) where
  abbrev bits : List ℕ
  bits = g.along.new.to

  full : length bits ≡ length g.args.frame.now
  full = g.along.auto.to ∙ length-take-le _ _ g.requires.2

  front : let n = length g.args.frame.now in take n (bits ++ drop n g.args.room.now) ≡ bits
  front = take_at bits _ _ full

pub slice_bounds-along-end-2 : goal.slice_bounds-along-end-2
slice_bounds-along-end-2 c = sym (length-take-le _ _ c.requires.2)

pub along-requires : goal.along-requires
along-requires c =
    let e = length-take-le (length c.args.frame.now) c.args.room.now c.requires.2 in
    rw (e, c.whole_line.ensures) (whole-within _ (omega (arith, c.requires.3.inside, c.requires.3.all, c.args.turns.now.few)), c.requires.3)

pub slice_bounds-laid-end-2 : goal.slice_bounds-laid-end-2
slice_bounds-laid-end-2 c = sym (ap (λ (l : List ℕ). length l) (front (goal.at.slice_bounds-laid-end-2 c).After-along) ∙ full (goal.at.slice_bounds-laid-end-2 c).After-along)

pub laid-requires : goal.laid-requires
laid-requires c = (record { bits = ap (λ (l : List ℕ). length l) (front (goal.at.laid-requires c).After-along) ∙ full (goal.at.laid-requires c).After-along ∙ c.requires.0.bits; room = c.requires.0.room }, c.requires.1, omega (arith, c.requires.0.room, c.requires.3.inside, c.requires.3.all, c.args.turns.now.few))

pub returns : goal.returns
returns c =
    let a = c.args in
    let S = second_interleaved a.bits.now in
    let n = length a.frame.now in
    settled_slot c.laid.ensures (λ q h. omega arith) a.frame.now c.requires.0.room
    ∙ ap (λ (l : List ℕ). slot_of ones a.caps.now l a.frame.now)
    (front (goal.at.returns c).After-along
    ∙ c.along.ensures
    ∙ ap (λ (l : Line). copied 0 (index_on a.at l) (spot_on l) S l.count (take n a.room.now)) c.whole_line.ensures
    ∙ whole_put 0 a.at n S (take n a.room.now) (omega (arith, second-length a.bits.now, c.requires.3.inside)) (length-take-le _ _ c.requires.2))
