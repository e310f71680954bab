use Rattle.std.proofs.Common.{length, sym, ◌∙◌, arith}
use Rattle.mapping.specs.Mapping.{at}
use Rattle.mapping.proofs.StrideLaws.{steps_reached, steps_low, steps-whole, steps-last}
use Rattle.mapping.proofs.WalkLaws.{leg_of}
use Rattle.mapping.proofs.Mark.stretch.Goals as goal

pub returns-then-u-low : goal.returns-then-u-low
returns-then-u-low c =
    let u = c.capacity-u.ensures.0 in
    let m = c.args.self in
    leg_of c.requires u (rw u (steps-whole c.args.caps.now m.p m.x m.low c.requires.1 c.requires.0.least (omega arith) (sym u ∙ c.if-u-low.true)))

pub returns-else-u-low : goal.returns-else-u-low
returns-else-u-low c =
    let m = c.args.self in
    leg_of c.requires c.capacity-u.ensures.0
    (steps_low c.args.caps.now m.p m.x m.low c.requires.1 c.requires.0.least (omega arith))

pub returns-then-u-x : goal.returns-then-u-x
returns-then-u-x c =
    let u = c.capacity-u.ensures.0 in
    let m = c.args.self in
    leg_of c.requires u (rw u (steps-last (at c.args.caps.now) (length c.args.caps.now) m.p m.x c.requires.1 c.requires.0.part (omega arith)))

pub returns-else-u-x : goal.returns-else-u-x
returns-else-u-x c =
    let m = c.args.self in
    leg_of c.requires (c.reach.ensures.0 ∙ c.capacity-u.ensures.0)
    (steps_reached (at c.args.caps.now) (length c.args.caps.now) m.p m.x _ _ c.requires.1 c.reach.ensures.1)
