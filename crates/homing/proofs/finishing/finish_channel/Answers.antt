use native.Mathlib.Omega.{arith}
use mathlib.Core.Path.{◌∙◌}
use Rattle.opening.proofs.OpenLaws.{size_is}
use Rattle.homing.proofs.FinishLaws.{part_ends, part_finishes, part-finished}
use Rattle.homing.proofs.finishing.finish_channel.Goals as goal

pub slice_bounds-finish-end : goal.slice_bounds-finish-end
slice_bounds-finish-end c =
    let a = c.args in
    omega (arith, part_ends a.opened.now.fields a.i c.channel_start-a.ensures.0 c.equalised.ensures.0 c.requires.0, c.requires.1)

pub finish-requires : goal.finish-requires
finish-requires c =
    let a = c.args in
    let p = c.requires in
    part_finishes a.opened.now.fields a.i c.channel_start-a.ensures.0 c.equalised.ensures.0 c.from-tti.ensures
    (c.from-n.ensures ∙ size_is a.opened.now a.i p.0) p.2 a.joined.now a.opened.now.accepted.ranged p.0 p.1

pub returns : goal.returns
returns c =
    let a = c.args in
    c.finish.ensures
    ∙ part-finished a.opened.now.fields a.i c.channel_start-a.ensures.0 c.equalised.ensures.0 c.from-tti.ensures
    (c.from-n.ensures ∙ size_is a.opened.now a.i c.requires.0) c.requires.2 a.joined.now
