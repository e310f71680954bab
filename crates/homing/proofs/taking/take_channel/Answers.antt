use mathlib.Core.Path.{sym, ◌∙◌}
use Rattle.homing.proofs.TakeLaws.{home_in_lem}
use Rattle.homing.proofs.taking.take_channel.Goals as goal

pub returns : goal.returns
returns c =
    let w = c.walk-w in
    home_in_lem c.args.opened.now.fields c.args.number.0 c.args.i w.result w.ensures c.args.values.now (c.requires.2 ∙ sym w.ensures.size)
    c.join_segment.ensures
