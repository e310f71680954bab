use Rattle.homing.proofs.TakeLaws.{hear_in_lem}
use Rattle.homing.proofs.taking.hear_channel.Goals as goal

pub returns : goal.returns
returns c =
    let w = c.walk-w in
    hear_in_lem c.args.opened.now.fields c.args.number.0 c.args.i w.result w.ensures c.args.values.now c.args.m c.hear_bit.ensures
