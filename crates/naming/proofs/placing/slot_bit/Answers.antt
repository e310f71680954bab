use native.Mathlib.Omega.{arith}
use Rattle.naming.proofs.Slots.{bit_below}
use Rattle.naming.proofs.PlacingLaws.{bit_is}
use Rattle.naming.proofs.placing.slot_bit.Goals as goal

pub returns : goal.returns
returns c =
    let a = c.args in
    let sh = a.fields.now in
    let e = bit_is sh c.requires.0 a.t c.requires.1 c.from.ensures a.p a.place c.requires.2 c.runs_at-runs.ensures c.bit_at.ensures in
    (e, omega (arith, e, bit_below sh a.t a.p a.place c.requires.2 c.requires.3 c.requires.4))
