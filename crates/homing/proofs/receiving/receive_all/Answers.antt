use native.Mathlib.Omega.{arith}
use Rattle.std.proofs.lemmas.Grind.{common_steps}
use lib.Ieee.{nan}
use Rattle.homing.proofs.GatherLaws.{length-gathered}
use Rattle.homing.proofs.ReceiveLaws.{taken_back}
use Rattle.homing.proofs.receiving.receive_all.Goals as goal

pub receive-requires : goal.receive-requires
receive-requires c =
    let n = length-gathered nan c.args.opened.now.fields c.args.opened.now.accepted c.args.frame.now in
    (c.args.opened.now.accepted, c.requires.0, grind (arith, common_steps))

pub returns : goal.returns
returns c =
    let o = c.args.opened.now in
    let e = taken_back o.fields c.args.number.0 c.args.frame.now c.args.joined.now in
    rw (← e) (grind (arith, common_steps))
