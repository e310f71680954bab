use native.Mathlib.Omega.{arith}
use Rattle.writing.specs.Written.{slots_bits}
use Rattle.writing.proofs.HoldLaws.{channel-length}
use Rattle.writing.proofs.written.Bits.put_slots.Goals as goal

pub loop-t-init : goal.loop-t-init
unfolding slots_bits
loop-t-init c =
    let f = c.args.fields.now in
    let h = c.requires.1 in
    (omega arith, omega (arith, h.at, channel-length f f.channels), h)
