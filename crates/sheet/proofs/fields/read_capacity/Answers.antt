use native.Mathlib.Omega.{arith}
use Rattle.bits.specs.Bits.{bit_at}
use Rattle.bits.proofs.BitLaws.{val-append}
use Rattle.sheet.proofs.fields.read_capacity.Goals as goal

pub read_field-requires : goal.read_field-requires
read_field-requires c = omega (arith, c.requires.1 c.if-up-eq0.true)

pub returns : goal.returns
returns c =
    let a = c.args in
    omega (arith, c.read_field-2.ensures.0, c.read_field-3.ensures.0, val-append (bit_at a.s.now) a.at 6 6)
