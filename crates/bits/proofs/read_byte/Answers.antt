use mathlib.Core.Path.{sym, ◌∙◌}
use native.Mathlib.Omega.{arith}
use Rattle.bits.proofs.BitLaws.{byte_val}
use Rattle.bits.proofs.read_byte.Goals as goal

pub returns : goal.returns
returns c =
    let a = c.args in
    let e = c.byte_at.ensures in
    (e.0 ∙ sym (byte_val a.s.now a.k (omega arith)), e.1)
