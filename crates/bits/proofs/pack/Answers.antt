use Prim.Native.Nat.{◌*◌}
use native.Mathlib.Omega.{arith}
use lib.ListN.{length}
use Rattle.bits.specs.Bits.{val, bit_of}
use Rattle.laws.proofs.TableLaws.{filled-all}
use Rattle.bits.proofs.pack.Goals as goal

pub returns : goal.returns
returns c =
    let a = c.args in
    let l = c.loop-k in
    filled-all (λ j. val (bit_of a.bs.now) (8 * j) 8) l.out (length a.out.now) (omega arith) (λ j b. l.invariant j (omega arith))
