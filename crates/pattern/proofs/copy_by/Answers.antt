use native.Mathlib.Omega.{arith}
use lib.ListN.{length}
use Rattle.pattern.proofs.EveryLaws.{every_made}
use Rattle.pattern.proofs.copy_by.Goals as goal

pub returns : goal.returns
returns c =
    let a = c.args in
    let l = c.loop-x in
    every_made 0 a.from a.step (length a.dst.now) a.src.now l.dst (omega arith) (λ k h. l.invariant.2 k (omega arith))
