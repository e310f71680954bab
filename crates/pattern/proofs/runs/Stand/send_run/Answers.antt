use native.Mathlib.Nat.{mul-le-mul_right}
use native.Mathlib.Omega.{arith}
use borrow.Author.Tests.{leb-false}
use Rattle.pattern.proofs.RunLaws.{ran_none, ran_copied, ran_one}
use Rattle.pattern.proofs.runs.Stand.send_run.Goals as goal

pub overflow_mul-fall : goal.overflow_mul-fall
overflow_mul-fall c = let a = c.args in omega (arith, mul-le-mul_right {m = a.run} {n = 16} a.q c.requires.0)

pub returns-then-run-lt3 : goal.returns-then-run-lt3
returns-then-run-lt3 c = let a = c.args in ran_none a.q a.src.now a.dst.now a.self.e a.self.k a.self.j (omega arith)

pub copy_run-requires : goal.copy_run-requires
copy_run-requires c = (omega (arith, leb-false), omega (arith, leb-false))

pub returns-then-low-q : goal.returns-then-low-q
returns-then-low-q c = ran_copied c.copy_run.ensures (omega (arith, leb-false)) (omega (arith, leb-false))

pub returns : goal.returns
returns c = ran_one (ran_copied c.copy_run.ensures (omega (arith, leb-false)) (omega (arith, leb-false))) (omega (arith, leb-false)) (omega (arith, leb-false)) (omega (arith, leb-false))
