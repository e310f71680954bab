use Rattle.std.proofs.Common.{◌≡◌, ◌+◌, arith}
use Rattle.mapping.proofs.PairLaws.{traced_part, traced_other}
use Rattle.mapping.proofs.pairs.Pair.line_after.Goals as goal

pub returns-then-j-self : goal.returns-then-j-self
returns-then-j-self c = rw c.if-j-self.true (traced_part c.requires.0)

pub returns-then-j-self-2 : goal.returns-then-j-self-2
returns-then-j-self-2 c = rw c.if-j-self-2.true (traced_other c.requires.0)

pub returns : goal.returns
returns c =
    let a = c.args in
    let e : a.j ≡ a.self.b + a.self.c + 2 = omega arith in
    rw e c.last_line.ensures
