use Rattle.std.proofs.Common.{◌-◌, sym, ◌∙◌, arith}
use Rattle.mapping.proofs.RunLaws.{runs_up, runs-down, shift_is}
use Rattle.mapping.proofs.runs_of.Goals as goal

pub returns-then-first-second : goal.returns-then-first-second
returns-then-first-second c =
    let a = c.args in
    let s = shift_is (a.second - a.first) (omega arith) in
    let r = runs_up a.first a.second c.if-first-second.true in
    (s.0 ∙ sym r.0, sym r.1, record { first = s.1; other = omega arith; low = s.2; little = omega arith })

pub returns-else-first-second : goal.returns-else-first-second
returns-else-first-second c =
    let a = c.args in
    let s = shift_is (a.first - a.second) (omega arith) in
    let r = runs-down a.first a.second c.if-first-second.false in
    (sym r.0, s.0 ∙ sym r.1, record { first = omega arith; other = s.1; low = omega arith; little = s.2 })
