use mathlib.Core.Path.{sym, ap}
use mathlib.Core.Bool.{true}
use Prim.Native.Nat.{ℕ, ◌*◌, ◌-◌}
use native.Mathlib.Omega.{arith}
use Rattle.pattern.specs.Pattern.{grown}
use Rattle.pattern.proofs.CountLaws.{grown_yes}
use Rattle.joining.proofs.PlaceLaws.{once, once_heard}
use Rattle.joining.proofs.JoinLaws.{raw_none}
use Rattle.joining.proofs.walking.hear_next.Goals as goal

pub bounds-values-k : goal.bounds-values-k
bounds-values-k c =
    let a = c.args in
    omega (arith, once a.less a.p a.q a.start (omega arith))

pub returns-then-q-start : goal.returns-then-q-start
returns-then-q-start c =
    let a = c.args in
    once_heard a.less a.p a.q a.start a.k a.values.now (omega arith) c.requires.2

pub returns-then-less : goal.returns-then-less
returns-then-less c =
    let a = c.args in
    let g = grown_yes a.p a.q a.start (omega arith) in
    let n = ap (λ (n : ℕ). n * a.p) g in
    rw c.if-less.true (sym (raw_none a.values.now a.k (1 - grown true a.p a.q a.start) (omega arith)), omega arith, omega arith)

pub hear_sent-requires : goal.hear_sent-requires
hear_sent-requires c = rw c.if-less.false at c.requires

pub returns : goal.returns
returns c = let t = c.hear_sent.ensures in rw c.if-less.false (t.0, t.1, t.2)
