use native.Mathlib.Omega.{arith}
use mathlib.Core.Path.{ap, ap₂, ◌∙◌}
use Rattle.orders.specs.Orders.{column_at}
use Rattle.matching.specs.Signed.{signed_by}
use Prim.Native.Nat.{ℕ, ◌%◌}
use Rattle.offset.proofs.KeptLaws.{kept_start}
use Rattle.offset.proofs.Whole.{start_in_lem}
use Rattle.offset.proofs.start.Goals as goal

pub returns : goal.returns
returns c =
    let a = c.args in
    let p =
    c.column-p.ensures.0
    ∙ ap₂ column_at c.from.ensures (c.within-k.ensures.0 ∙ ap (λ (f : ℕ). a.frame.0 % f) c.frames.ensures.0)
    in
    let e = c.start_from.ensures ∙ kept_start a.n a.d.size a.tti a.frame.0 a.d.less p (c.kept-s.ensures.0 _) in
    let b = start_in_lem a.n (signed_by a.d.less a.d.size) a.tti a.frame.0 (omega arith) in
    (e, omega (arith, e, b.0), omega (arith, e, b.1))
