use native.Mathlib.Omega.{arith}
use mathlib.Core.Path.{◌≡◌, refl, ap, ◌∙◌}
use Prim.Native.Nat.{◌+◌, ◌*◌}
use lib.Dec.{eqb}
use lib.ListN.{get_or}
use Rattle.laws.specs.Sums.{sum_to, any_to}
use Rattle.laws.proofs.SumLaws.{sum_more}
use Rattle.sheet.specs.Counts.{most_codes}
use Rattle.sheet.proofs.SizeLaws.{any_next, load_same}
use Rattle.sheet.proofs.Sheet.slot_load.Goals as goal

pub loop-p-init : goal.loop-p-init
unfolding sum_to any_to
loop-p-init c = (omega arith, refl, refl, omega arith)

pub loop-p-preserved : goal.loop-p-preserved
loop-p-preserved c =
    let a = c.args in
    let l = c.loop-p in (
      omega arith,
      any_next (λ k. eqb (get_or a.self.now.caps (most_codes * a.t + k) 0) 0) l.p l.invariant.1 refl,
      sum_more (λ k. get_or a.self.now.caps (most_codes * a.t + k) 0) l.p l.invariant.2 c.from-sum.ensures,
      omega arith,
    )

pub returns : goal.returns
returns c =
    let l = c.loop-p in
    let e : l.p ≡ get_or c.args.self.now.phchs c.args.t 0 = omega arith in
    (load_same (l.invariant.1 ∙ ap (any_to _) e) (l.invariant.2 ∙ ap (sum_to _) e), omega arith)
