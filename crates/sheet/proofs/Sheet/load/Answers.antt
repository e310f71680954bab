use native.Mathlib.Omega.{arith}
use mathlib.Core.Path.{◌≡◌, refl, ap, ◌∙◌}
use Rattle.laws.specs.Sums.{sum_to, any_to}
use Rattle.laws.proofs.SumLaws.{sum_more}
use Rattle.sheet.specs.declared.sizes.Load.{Load}
use Rattle.sheet.proofs.SizeLaws.{any_next, load_same}
use Rattle.sheet.proofs.Sheet.load.Goals as goal

pub loop-t-init : goal.loop-t-init
unfolding sum_to any_to
loop-t-init c = (omega arith, refl, refl, omega arith)

pub slot_load-one-requires : goal.slot_load-one-requires
slot_load-one-requires c = (omega (arith, c.requires.0), c.requires.1 c.loop-t.t (omega arith))

pub overflow_add-sum : goal.overflow_add-sum
overflow_add-sum c = omega (arith, c.requires.0, c.requires.1 c.loop-t.t (omega arith))

pub loop-t-preserved : goal.loop-t-preserved
loop-t-preserved c =
    let l = c.loop-t in
    let e = c.slot_load-one.ensures.0 in
    let b = c.requires.1 l.t (omega arith) in (
      omega arith,
      any_next _ l.t l.invariant.1 (ap (λ (x : Load). x.empty) e),
      sum_more _ l.t l.invariant.2 (ap (λ (x : Load). x.sum) e),
      omega arith,
    )

pub returns : goal.returns
returns c =
    let l = c.loop-t in
    let e : l.t ≡ c.args.self.now.slots = omega arith in
    (load_same (l.invariant.1 ∙ ap (any_to _) e) (l.invariant.2 ∙ ap (sum_to _) e), omega (arith, c.requires.0))
