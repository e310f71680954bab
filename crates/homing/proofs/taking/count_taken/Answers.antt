use native.Mathlib.Omega.{arith}
use mathlib.Core.Path.{ap, ◌∙◌}
use lib.ListN.{get_or}
use Rattle.laws.specs.Sums.{sum_to}
use Rattle.laws.proofs.SumLaws.{summed_none, summed_more, summed_all, sum_same}
use Rattle.sheet.specs.Sizes.{size_of}
use Rattle.opening.proofs.OpenLaws.{size_is}
use Rattle.homing.specs.Home.{taken_count}
use Rattle.homing.proofs.taking.count_taken.Goals as goal

pub loop-i-init : goal.loop-i-init
loop-i-init c = summed_none _ _ _

pub loop-i-preserved : goal.loop-i-preserved
loop-i-preserved c = summed_more c.loop-i.invariant (omega arith) c.from-sum.ensures (omega arith)

pub returns : goal.returns
unfolding taken_count
returns c =
    let o = c.args.opened.now in
    summed_all c.loop-i.invariant (omega arith)
    ∙ ap (sum_to (λ k. get_or o.sizes k 0)) c.from-i-end.ensures
    ∙ sum_same (λ k. get_or o.sizes k 0) (size_of o.fields) o.fields.channels (λ k h. size_is o k h)
