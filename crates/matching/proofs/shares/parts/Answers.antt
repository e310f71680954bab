use native.Mathlib.Omega.{arith}
use mathlib.Core.Path.{refl, ◌∙◌}
use Rattle.laws.specs.Sums.{sum_to}
use Rattle.laws.proofs.SumLaws.{sum_more}
use Rattle.matching.proofs.ShareLaws.{fill_first, fill_more, parts_all}
use Rattle.matching.proofs.shares.parts.Goals as goal

pub loop-i-init : goal.loop-i-init
unfolding sum_to
loop-i-init c = (omega arith, refl, omega arith, fill_first _ refl)

pub weight-part-requires : goal.weight-part-requires
weight-part-requires c =
    let r = c.requires in
    let i = c.loop-i.i in
    (r.ratio256 i (omega arith), r.encoded i (omega arith), r.tti i (omega arith))

pub loop-i-preserved : goal.loop-i-preserved
loop-i-preserved c =
    let l = c.loop-i in
    let p = sum_more _ l.i l.invariant.1 c.weight-part.ensures.0 in
    (omega arith, p, omega arith, fill_more _ l.i l.all (omega arith) l.invariant.3 p)

pub returns : goal.returns
returns c =
    let l = c.loop-i in
    l.invariant.3 ∙ parts_all c.args.fields.now l.i (omega arith)
