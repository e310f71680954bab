use native.Mathlib.Omega.{arith}
use mathlib.Core.Path.{refl, ◌∙◌}
use mir.Facts.{Fits-le}
use Rattle.laws.specs.Tables.{table}
use Rattle.opening.proofs.OpenLaws.{sizes_more, sizes_all}
use borrow.Author.Rules.{rules}
use Rattle.opening.proofs.sizes.Goals as goal

pub loop-i-init : goal.loop-i-init
unfolding table
loop-i-init c = (omega arith, refl)

pub segment-requires : goal.segment-requires
segment-requires c = c.requires.tti c.loop-i.i (omega arith)

pub overflow_cast-all : goal.overflow_cast-all
overflow_cast-all c = Fits-le c.segment.ensures.1 (search rules)

pub loop-i-preserved : goal.loop-i-preserved
loop-i-preserved c =
    let f = c.args.fields.now in
    let l = c.loop-i in
    (omega arith, sizes_more f.e f.tti l.i l.all (omega arith) l.invariant.1 c.segment.ensures.0)

pub returns : goal.returns
returns c = c.loop-i.invariant.1 ∙ sizes_all c.args.fields.now c.loop-i.i (omega arith)
