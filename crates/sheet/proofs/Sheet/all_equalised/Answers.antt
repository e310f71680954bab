use native.Mathlib.Omega.{arith}
use mathlib.Core.Path.{ap, ◌∙◌}
use Rattle.laws.specs.Sums.{sum_to}
use Rattle.laws.proofs.SumLaws.{summed_none, summed_more, summed_all}
use Rattle.sheet.specs.Sizes.{equalised_of}
use Rattle.sheet.proofs.Sheet.all_equalised.Goals as goal

pub loop-i-init : goal.loop-i-init
loop-i-init c = summed_none _ _ _

pub equalised-sum-requires : goal.equalised-sum-requires
equalised-sum-requires c = c.requires.tti c.loop-i.i (omega arith)

pub loop-i-preserved : goal.loop-i-preserved
loop-i-preserved c = summed_more c.loop-i.invariant (omega arith) c.equalised-sum.ensures.0 c.equalised-sum.ensures.1

pub returns : goal.returns
returns c = summed_all c.loop-i.invariant (omega arith) ∙ ap (sum_to (equalised_of c.args.self.now)) c.from-i-end.ensures
