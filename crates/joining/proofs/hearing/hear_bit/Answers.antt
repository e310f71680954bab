use mathlib.Core.Path.{◌∙◌}
use native.Mathlib.Omega.{arith}
use Rattle.matching.specs.Signed.{signed_by}
use Rattle.joining.proofs.HomeLaws.{Alone, heard_alone}
use Rattle.joining.proofs.hearing.hear_bit.Goals.{After-sent_before-to}
use Rattle.joining.proofs.hearing.hear_bit.Goals as goal

-- where the bit's values stand
alone : (c : After-sent_before-to)
    → let a = c.args in
    Alone (signed_by a.d.less a.d.size) a.n a.e a.bit a.values.now c.sent_before-from.result c.sent_before-to.result
alone c =
    let a = c.args in
    heard_alone (signed_by a.d.less a.d.size) a.n a.e a.bit a.values.now c.requires.0.rates c.requires.1
    c.sent_before-from.ensures c.sent_before-to.ensures

pub overflow_sub-to : goal.overflow_sub-to
overflow_sub-to c = omega (arith, alone (goal.at.overflow_sub-to c).After-sent_before-to)

pub hear_at-requires : goal.hear_at-requires
hear_at-requires c = omega (arith, alone (goal.at.hear_at-requires c).After-sent_before-to)

pub returns : goal.returns
returns c = c.hear_at.ensures ∙ (alone (goal.at.returns c).After-sent_before-to).joined
