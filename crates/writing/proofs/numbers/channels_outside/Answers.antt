use native.Mathlib.Omega.{arith}
use mathlib.Core.Path.{sym, ◌∙◌}
use Rattle.laws.proofs.SumLaws.{any_hit}
use Rattle.writing.specs.Numbers.{channel_outside}
use Rattle.writing.proofs.numbers.channels_outside.Goals as goal

pub returns-then-channel_outside : goal.returns-then-channel_outside
returns-then-channel_outside c =
    let f = c.args.fields.now in
    sym (any_hit (channel_outside f) f.channels c.loop-i.i (omega arith) (sym c.channel_outside.ensures ∙ c.if-channel_outside.true))
