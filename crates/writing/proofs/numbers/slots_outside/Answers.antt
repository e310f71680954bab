use native.Mathlib.Omega.{arith}
use mathlib.Core.Path.{sym, ◌∙◌}
use Rattle.laws.proofs.SumLaws.{any_hit}
use Rattle.writing.specs.Numbers.{slot_outside}
use Rattle.writing.proofs.numbers.slots_outside.Goals as goal

pub returns-then-slot_outside : goal.returns-then-slot_outside
returns-then-slot_outside c =
    let f = c.args.fields.now in
    sym (any_hit (slot_outside f) f.slots c.loop-t.t (omega arith) (sym c.slot_outside.ensures ∙ c.if-slot_outside.true))
