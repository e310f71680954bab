use mathlib.Core.Path.{sym, ap}
use mathlib.Core.Bool.{Bool, false, ◌&&◌}
use lib.IntN.{pos}
use lib.Ieee.{fin, of_bits, neg, le}
use Rattle.joining.proofs.checking.in_range.Goals as goal

pub returns-then-x : goal.returns-then-x
unfolding of_bits neg
returns-then-x c = sym (ap (λ (b : Bool). b && le c.args.x (fin false 1 (pos 16))) c.if-x.true)

pub returns-else-x : goal.returns-else-x
unfolding of_bits neg
returns-else-x c = sym (ap (λ (b : Bool). b && le c.args.x (fin false 1 (pos 16))) c.if-x.false)
