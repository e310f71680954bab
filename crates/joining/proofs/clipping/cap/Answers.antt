use mathlib.Core.Path.{sym, ap}
use mathlib.Core.Bool.{Bool, cond}
use lib.Ieee.{of_bits}
use Rattle.joining.specs.Joining.{utmost}
use Rattle.joining.proofs.clipping.cap.Goals as goal

pub returns-then-x : goal.returns-then-x
unfolding of_bits
returns-then-x c = sym (ap (λ (t : Bool). cond t c.args.x utmost) c.if-x.true)

pub returns-else-x : goal.returns-else-x
unfolding of_bits
returns-else-x c = sym (ap (λ (t : Bool). cond t c.args.x utmost) c.if-x.false)
