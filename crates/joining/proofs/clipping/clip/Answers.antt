use mathlib.Core.Path.{◌∙◌}
use lib.Ieee.{of_bits, neg}
use Rattle.joining.proofs.ClipLaws.{cap_stays, cap_falls}
use Rattle.joining.proofs.clipping.clip.Goals as goal

pub returns-then-y : goal.returns-then-y
unfolding of_bits neg
returns-then-y c = let k = c.cap-y in k.ensures ∙ cap_stays c.args.x (rw k.ensures at c.if-y.true)

pub returns-else-y : goal.returns-else-y
unfolding of_bits neg
returns-else-y c = let k = c.cap-y in cap_falls c.args.x (rw k.ensures at c.if-y.false)
