use mathlib.Core.Path.{sym, subst}
use lib.Dec.{T}
use lib.Ieee.{of_bits}
use Rattle.joining.proofs.MagnitudeLaws.{magnitude_own, magnitude_minus}
use Rattle.joining.proofs.linking.magnitude.Goals as goal

pub returns-then-y-x : goal.returns-then-y-x
unfolding of_bits
returns-then-y-x c = magnitude_own c.args.x (subst T (sym c.well_formed.0.1) tt) c.if-y-x.true

pub returns-else-y-x : goal.returns-else-y-x
unfolding of_bits
returns-else-y-x c = magnitude_minus c.args.x (subst T (sym c.well_formed.0.1) tt) c.if-y-x.false
