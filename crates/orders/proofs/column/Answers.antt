use mathlib.Core.Path.{refl}
use Rattle.orders.specs.Orders.{orders, column_at}
use Rattle.orders.proofs.OrderLaws.{column-small}
use Rattle.orders.proofs.column.Goals as goal

pub returns : goal.returns
unfolding column_at orders
returns c = rw c.from.ensures (refl, column-small c.args.tti c.args.n c.requires.0 c.requires.1)
