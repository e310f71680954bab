use Rattle.std.proofs.Common.{◌≡◌, ℕ, get_or, ap, ◌∙◌, arith}
use mathlib.Core.List.{List}
use Rattle.orders.specs.Orders.{order}
use Rattle.orders.proofs.OrderLaws.{order-turn}
use Rattle.interleaving.proofs.second.column_at.Goals as goal

pub returns : goal.returns
returns c =
    let t = c.args.t in
    let e : c.from.result ≡ get_or order t 0 = c.from.ensures ∙ ap (λ (l : List ℕ). get_or l t 0) c.requires.0 in
    (e, omega (arith, (order-turn t c.requires.1).0))
