use Rattle.std.proofs.Common.{◌≡◌, ℕ, List, get_or, sym, ap, ◌∙◌, arith}
use Rattle.orders.specs.Orders.{order}
use Rattle.interleaving.proofs.DirectionLaws.{direction_laws}
use Rattle.interleaving.proofs.WholeLaws.{columned_starts, columned_long, columned_down, columned_more, columned_ends}
use Rattle.interleaving.proofs.whole.columns.Given.{Over}
use Rattle.interleaving.proofs.whole.columns.Goals.{After-from}
use Rattle.interleaving.proofs.whole.columns.Goals as goal

pub loop-c-init : goal.loop-c-init
loop-c-init g c =
    let l = direction_laws g.met.D.Direction.directed in
    columned_starts c.requires.1 (l.seen_long c.args.from.now) (l.made_long c.args.to.now ∙ c.requires.0)

-- the column of this turn
column : (g : Over) (c : After-from g) → c.from.result ≡ get_or order c.loop-c.c-index 0
column g c = c.from.ensures ∙ ap (λ (l : List ℕ). get_or l c.loop-c.c-index 0) c.columns.ensures

pub column-k-requires : goal.column-k-requires
column-k-requires g c =
    let o = c.loop-c in (
      columned_down o.invariant (omega arith) (column g (goal.at.column-k-requires g c).After-from),
      sym ((direction_laws g.met.D.Direction.directed).made_long o.to) ∙ columned_long o.invariant,
    )

pub loop-c-preserved : goal.loop-c-preserved
loop-c-preserved g c =
    columned_more c.loop-c.invariant (omega arith) (column g (goal.at.loop-c-preserved g c).After-from) c.column-k.ensures

pub returns : goal.returns
returns g c = columned_ends c.loop-c.invariant (omega arith)
