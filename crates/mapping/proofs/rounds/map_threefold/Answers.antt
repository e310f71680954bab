use Rattle.std.proofs.Common.{◌≡◌, ℕ, List, length, get_or, sym, ap, ◌∙◌, add-one, arith}
use Rattle.laws.specs.Sums.{sum_to}
use Rattle.orders.specs.Orders.{order}
use Rattle.interleaving.specs.Second.{second_interleaved, read_before}
use Rattle.interleaving.proofs.SecondLaws.{read_all}
use Rattle.interleaving.proofs.WholeLaws.{turn_ends, turn-down}
use Rattle.mapping.proofs.HandLaws.{carried_none, carried_on, carried_all}
use Rattle.mapping.proofs.rounds.map_threefold.Goals.{After-from}
use Rattle.mapping.proofs.rounds.map_threefold.Goals as goal

pub capacity-requires : goal.capacity-requires
capacity-requires c = omega (arith, c.requires.0.three)

pub start-h-requires : goal.start-h-requires
start-h-requires c = let e = c.capacity.ensures in (c.requires.0, e.0, e.1)

pub loop-c-init : goal.loop-c-init
unfolding sum_to
loop-c-init c =
    let a = c.args in
    let e = c.start-h.ensures in
    (omega arith, e.0, carried_none (second_interleaved a.bits.now) a.frame.now e.1)

-- the column of this turn
column : (c : After-from) → c.from.result ≡ get_or order c.loop-c.c-index 0
column c = c.from.ensures ∙ ap (λ (l : List ℕ). get_or l c.loop-c.c-index 0) c.columns.ensures

pub put_column-h-requires : goal.put_column-h-requires
put_column-h-requires c =
    let p = c.requires in
    let o = c.loop-c in
    let i = o.invariant in
    record {
      slot = rw i.2.long p.1;
      hands = i.2.hands;
      down = turn-down (length c.args.bits.now) o.c-index (omega arith) (column (goal.at.put_column-h-requires c).After-from) i.1 p.2;
    }

pub loop-c-preserved : goal.loop-c-preserved
loop-c-preserved c =
    let x = column (goal.at.loop-c-preserved c).After-from in
    let K = length c.args.bits.now in
    let o = c.loop-c in
    let e = c.put_column-h.ensures in (
      omega arith,
      e.0 ∙ turn_ends K o.c-index (omega arith) x o.invariant.1 ∙ ap (read_before K) (sym (add-one o.c-index)),
      carried_on o.invariant.2 e.1,
    )

pub shape_of-frame : goal.shape_of-frame
shape_of-frame c = c.loop-c.invariant.2.long

pub returns : goal.returns
returns c =
    let b = c.args.bits.now in
    let o = c.loop-c in
    let q : o.c-index ≡ 30 = omega (arith, o.invariant.0) in
    carried_all b o.invariant.2 c.start-h.ensures.0 (omega (arith, o.invariant.1, ap (read_before (length b)) q, read_all (length b)))
