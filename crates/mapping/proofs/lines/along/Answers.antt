use Rattle.std.proofs.Common.{◌≡◌, ℕ, length, sym, ap, ◌∙◌, arith}
use Rattle.laws.specs.Sums.{sum_to}
use Rattle.interleaving.proofs.DirectionLaws.{direction_laws}
use Rattle.mapping.specs.Lines.{index_on, spot_on, copied}
use Rattle.mapping.proofs.LineLaws.{walked-inside, walked_ends, copied_none, within_span, turn_starts, copying_starts, move_ready, move_more}
use Rattle.mapping.proofs.lines.along.Goals as goal

pub begin-w-requires : goal.begin-w-requires
begin-w-requires g c =
    let p = c.requires in
    (omega (arith, p.0.few, p.1.inside, p.1.all, c.args.turns.now.few), omega (arith, p.0.room, p.0.few), λ h. omega (arith, p.0.inside 0 h))

pub overflow_mul-end : goal.overflow_mul-end
overflow_mul-end g c = let p = c.requires in omega (arith, p.0.few, within_span p.0)

pub overflow_add-end : goal.overflow_add-end
overflow_add-end g c =
    let p = c.requires in
    omega (arith, c.begin-w.ensures.2, p.0.few, within_span p.0, p.1.inside, p.1.all, c.args.turns.now.few)

pub loop-w-init : goal.loop-w-init
unfolding sum_to
loop-w-init g c =
    let d = g.D.Direction in
    let a = c.args in
    let b = c.begin-w in
    (b.ensures.0, rw b.ensures.1 (copied_none d.none (λ i. d.reads (index_on a.at a.l i) (spot_on a.l i)) (λ i. d.writes (index_on a.at a.l i) (spot_on a.l i)) _ (d.made a.to.now)), omega arith, omega arith)

pub seat_from-s-requires : goal.seat_from-s-requires
seat_from-s-requires g c =
    let p = c.requires in
    let o = c.loop-w.invariant in
    let h = walked-inside o.0 p.0 (omega (arith, c.begin-w.ensures.2)) in
    (o.2, o.3, omega (arith, h, p.1.inside, p.1.all))

pub loop-w-2-init : goal.loop-w-2-init
loop-w-2-init g c =
    let d = g.D.Direction in
    let p = c.requires in
    let o = c.loop-w in
    let e = c.seat_from-s.ensures in
    let t =
    turn_starts {last = c.min-last.result} p.0 (omega (arith, p.1.inside, p.1.all), c.args.turns.now.few) c.way-way.ensures e (omega (arith, c.min-last.ensures, c.begin-w.ensures.2)) in
    let m : length o.to ≡ length c.args.to.now = o.auto.to in
    let z = (direction_laws g.met.D.Direction.directed).sizes c.args.from.now c.args.to.now in
    record {
      copying = copying_starts (d.made o.to) t o.invariant.0 e;
      long = (ap (λ (k : ℕ). d.reads (length c.args.from.now) k) m ∙ z.0 ∙ sym p.1.all, ap (λ (k : ℕ). d.writes (length c.args.from.now) k) m ∙ z.1);
    }

pub one-w-requires : goal.one-w-requires
one-w-requires g c = move_ready g.met.D.Direction.directed c.loop-w-2.invariant (omega arith)

pub one-w-requires-in-loop-w-2 : goal.one-w-requires-in-loop-w-2
one-w-requires-in-loop-w-2 g c =
    let b = g.met.D.Direction.directed in
    let o = move_more b c.loop-w-2.invariant (omega arith) c.one-w.ensures.0 c.one-w.ensures.1 in
    move_ready b o (omega (arith, c.lone_from-lone.ensures))

pub loop-w-2-smaller : goal.loop-w-2-smaller
loop-w-2-smaller g c = omega (arith, c.loop-w-2.invariant.copying.turn.within.some)

pub loop-w-2-preserved : goal.loop-w-2-preserved
loop-w-2-preserved g c =
    let b = g.met.D.Direction.directed in
    let o = move_more b c.loop-w-2.invariant (omega arith) c.one-w.ensures.0 c.one-w.ensures.1 in
    let e = c.one-w-in-loop-w-2.ensures in
    move_more b o (omega (arith, c.lone_from-lone.ensures)) e.0 e.1

pub one-w-requires-then-w-last : goal.one-w-requires-then-w-last
one-w-requires-then-w-last g c = move_ready g.met.D.Direction.directed c.loop-w-2.invariant (omega arith)

pub loop-w-smaller-then-w-last : goal.loop-w-smaller-then-w-last
loop-w-smaller-then-w-last g c = omega (arith, c.lone_from-lone.ensures, c.min-last.ensures, c.seat_from-s.ensures.inside)

pub loop-w-preserved-then-w-last : goal.loop-w-preserved-then-w-last
loop-w-preserved-then-w-last g c =
    let e = c.one-w-then-w-last.ensures in
    let o = move_more g.met.D.Direction.directed c.loop-w-2.invariant (omega arith) e.0 e.1 in
    (o.copying.walked, o.copying.copied.more _ c.loop-w.invariant.1, o.copying.turn.number, o.copying.begun)

pub loop-w-smaller : goal.loop-w-smaller
loop-w-smaller g c = omega (arith, c.min-last.ensures, c.seat_from-s.ensures.inside)

pub loop-w-preserved : goal.loop-w-preserved
loop-w-preserved g c =
    let o = c.loop-w-2.invariant in
    (o.copying.walked, o.copying.copied.more _ c.loop-w.invariant.1, o.copying.turn.number, o.copying.begun)

pub returns : goal.returns
returns g c =
    let d = g.D.Direction in
    let a = c.args in
    let o = c.loop-w.invariant in
    o.1
    ∙ ap (λ (n : ℕ). copied d.none (λ i. d.reads (index_on a.at a.l i) (spot_on a.l i)) (λ i. d.writes (index_on a.at a.l i) (spot_on a.l i)) (d.seen a.from.now) n (d.made a.to.now))
    (walked_ends o.0 c.requires.0.some (omega (arith, c.begin-w.ensures.2)))
