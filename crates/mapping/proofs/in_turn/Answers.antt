use Rattle.std.proofs.Common.{◌≡◌, ◌+◌, ◌*◌, ◌≤◌, length, ap, ◌∙◌, arith}
use Rattle.interleaving.specs.Second.{second_interleaved}
use Rattle.interleaving.proofs.DirectionLaws.{sides_kept}
use Rattle.interleaving.proofs.SecondLaws.{second-length}
use Rattle.mapping.specs.Strides.{Along}
use Rattle.mapping.specs.Lines.{Within, line_along, part_from}
use Rattle.mapping.specs.declared.lines.Line.{Line}
use Rattle.mapping.proofs.WalkLaws.{along_starts, standing_starts, standing_next, standing_settled}
use Rattle.mapping.proofs.LineLaws.{over_starts, part_length, within_span}
use Rattle.mapping.proofs.AlongLaws.{stretch_within, crossed}
use Rattle.mapping.proofs.in_turn.Given.{Over}
use Rattle.mapping.proofs.in_turn.Goals.{After-line-l, Start}
use Rattle.mapping.proofs.in_turn.Goals as goal

-- the slot's bits lie within the others
fits : (g : Over) (c : Start g) → (let d = g.D.Direction in c.args.at + length (d.sent c.args.from.now c.args.to.now) ≤ length (second_interleaved (d.rows c.args.from.now c.args.to.now)))
fits g c = let d = g.D.Direction in omega (arith, second-length (d.rows c.args.from.now c.args.to.now), c.requires.2.inside)

-- a stretch, and the line that it is
module _ (g : Over) (c : After-line-l g) where
  going : let d = g.D.Direction in
      Along c.args.caps.now d.none (part_from c.args.at (length (d.sent c.args.from.now c.args.to.now)) (second_interleaved (d.rows c.args.from.now c.loop-m.to))) c.loop-m.m c.stretch-r.result c.loop-m.m.x c.loop-m.m.k (d.sent c.args.from.now c.loop-m.to)
  going = along_starts c.loop-m.invariant.0 c.stretch-r.ensures

  kept : let d = g.D.Direction in
      (length (d.rows c.args.from.now c.loop-m.to) ≡ length (d.rows c.args.from.now c.args.to.now))
      × (length (d.sent c.args.from.now c.loop-m.to) ≡ length (d.sent c.args.from.now c.args.to.now))
  kept = sides_kept g.met.D.Direction.directed c.args.from.now _ _ c.loop-m.auto.to

  inside : let d = g.D.Direction in let n = length (d.sent c.args.from.now c.args.to.now) in Within n n (line_along c.loop-m.m c.stretch-r.result)
  inside =
      let d = g.D.Direction in
      rw kept.1 at (stretch_within going (part_length (second_interleaved (d.rows c.args.from.now c.loop-m.to)) c.args.at _ c.loop-m.invariant.1.fits)
      (omega (arith, c.requires.2.inside, c.requires.2.all, c.args.turns.now.few)) c.requires.1)

pub start-m-requires : goal.start-m-requires
start-m-requires g c = let p = c.requires in omega (arith, p.0.bits, p.1, p.2.inside, p.2.all, c.args.turns.now.few)

pub loop-m-init : goal.loop-m-init
loop-m-init g c =
    let d = g.D.Direction in
    let S = second_interleaved (d.rows c.args.from.now c.args.to.now) in
    let n = length (d.sent c.args.from.now c.args.to.now) in
    let b = fits g (goal.at.loop-m-init g c).Start in
    (standing_starts c.start-m.ensures (record { bits = part_length S c.args.at n b ∙ c.requires.0.bits; room = c.requires.0.room }), over_starts c.args.at n S b)

pub stretch-r-requires : goal.stretch-r-requires
stretch-r-requires g c = (c.loop-m.invariant.0.mark, omega arith)

pub line-l-requires : goal.line-l-requires
line-l-requires g c = c.stretch-r.ensures.steps.from

pub along-requires : goal.along-requires
along-requires g c = let w = (goal.at.along-requires g c).After-line-l in rw (c.line-l.ensures, (kept g w).0, (kept g w).1) (inside g w, c.requires.2)

pub overflow_mul-l : goal.overflow_mul-l
overflow_mul-l g c =
    rw c.line-l.ensures (omega (arith, within_span (inside g (goal.at.overflow_mul-l g c).After-line-l), c.requires.2.inside, c.requires.2.all, c.args.turns.now.few))

pub overflow_add-m : goal.overflow_add-m
overflow_add-m g c =
    let w = (goal.at.overflow_add-m g c).After-line-l in
    rw c.line-l.ensures
    (omega (arith, within_span (inside g w), (going g w).leg.mark.fits, c.requires.0.bits, c.requires.2.inside, c.requires.2.all, c.args.turns.now.few))

pub onward-m-requires : goal.onward-m-requires
onward-m-requires g c =
    let w = (goal.at.onward-m-requires g c).After-line-l in
    let a =
    (crossed g.met.D.Direction.directed c.args.from.now c.loop-m.to c.along.new.to (going g w) (inside g w) c.line-l.ensures (fits g (goal.at.onward-m-requires g c).Start) c.loop-m.invariant.1 c.along.ensures).0 in
    (a.leg, λ h. ap (λ (x : Line). c.loop-m.m.k + x.count * c.stretch-r.result.stride) c.line-l.ensures ∙ a.bit h)

pub loop-m-smaller : goal.loop-m-smaller
loop-m-smaller g c = c.onward-m.ensures.nearer

pub loop-m-preserved : goal.loop-m-preserved
loop-m-preserved g c =
    let w = (goal.at.loop-m-preserved g c).After-line-l in
    let a =
    crossed g.met.D.Direction.directed c.args.from.now c.loop-m.to c.along.new.to (going g w) (inside g w) c.line-l.ensures (fits g (goal.at.loop-m-preserved g c).Start) c.loop-m.invariant.1 c.along.ensures in
    (standing_next a.0 c.onward-m.ensures, a.1)

pub returns : goal.returns
returns g c = let o = c.loop-m.invariant in record { settled = standing_settled o.0 (omega arith); rest = o.1.is }
