use Rattle.std.proofs.Common.{◌≡◌, ◌+◌, ◌≤◌, length, ◌∙◌, arith}
use Rattle.interleaving.specs.Second.{second_interleaved}
use Rattle.interleaving.proofs.DirectionLaws.{sides_kept}
use Rattle.interleaving.proofs.SecondLaws.{second-length}
use Rattle.mapping.specs.Lines.{Within}
use Rattle.mapping.proofs.LineLaws.{stood_none, line_crossed, line-within, over_starts, part_length}
use Rattle.mapping.proofs.SlotLaws.{slot-total, pair_settled}
use Rattle.mapping.proofs.pairs.by_runs.Given.{Over}
use Rattle.mapping.proofs.pairs.by_runs.Goals.{After-line, Start}
use Rattle.mapping.proofs.pairs.by_runs.Goals as goal

-- the slot's bits lie within the others
fits : (g : Over) (c : Start g) → (let d = g.D.Direction in c.args.at + length (d.sent c.args.from.now c.args.to.now) ≤ length (second_interleaved (d.rows c.args.from.now c.args.to.now)))
fits g c = let d = g.D.Direction in omega (arith, second-length (d.rows c.args.from.now c.args.to.now), c.requires.1.inside)

-- a line lies within them
module _ (g : Over) (c : After-line g) where
  kept : let d = g.D.Direction in
      (length (d.rows c.args.from.now c.loop-j.to) ≡ length (d.rows c.args.from.now c.args.to.now))
      × (length (d.sent c.args.from.now c.loop-j.to) ≡ length (d.sent c.args.from.now c.args.to.now))
  kept = sides_kept g.met.D.Direction.directed c.args.from.now _ _ c.loop-j.auto.to

  inside : let d = g.D.Direction in let n = length (d.sent c.args.from.now c.args.to.now) in Within n n c.line.result
  inside =
      let d = g.D.Direction in
      let s = part_length (second_interleaved (d.rows c.args.from.now c.loop-j.to)) c.args.at _ c.loop-j.invariant.1.fits in
      rw (s, kept.1) at (line-within c.of-t.ensures.fit _ _ c.line.ensures c.loop-j.invariant.0)

pub of-t-requires : goal.of-t-requires
of-t-requires g c = c.requires.0.runs

pub loop-j-init : goal.loop-j-init
loop-j-init g c =
    let d = g.D.Direction in
    let S = second_interleaved (d.rows c.args.from.now c.args.to.now) in
    let n = length (d.sent c.args.from.now c.args.to.now) in
    let b = fits g (goal.at.loop-j-init g c).Start in
    let e = slot-total c.of-t.ensures c.requires.0.few in
    (stood_none c.of-t.ensures.fit (part_length S c.args.at n b ∙ c.requires.0.slot.bits ∙ e) (c.requires.0.slot.room ∙ e), over_starts c.args.at n S b)

pub line-requires : goal.line-requires
line-requires g c = let t = c.of-t.ensures in (t.fit, omega (arith, t.run, t.other))

pub along-requires : goal.along-requires
along-requires g c = let w = (goal.at.along-requires g c).After-line in rw ((kept g w).0, (kept g w).1) (inside g w, c.requires.1)

pub loop-j-preserved : goal.loop-j-preserved
loop-j-preserved g c =
    line_crossed g.met.D.Direction.directed c.of-t.ensures.fit c.line.ensures c.args.from.now c.loop-j.to c.along.new.to c.loop-j.invariant.0
    (inside g (goal.at.loop-j-preserved g c).After-line) (fits g (goal.at.loop-j-preserved g c).Start) c.loop-j.invariant.1 c.along.ensures

pub returns : goal.returns
returns g c =
    let t = c.of-t.ensures in
    let o = c.loop-j.invariant in
    record { settled = pair_settled t c.requires.0.few o.0 (omega (arith, t.run, t.other)); rest = o.1.is }
