use Rattle.std.proofs.Common.{refl, ◌∙◌, arith}
use Rattle.interleaving.proofs.DirectionLaws.{direction_laws}
use Rattle.interleaving.proofs.WholeLaws.{going_starts, copied_on}
use Rattle.interleaving.proofs.whole.ones.Goals as goal

pub loop-seat-init : goal.loop-seat-init
loop-seat-init g c = going_starts c.requires.0 ((direction_laws g.met.D.Direction.directed).made_long c.args.to.now ∙ c.requires.1)

pub loop-seat-preserved : goal.loop-seat-preserved
loop-seat-preserved g c =
    let o = c.loop-seat in copied_on g.met.D.Direction.directed c.args.from.now o.to o.invariant (omega arith) c.one.ensures refl refl
