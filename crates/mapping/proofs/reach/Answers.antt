use Rattle.std.proofs.Common.{◌≡◌, length, refl, arith}
use Rattle.mapping.specs.Mapping.{at}
use Rattle.mapping.proofs.StrideLaws.{reach_start, reach_more, reach_full}
use Rattle.mapping.proofs.reach.Goals.{then-had-v, else-had-v}
use Rattle.mapping.proofs.reach.Goals as goal

pub loop-q-init : goal.loop-q-init
loop-q-init c = let a = c.args in (omega arith, rw c.requires.0 (reach_start (at a.caps.now) a.p a.x (omega arith)))

pub until-end-requires : goal.until-end-requires
until-end-requires c = omega (arith, c.turns_had-had.ensures)

pub loop-q-preserved : goal.loop-q-preserved
loop-q-preserved c =
    let a = c.args in
    let l = c.loop-q in
    let v = c.capacity-v.ensures.0 in
    let t = c.turns_had-had.ensures.0 in
    let U = at a.caps.now in (
      omega arith,
      elim c.if-had-v.branch [
        | then-had-v w ↦ rw (w.stride-is, w.end-is, w.until-end.ensures, t, v) (reach_more U a.p a.x l.q l.stride l.end l.invariant.1 (omega (arith, w.if-had-v.true)))
        | else-had-v w ↦ rw (w.stride-is, w.end-is) (reach_full U a.p a.x l.q l.stride l.end l.invariant.1 (omega (arith, w.if-had-v.false)))
      ],
    )

pub returns : goal.returns
returns c =
    let l = c.loop-q in
    let e : l.q ≡ length c.args.caps.now = omega arith in
    (refl, rw e at l.invariant.1)
