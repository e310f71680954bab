use Rattle.std.proofs.Common.{◌≡◌, length, arith}
use Rattle.mapping.proofs.StrideLaws.{least_more}
use Rattle.mapping.proofs.least.Goals as goal

pub loop-cap-init : goal.loop-cap-init
loop-cap-init c = record { all = λ q l. absurd (omega arith); small = omega arith }

pub loop-cap-preserved : goal.loop-cap-preserved
loop-cap-preserved c = let l = c.loop-cap in rw (c.min-m.ensures, c.from.ensures) (least_more c.args.caps.now l.cap-index l.m l.invariant)

pub returns : goal.returns
returns c =
    let l = c.loop-cap in
    let e : l.cap-index ≡ length c.args.caps.now = omega arith in
    rw e at l.invariant
