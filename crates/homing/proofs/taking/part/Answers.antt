use native.Mathlib.Omega.{arith}
use Rattle.laws.proofs.PartLaws.{part_length}
use Rattle.opening.proofs.OpenLaws.{cut_rises}
use Rattle.frame.proofs.SendLaws.{cut_share, cut_within}
use Rattle.homing.proofs.TakeLaws.{part_at}
use Rattle.homing.proofs.taking.part.Goals as goal

pub slice_bounds-result-count : goal.slice_bounds-result-count
slice_bounds-result-count c = omega (arith, cut_rises c.args.opened.now c.args.i c.requires.1)

pub slice_bounds-result-start : goal.slice_bounds-result-start
slice_bounds-result-start c = omega (arith, cut_rises c.args.opened.now c.args.i c.requires.1)

pub slice_bounds-result-end : goal.slice_bounds-result-end
slice_bounds-result-end c = omega (arith, cut_within c.args.opened.now c.args.i c.requires.1)

pub returns : goal.returns
returns c =
    let o = c.args.opened.now in
    let i = c.args.i in
    let xs = c.args.values.now in
    let up = cut_rises o i c.requires.1 in
    let last = cut_within o i c.requires.1 in
    let n = part_length xs c.from-a.result c.from-z.result (omega (arith, up)) (omega (arith, last)) in
    (part_at o i c.requires.1 xs c.from-a.ensures c.from-z.ensures, omega (arith, n, cut_share o i c.requires.1))
