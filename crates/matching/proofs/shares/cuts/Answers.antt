use native.Mathlib.Omega.{arith}
use mathlib.Core.Path.{◌≡◌, refl, ◌∙◌}
use Prim.Native.Nat.{◌+◌}
use lib.ListN.{get_or}
use Rattle.matching.specs.Shares.{weight_all}
use Rattle.matching.proofs.ShareLaws.{fill_first, fill_more, part_none, part-all, product_most, quotient_most, cuts_all}
use Rattle.matching.proofs.shares.cuts.Goals.{After-parts-parts}
use Rattle.matching.proofs.shares.cuts.Goals as goal

-- the last sum is that over all channels
all-is : (c : After-parts-parts) → get_or c.parts-parts.result c.from-n.result 0 ≡ weight_all c.args.fields.now
all-is c = part-all c.args.fields.now c.requires.0 c.parts-parts.result c.parts-parts.ensures _ c.from-n.ensures

pub loop-i-init : goal.loop-i-init
loop-i-init c = (omega arith, fill_first _ (part_none c.args.fields.now c.requires.0 c.parts-parts.result c.parts-parts.ensures _ _))

pub overflow_mul-z : goal.overflow_mul-z
overflow_mul-z c = omega (arith, product_most c.args.fields.now c.requires.0 c.parts-parts.result c.parts-parts.ensures (c.loop-i.i + 1) (omega arith) {d = c.args.d} (omega arith))

pub nonzero_div-z : goal.nonzero_div-z
nonzero_div-z c = omega (arith, c.requires.1, all-is (goal.at.nonzero_div-z c).After-parts-parts)

pub overflow_cast-z : goal.overflow_cast-z
overflow_cast-z c = omega (arith, quotient_most c.args.fields.now c.requires.0 c.parts-parts.result c.parts-parts.ensures (c.loop-i.i + 1) (omega arith) c.requires.1 {d = c.args.d} (all-is (goal.at.overflow_cast-z c).After-parts-parts))

pub loop-i-preserved : goal.loop-i-preserved
loop-i-preserved c = let l = c.loop-i in (omega arith, fill_more _ l.i l.z (omega arith) l.invariant.1 refl)

pub returns : goal.returns
returns c =
    let l = c.loop-i in
    l.invariant.1 ∙ cuts_all c.args.fields.now c.requires.0 c.parts-parts.result c.parts-parts.ensures l.i c.requires.2 (all-is (goal.at.returns c).After-parts-parts) (omega arith)
