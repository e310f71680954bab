use native.Mathlib.Omega.{arith}
use mathlib.Core.Path.{◌≡◌, refl, ap}
use Rattle.laws.specs.Sums.{sum_to}
use Rattle.laws.proofs.SumLaws.{sum_more}
use Rattle.sheet.specs.Layout.{slot_width}
use Rattle.sheet.specs.Fields.{phchs_of}
use Rattle.sheet.specs.Sizes.{slot_at}
use Rattle.sheet.proofs.Sheet.bits_needed.Goals as goal

pub loop-t-init : goal.loop-t-init
unfolding sum_to
loop-t-init c = (omega arith, omega arith, omega (arith, c.requires.few_channels))

pub slot_width-sum-requires : goal.slot_width-sum-requires
slot_width-sum-requires c = (c.requires.uplink, c.requires.phch16 c.loop-t.t (omega arith))

pub loop-t-preserved : goal.loop-t-preserved
loop-t-preserved c =
    let f = c.args.self.now in
    let l = c.loop-t in
    let s = sum_more (λ k. slot_width f.uplink (phchs_of f k)) l.t refl c.slot_width-sum.ensures.0 in
    (omega arith, omega arith, omega arith)

pub returns : goal.returns
returns c =
    let f = c.args.self.now in
    let l = c.loop-t in
    let e : l.t ≡ f.slots = omega arith in
    (omega (arith, ap (slot_at f) e), omega (arith, c.requires.few_slots))
