use native.Mathlib.Omega.{arith}
use mathlib.Core.Path.{refl, sym, subst}
use Rattle.sheet.specs.Range.{Ranged, Accepted}
use Rattle.sheet.proofs.FieldLaws.{ranged_in}
use Rattle.opening.proofs.OpenLaws.{weighs, capacity_most, accepted_in}
use Rattle.opening.specs.Opening.{opened}
use Rattle.opening.proofs.lending.with_sheet.Given.{Over}
use Rattle.opening.proofs.lending.with_sheet.Goals.{After-read_fields-fields, In_ok-w}
use Rattle.opening.proofs.lending.with_sheet.Goals as goal

ranged : (g : Over) (c : After-read_fields-fields g) → Ranged c.read_fields-fields.result
ranged g c = subst Ranged (sym c.read_fields-fields.ensures) (ranged_in c.args.bytes.now)

accepted : (g : Over) (c : In_ok-w g) → Accepted c.read_fields-fields.result
accepted g c = subst Accepted (sym c.read_fields-fields.ensures) (accepted_in c.args.bytes.now (sym c.in_ok-w.ensures.number.0))

pub check_bytes-requires : goal.check_bytes-requires
check_bytes-requires g c = (c.read_fields-fields.ensures, ranged g (goal.at.check_bytes-requires g c).After-read_fields-fields)

pub frame_places-d-requires : goal.frame_places-d-requires
frame_places-d-requires g c = (ranged g (goal.at.frame_places-d-requires g c).After-read_fields-fields, c.in_ok-w.ensures.places)

pub sizes-requires : goal.sizes-requires
sizes-requires g c = ranged g (goal.at.sizes-requires g c).After-read_fields-fields

pub cuts-requires : goal.cuts-requires
cuts-requires g c =
    let f = c.read_fields-fields.result in
    let a = accepted g (goal.at.cuts-requires g c).In_ok-w in
    let d = c.frame_places-d.ensures in
    (a.ranged, weighs f a, d, omega (arith, d, capacity_most f a))

pub invariant_of-opened-clause-accepted : goal.invariant_of-opened-clause-accepted
invariant_of-opened-clause-accepted g c = accepted g (goal.at.invariant_of-opened-clause-accepted g c).In_ok-w

pub returns : goal.returns
returns g c = opened _ c.read_fields-fields.ensures (sym c.in_ok-w.ensures.number.0) (_, c.take.ensures, refl)
