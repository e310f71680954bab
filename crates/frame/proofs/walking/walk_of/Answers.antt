use native.Mathlib.Omega.{arith}
use mathlib.Core.Path.{◌≡◌, refl, ap, ap₂, ◌∙◌}
use Prim.Native.Nat.{ℕ, ◌≤◌}
use lib.IntN.{pos, ◌-ℤ◌}
use Rattle.sheet.specs.Counts.{most_bits}
use Rattle.matching.specs.Signed.{signed_by}
use Rattle.matching.specs.Shares.{change_of}
use Rattle.offset.specs.Offset.{start_of}
use Rattle.opening.proofs.OpenLaws.{shares_most, sizes_most}
use Rattle.frame.proofs.SendLaws.{sending, started}
use Rattle.frame.proofs.walking.walk_of.Goals.{After-difference-d}
use Rattle.frame.proofs.walking.walk_of.Goals as goal

-- d is that of the fields, and no larger than a frame
module _ (c : After-difference-d) where
  change : signed_by c.difference-d.result.less c.difference-d.result.size ≡ change_of c.args.fields.now c.args.i
  change = c.difference-d.ensures.0 ∙ ap₂ (λ (x y : ℕ). pos x -ℤ pos y) c.requires.3 c.requires.2

  few : c.difference-d.result.size ≤ most_bits
  few =
      c.difference-d.ensures.1 most_bits (omega (arith, c.requires.3, shares_most c.args.fields.now c.requires.0 c.args.i c.requires.1))
      (omega (arith, c.requires.2, sizes_most c.args.fields.now c.requires.0 c.args.i c.requires.1))

pub start_of-e-requires : goal.start_of-e-requires
start_of-e-requires c = (
  omega (arith, c.requires.2, sizes_most c.args.fields.now c.requires.0 c.args.i c.requires.1),
  few (goal.at.start_of-e-requires c).After-difference-d,
  omega (arith, c.requires.4, c.requires.0.ranged.tti c.args.i c.requires.1),
)

pub returns : goal.returns
returns c =
    let d = c.difference-d.result in
    let sh = c.args.fields.now in
    let g = (goal.at.returns c).After-difference-d in
    let begun = started sh c.requires.0 c.args.i c.requires.1 c.args.number.0 d.less d.size c.requires.2 (change g)
    (λ a b. c.start_of-e.ensures.0 a b ∙ ap (λ (t : ℕ). start_of c.args.n (signed_by d.less d.size) t c.args.number.0) c.requires.4) in
    record {
      size = c.requires.2;
      change = change g;
      start = begun;
      fits = sending sh c.requires.0 c.args.i c.requires.1 c.args.number.0 d.less d.size c.start_of-e.result (change g) (few g) c.requires.2 refl begun;
    }
