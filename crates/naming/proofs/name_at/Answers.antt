use mathlib.Core.Path.{◌≡◌, refl, ap, ◌∙◌}
use Prim.Native.Nat.{ℕ, ◌-◌}
use native.Mathlib.Omega.{arith}
use Rattle.sheet.specs.Sizes.{size_of}
use Rattle.sheet.specs.declared.Sheet.{Sheet}
use Rattle.matching.specs.Shares.{cut_of}
use Rattle.opening.proofs.OpenLaws.{size_is, sizes_most, low-is}
use Rattle.frame.proofs.SendLaws.{fits_by}
use Rattle.naming.proofs.NamingLaws.{Part, part, stood, name-is}
use Rattle.naming.proofs.name_at.Goals.{After-share-v}
use Rattle.naming.proofs.name_at.Goals as goal

-- the channel's numbers
module _ (c : After-share-v) where
  abbrev f : Sheet
  f = c.args.opened.now.fields

  abbrev i : ℕ
  i = c.channel_at-i.result

  here : Part f c.args.x i
  here = part f c.args.opened.now.accepted c.args.x c.requires c.channel_at-i.ensures.0

  sized : c.from-n.result ≡ size_of f i
  sized = c.from-n.ensures ∙ size_is c.args.opened.now i here.inside

  low : c.from-low.result ≡ cut_of f i
  low = c.from-low.ensures ∙ low-is c.args.opened.now i here.inside

pub walk_of-w-requires : goal.walk_of-w-requires
walk_of-w-requires c =
    let g = (goal.at.walk_of-w-requires c).After-share-v in
    (c.args.opened.now.accepted, (here g).inside, sized g, c.share-v.ensures, refl)

pub overflow_sub-x : goal.overflow_sub-x
overflow_sub-x c =
    let g = (goal.at.overflow_sub-x c).After-share-v in
    omega (arith, low g, (here g).from)

pub sent_at-s-requires : goal.sent_at-s-requires
sent_at-s-requires c =
    let g = (goal.at.sent_at-s-requires c).After-share-v in (
      fits_by (f g) c.args.frame.0 (i g) c.walk_of-w.result c.walk_of-w.ensures (sized g) c.share-v.ensures,
      omega (arith, low g, (here g).share, c.share-v.ensures),
    )

pub bit_number-bit-requires : goal.bit_number-bit-requires
bit_number-bit-requires c =
    let g = (goal.at.bit_number-bit-requires c).After-share-v in (
      c.args.opened.now.accepted.ranged.tti (i g) (here g).inside,
      omega (arith, c.sent_at-s.ensures.within, sized g, sizes_most (f g) c.args.opened.now.accepted (i g) (here g).inside),
    )

pub returns : goal.returns
returns c =
    let g = (goal.at.returns c).After-share-v in
    name-is (f g) c.args.frame.0 c.args.x (i g) c.channel_at-i.ensures.0 c.at-trch.ensures c.bit_number-bit.ensures
    (stood (f g) c.args.opened.now.accepted c.args.frame.0 c.args.x (i g) (here g) c.walk_of-w.result c.walk_of-w.ensures (sized g)
    (ap (λ (z : ℕ). c.args.x - z) (low g)) c.sent_at-s.ensures)
