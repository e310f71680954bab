use mathlib.Core.Path.{refl, ◌∙◌}
use Rattle.opening.proofs.OpenLaws.{size_is}
use Rattle.homing.proofs.taking.walk.Goals as goal

pub walk_of-requires : goal.walk_of-requires
walk_of-requires c =
    let o = c.args.opened.now in
    (c.args.opened.now.accepted, c.requires, c.from-n.ensures ∙ size_is o c.args.i c.requires, c.share.ensures, refl)
