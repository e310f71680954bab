use mathlib.Core.Path.{◌∙◌}
use Rattle.opening.proofs.OpenLaws.{low-is}
use Rattle.asking.proofs.PartLaws.{part_same}
use Rattle.asking.proofs.part.part_of.Goals as goal

pub returns : goal.returns
returns c =
    part_same c.args.opened.now.fields c.args.i (c.from.ensures ∙ low-is c.args.opened.now c.args.i c.requires) c.share.ensures
