use Rattle.std.proofs.Common.{refl}
use Rattle.mapping.proofs.WalkLaws.{walk_starts}
use Rattle.mapping.proofs.Mark.start.Goals as goal

pub returns : goal.returns
returns c = (walk_starts c.args.caps.now c.least.result c.requires c.least.ensures, refl)
