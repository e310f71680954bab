use Rattle.sheet.proofs.SizeLaws.{frames_are}
use Rattle.sheet.proofs.sizes.frames.Goals as goal

pub returns : goal.returns
returns c = frames_are c.args.tti c.requires
