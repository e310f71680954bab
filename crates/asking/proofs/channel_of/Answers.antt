use mathlib.Core.Path.{◌∙◌}
use Rattle.opening.proofs.OpenLaws.{size_is}
use Rattle.asking.proofs.AskLaws.{channel-same}
use Rattle.asking.proofs.channel_of.Goals as goal

pub returns : goal.returns
returns c =
    channel-same c.args.opened.now.fields c.args.i c.frames.ensures.0 c.from.ensures
    (c.from-2.ensures ∙ size_is c.args.opened.now c.args.i c.requires) c.share.ensures
