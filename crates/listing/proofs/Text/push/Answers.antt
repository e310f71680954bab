use Rattle.listing.proofs.ListLaws.{pushed}
use Rattle.listing.proofs.Text.push.Goals as goal

pub returns : goal.returns
returns c = pushed c.args.self.now c.args.more.now c.copy_from_slice.ensures.after
