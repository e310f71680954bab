use mathlib.Core.Path.{refl}
use Rattle.listing.proofs.ListLaws.{text-none}
use Rattle.listing.proofs.Text.new.Goals as goal

pub returns : goal.returns
returns c = (text-none, refl)
