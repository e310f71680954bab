use mathlib.Core.Path.{sym}
use lib.Ieee.{of_bits}
use Rattle.joining.proofs.LinkLaws.{link_none}
use Rattle.joining.proofs.linking.Link.new.Goals as goal

pub returns : goal.returns
unfolding of_bits
returns c = sym link_none
