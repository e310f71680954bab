use mathlib.Core.Path.{ap₂, ◌∙◌}
use Rattle.joining.specs.Linked.{both_of}
use Rattle.joining.proofs.linking.Lanes.whole.Goals as goal

pub returns : goal.returns
returns c = c.together-2.ensures ∙ ap₂ both_of c.together-ab.ensures c.together.ensures
