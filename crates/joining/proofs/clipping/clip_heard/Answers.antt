use mathlib.Core.Path.{sym, ap, ◌∙◌}
use lib.Ieee.{Float}
use Rattle.joining.specs.declared.Heard.TheVariants.{Once, Joined}
use Rattle.joining.specs.Joining.{clipped_of}
use Rattle.joining.proofs.clipping.clip_heard.Goals as goal

pub returns-in-Nothing : goal.returns-in-Nothing
unfolding clipped_of
returns-in-Nothing c = sym (ap clipped_of c.in-Nothing.is)

pub returns-in-Once : goal.returns-in-Once
unfolding clipped_of
returns-in-Once c = ap Once c.clip.ensures ∙ sym (ap clipped_of c.in-Once.is)

pub returns-in-Joined : goal.returns-in-Joined
unfolding clipped_of
returns-in-Joined c = ap (λ (s : Float). Joined s c.in-Joined.copies) c.clip-in-Joined.ensures ∙ sym (ap clipped_of c.in-Joined.is)
