use mathlib.Core.Path.{sym, ap}
use lib.Ieee.{of_bits}
use Rattle.joining.specs.Joining.{value_of}
use Rattle.joining.proofs.filling.value.Goals as goal

pub returns-in-Nothing : goal.returns-in-Nothing
unfolding of_bits value_of
returns-in-Nothing c = sym (ap value_of c.in-Nothing.is)

pub returns-in-Once : goal.returns-in-Once
unfolding value_of
returns-in-Once c = sym (ap value_of c.in-Once.is)

pub returns-in-Joined : goal.returns-in-Joined
unfolding value_of
returns-in-Joined c = sym (ap value_of c.in-Joined.is)
