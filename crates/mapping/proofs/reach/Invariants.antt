use Rattle.std.proofs.Common.{◌≤◌, length}
use Rattle.mapping.specs.Mapping.{at}
use Rattle.mapping.specs.Strides.{Reached}
use Rattle.mapping.proofs.reach.Given as goal

abbrev pub invariant-loop-q : goal.invariant-loop-q
invariant-loop-q l = (l.q ≤ length l.caps) × Reached (at l.caps) l.q l.p l.x l.stride l.end
