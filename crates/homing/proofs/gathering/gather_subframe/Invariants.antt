use lib.Ieee.{nan}
use Rattle.homing.specs.Gather.{part_unmapped}
use Rattle.homing.specs.Pieces.{ThroughAt}
use Rattle.homing.proofs.gathering.gather_subframe.Given as goal

abbrev pub invariant-loop-t : goal.invariant-loop-t
invariant-loop-t l = ThroughAt l.fields (part_unmapped nan l.fields l.frame) l.out l.h l.t l.a
