use lib.Ieee.{nan}
use Rattle.homing.specs.Gather.{part_unmapped}
use Rattle.homing.specs.Pieces.{Through}
use Rattle.homing.proofs.gathering.gather_values.Given as goal

abbrev pub invariant-loop-h : goal.invariant-loop-h
invariant-loop-h l = Through l.fields (part_unmapped nan l.fields l.frame) l.out l.h 0
