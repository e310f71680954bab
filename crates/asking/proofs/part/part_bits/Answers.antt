use native.Mathlib.Omega.{arith}
use Rattle.asking.specs.Part.{part_given}
use Rattle.asking.proofs.PartLaws.{Cut, cut}
use Rattle.asking.proofs.part.part_bits.Goals.{In-Ok}
use Rattle.asking.proofs.part.part_bits.Goals as goal

of : (c : In-Ok) → Cut c.args.bytes.now c.args.trch.0 c.args.multiplexed.now (part_given c.in-Ok.p)
of c = cut c.args.bytes.now c.args.trch.0 c.args.multiplexed.now (part_given c.in-Ok.p) c.in-Ok.ensures.0

pub overflow_add-result : goal.overflow_add-result
overflow_add-result c = omega (arith, (of (goal.at.overflow_add-result c).In-Ok).within)

pub slice_bounds-result-end : goal.slice_bounds-result-end
slice_bounds-result-end c = omega (arith, (of (goal.at.slice_bounds-result-end c).In-Ok).within)

pub returns-in-Ok-clause-result_value : goal.returns-in-Ok-clause-result_value
returns-in-Ok-clause-result_value c = (of (goal.at.returns-in-Ok-clause-result_value c).In-Ok).taken
