use Rattle.std.proofs.Common.{◌+◌, ap, arith}
use Rattle.mapping.proofs.WalkLaws.{base_fits, first_fits, onward-here, onward-next}
use Rattle.mapping.proofs.Mark.onward.Goals as goal

pub overflow_add-first : goal.overflow_add-first
overflow_add-first c = omega (arith, first_fits c.requires.0, c.min.ensures)

pub overflow_add-result-else-r : goal.overflow_add-result-else-r
overflow_add-result-else-r c = omega (arith, base_fits c.requires.0)

pub returns-then-r : goal.returns-then-r
returns-then-r c = onward-here c.requires.0 c.args.k c.requires.1 (omega arith)

pub returns-else-r : goal.returns-else-r
returns-else-r c = onward-next c.requires.0 _ (ap (λ n. c.args.self.first + n) c.min.ensures) (omega arith)
