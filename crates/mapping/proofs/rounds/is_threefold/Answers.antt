use Rattle.std.proofs.Common.{arith, eqb-true}
use mathlib.Core.Bool.{false≢true}
use Rattle.mapping.proofs.rounds.is_threefold.Goals as goal

pub returns-then-caps-ne3 : goal.returns-then-caps-ne3
returns-then-caps-ne3 c = λ e. absurd (false≢true e)

pub returns-then-capacity-first : goal.returns-then-capacity-first
returns-then-capacity-first c = λ e. absurd (false≢true e)

pub returns : goal.returns
returns c =
    λ e.
    let q = eqb-true c.capacity-2.result c.capacity-first.result e in
    record {
      three = omega arith;
      second = omega (arith, c.capacity.ensures, c.capacity-first.ensures);
      third = omega (arith, q, c.capacity-2.ensures, c.capacity-first.ensures);
    }
