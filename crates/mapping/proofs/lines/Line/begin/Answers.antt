use Rattle.std.proofs.Common.{ℕ, ◌+◌, ◌-◌, refl, ap, ◌∙◌, arith}
use Rattle.mapping.specs.Mapping.{pos_of}
use Rattle.mapping.proofs.lines.Line.begin.Goals as goal

pub spot-requires : goal.spot-requires
spot-requires c = (c.requires.2 (omega (arith, c.if-self-eq0.false)), c.requires.1)

pub returns-else-self-eq0 : goal.returns-else-self-eq0
returns-else-self-eq0 c =
    let l = c.args.self in (
      record {
        far = omega arith;
        index = omega arith;
        place = λ h. c.spot.ensures.0 ∙ ap (λ (x : ℕ). l.base + (pos_of l.room (l.p + 1) x - 1)) (omega arith);
      },
      refl,
      refl,
    )
