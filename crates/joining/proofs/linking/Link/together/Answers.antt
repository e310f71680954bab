use mathlib.Core.Path.{ap, ◌∙◌}
use mathlib.Core.Bool.{true, false}
use Rattle.joining.specs.declared.linking.Link.{Link}
use Rattle.joining.proofs.LaneLaws.{both_by}
use Rattle.joining.proofs.linking.Link.together.Goals.{then-other-self, else-other-self}
use Rattle.joining.proofs.linking.Link.together.Goals as goal

pub returns-then-self-other : goal.returns-then-self-other
returns-then-self-other c =
    let a = c.args in
    let greatest : Link → Link = λ l. record { least = l.least; greatest = a.other.greatest; punctured = l.punctured } in
    elim c.if-other-self.branch [
      | then-other-self w ↦ ap greatest w.l-is ∙ both_by a.self a.other true true w.if-other-self.true c.if-self-other.true
      | else-other-self w ↦ ap greatest w.l-is ∙ both_by a.self a.other false true w.if-other-self.false c.if-self-other.true
    ]

pub returns-else-self-other : goal.returns-else-self-other
returns-else-self-other c =
    let a = c.args in
    elim c.if-other-self.branch [
      | then-other-self w ↦ w.l-is ∙ both_by a.self a.other true false w.if-other-self.true c.if-self-other.false
      | else-other-self w ↦ w.l-is ∙ both_by a.self a.other false false w.if-other-self.false c.if-self-other.false
    ]
