use mathlib.Core.Path.{ap, ◌∙◌}
use mathlib.Core.Bool.{true, false}
use Rattle.joining.specs.declared.linking.Link.{Link}
use Rattle.joining.specs.Joining.{clipped}
use Rattle.joining.specs.Linked.{capped}
use Rattle.joining.proofs.ClipLaws.{magnitude_clip}
use Rattle.joining.proofs.LinkLaws.{first-value, later-value}
use Rattle.joining.proofs.linking.Link.with_value.Goals.{then-a-self, else-a-self}
use Rattle.joining.proofs.linking.Link.with_value.Goals as goal

pub returns-then-self-before : goal.returns-then-self-before
returns-then-self-before c =
    let a = c.args in
    first-value a.self a.before (clipped a.x) c.cap-a.result c.if-self-before.true (c.cap-a.ensures ∙ ap capped c.magnitude.ensures ∙ magnitude_clip a.x)

pub returns-then-self-a : goal.returns-then-self-a
returns-then-self-a c =
    let a = c.args in
    let k = c.cap-a.result in
    let e = c.cap-a.ensures ∙ ap capped c.magnitude.ensures ∙ magnitude_clip a.x in
    let no = c.if-self-before.false in
    let greatest : Link → Link = λ l. record { least = l.least; greatest = k; punctured = l.punctured } in
    elim c.if-a-self.branch [
      | then-a-self w ↦ ap greatest w.l-is ∙ later-value a.self a.before (clipped a.x) k true true no e w.if-a-self.true c.if-self-a.true
      | else-a-self w ↦ ap greatest w.l-is ∙ later-value a.self a.before (clipped a.x) k false true no e w.if-a-self.false c.if-self-a.true
    ]

pub returns-else-self-a : goal.returns-else-self-a
returns-else-self-a c =
    let a = c.args in
    let k = c.cap-a.result in
    let e = c.cap-a.ensures ∙ ap capped c.magnitude.ensures ∙ magnitude_clip a.x in
    let no = c.if-self-before.false in
    elim c.if-a-self.branch [
      | then-a-self w ↦ w.l-is ∙ later-value a.self a.before (clipped a.x) k true false no e w.if-a-self.true c.if-self-a.false
      | else-a-self w ↦ w.l-is ∙ later-value a.self a.before (clipped a.x) k false false no e w.if-a-self.false c.if-self-a.false
    ]
