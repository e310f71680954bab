use native.Mathlib.Omega.{arith}
use mathlib.Core.Path.{◌≡◌, refl, sym, ap, ◌∙◌}
use mathlib.Core.Bool.{Bool, not, cond, ◌||◌}
use lib.Dec.{eqb, ltb}
use Prim.Native.Nat.{ℕ}
use Rattle.counters.proofs.CountLaws.{among_not, among_true}
use Rattle.opening.proofs.OpenLaws.{size_is}
use Rattle.sheet.specs.Sizes.{size_of}
use Rattle.receiving.specs.Listening.{not_sent}
use Rattle.receiving.proofs.listening.find_bit.Goals.{After-is_among}
use Rattle.receiving.proofs.listening.find_bit.Goals as goal

-- N is the segment's, and the test says whether the bit is one of so many
size : (c : After-is_among) → c.from.result ≡ size_of c.args.opened.now.fields c.args.i
size c = c.from.ensures ∙ size_is c.args.opened.now c.args.i c.requires

told : (c : After-is_among) → not c.is_among.result ≡ not_sent c.args.opened.now.fields c.args.i c.args.bit.0
told c =
    ap not c.is_among.ensures
    ∙ among_not c.args.bit.0 c.from.result
    ∙ ap (λ (n : ℕ). eqb c.args.bit.0 0 || ltb n c.args.bit.0) (size c)

pub returns-then-is_among-clause-number : goal.returns-then-is_among-clause-number
returns-then-is_among-clause-number c =
    (ap (λ (b : Bool). cond b 10 0) (sym (ap not c.if-is_among.true) ∙ told (goal.at.returns-then-is_among-clause-number c).After-is_among), refl)

pub returns-then-is_among-clause-index : goal.returns-then-is_among-clause-index
returns-then-is_among-clause-index c =
    let g = (goal.at.returns-then-is_among-clause-index c).After-is_among in
    (c.index.ensures, omega (arith, c.index.ensures, size g, among_true c.args.bit.0 c.from.result (sym c.is_among.ensures ∙ c.if-is_among.true)))

pub returns-else-is_among-clause-number : goal.returns-else-is_among-clause-number
returns-else-is_among-clause-number c =
    (ap (λ (b : Bool). cond b 10 0) (sym (ap not c.if-is_among.false) ∙ told (goal.at.returns-else-is_among-clause-number c).After-is_among), refl)
