use native.Mathlib.Omega.{arith}
use mathlib.Core.Path.{◌≡◌, refl, sym, ap, ◌∙◌}
use mathlib.Core.Bool.{not}
use borrow.Author.Tests.{eq-eqb, ne_eqb}
use lib.Dec.{eqb}
use Rattle.laws.specs.Sums.{any_to}
use Rattle.laws.proofs.SumLaws.{any_more, any_hit}
use Rattle.sheet.specs.Fields.{encoded_of}
use Rattle.sheet.proofs.Sheet.is_silent.Goals as goal

pub loop-i-init : goal.loop-i-init
unfolding any_to
loop-i-init c = (omega arith, refl)

pub returns-then-self-i-ne0 : goal.returns-then-self-i-ne0
returns-then-self-i-ne0 c =
    let f = c.args.self.now in
    let l = c.loop-i in
    sym (ap not (any_hit (λ k. not (eqb (encoded_of f k) 0)) f.channels l.i (omega arith) (ap not (ne_eqb _ _ c.if-self-i-ne0.true))))

pub loop-i-preserved : goal.loop-i-preserved
loop-i-preserved c =
    let f = c.args.self.now in
    let l = c.loop-i in
    (omega arith, any_more (λ k. not (eqb (encoded_of f k) 0)) l.i l.invariant.1 (ap not (eq-eqb _ _ c.if-self-i-ne0.false)))

pub returns : goal.returns
returns c =
    let f = c.args.self.now in
    let l = c.loop-i in
    let e : l.i ≡ f.channels = omega arith in
    sym (ap not (ap (any_to (λ k. not (eqb (encoded_of f k) 0))) (sym e) ∙ l.invariant.1))
