use native.Mathlib.Omega.{arith}
use mathlib.Core.Path.{◌≡◌, refl, sym, ap, ap₂, ◌∙◌}
use mathlib.Core.Bool.{false, ◌||◌}
use Prim.Native.Nat.{◌+◌, ◌*◌}
use borrow.Author.Tests.{lt-ltb, le-ltb}
use lib.Dec.{ltb}
use lib.ListN.{get_or}
use Rattle.laws.specs.Sums.{any_to}
use Rattle.laws.proofs.SumLaws.{any_more, any_hit}
use Rattle.laws.proofs.TableLaws.{up_to-below}
use Rattle.sheet.specs.Counts.{most_paired, most_log}
use Rattle.sheet.specs.Fields.{log_in}
use Rattle.sheet.proofs.Sheet.slot_beyond.Goals.{After-t12-1, Else-n-gt-PAIRED}
use Rattle.sheet.proofs.Sheet.slot_beyond.Goals as goal

-- what the test that was passed says of P, so that each logarithm has its place
few : (c : Else-n-gt-PAIRED) → ltb most_paired c.args.n ≡ false
few c = le-ltb most_paired _ c.if-n-gt-PAIRED.false

there : (c : After-t12-1)
    → log_in c.args.self.now.logs c.args.t c.loop-p.p ≡ get_or c.args.self.now.logs (most_paired * c.args.t + c.loop-p.p) 0
there c = up_to-below most_paired c.loop-p.p _ (omega arith)

pub returns-then-n-gt-PAIRED : goal.returns-then-n-gt-PAIRED
returns-then-n-gt-PAIRED c = simp (lt-ltb _ _ c.if-n-gt-PAIRED.true)

pub loop-p-init : goal.loop-p-init
unfolding any_to
loop-p-init c = (omega arith, refl)

pub returns-then-self-t-gt-MOST_LOG : goal.returns-then-self-t-gt-MOST_LOG
returns-then-self-t-gt-MOST_LOG c =
    let a = c.args in
    let l = c.loop-p in
    sym
    (ap₂ ◌||◌ (few (goal.at.returns-then-self-t-gt-MOST_LOG c).Else-n-gt-PAIRED)
    (any_hit (λ k. ltb most_log (log_in a.self.now.logs a.t k)) a.n l.p (omega arith) (ap (ltb most_log) (there (goal.at.returns-then-self-t-gt-MOST_LOG c).After-t12-1) ∙ lt-ltb _ _ c.if-self-t-gt-MOST_LOG.true)))

pub loop-p-preserved : goal.loop-p-preserved
loop-p-preserved c =
    let a = c.args in
    let l = c.loop-p in
    (omega arith, any_more (λ k. ltb most_log (log_in a.self.now.logs a.t k)) l.p l.invariant.1 (ap (ltb most_log) (there (goal.at.loop-p-preserved c).After-t12-1) ∙ le-ltb _ _ c.if-self-t-gt-MOST_LOG.false))

pub returns : goal.returns
returns c =
    let a = c.args in
    let l = c.loop-p in
    let e : l.p ≡ a.n = omega arith in
    sym (ap₂ ◌||◌ (few (goal.at.returns c).Else-n-gt-PAIRED) (ap (any_to (λ k. ltb most_log (log_in a.self.now.logs a.t k))) (sym e) ∙ l.invariant.1))
