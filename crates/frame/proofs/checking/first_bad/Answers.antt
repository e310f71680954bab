use mathlib.Core.Path.{◌≡◌, sym, ap, ◌∙◌}
use mathlib.Core.Bool.{not}
use Prim.Native.Nat.{ℕ, ◌<◌}
use native.Mathlib.Omega.{arith}
use native.Mathlib.Decide.{dec_lt}
use borrow.Author.Tests.{lt-ltb, le-ltb, tests}
use lib.Dec.{ltb}
use lib.ListN.{get_or}
use Rattle.std.proofs.Common.{rules}
use Rattle.std.proofs.lemmas.Iterator.{YieldsList-from_slice}
use Rattle.std.proofs.lemmas.Iterator.Search.{position_from_yields_List}
use Rattle.laws.proofs.FirstFailLaws.{passes_all, fail-found}
use Rattle.frame.specs.Bit.{is_bit}
use Rattle.frame.proofs.checking.first_bad.Goals as goal

pub returns-then-most-le1 : goal.returns-then-most-le1
returns-then-most-le1 c =
    let s = c.args.bytes.now in
    passes_all is_bit s 0 (λ i l. lt-ltb (get_or s i 0) 2 (omega (arith, c.most.ensures i l, c.if-most-le1.true)))

-- what is not above 1 is a bit
not_above : (x : ℕ) → not (ltb 1 x) ≡ is_bit x
not_above x = side (dec_lt x 2)
  where
    side : Dec (x < 2) → not (ltb 1 x) ≡ ltb x 2
    side (yes l) = ap not (le-ltb 1 x (omega arith)) ∙ sym (lt-ltb x 2 l)
    side (no l) = ap not (lt-ltb 1 x (omega arith)) ∙ sym (le-ltb x 2 (omega arith))

pub returns : goal.returns
returns c =
    let s = c.args.bytes.now in
    fail-found is_bit (ltb 1) not_above s
    (position_from_yields_List (ltb 1) _ _ _ c.position.ensures.ran (YieldsList-from_slice s cc) (λ x b q k. search (rules, tests)))
