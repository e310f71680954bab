use mathlib.Core.Path.{◌≡◌, ◌∙◌}
use Prim.Native.Nat.{◌-◌, min}
use native.Mathlib.Omega.{arith}
use lib.ListN.{length, take, drop, length-drop}
use lib.Seq.{take_all}
use Rattle.pattern.proofs.EveryLaws.{every_beside}
use Rattle.pattern.proofs.copy.Goals as goal

pub returns-then-step-eq1 : goal.returns-then-step-eq1
returns-then-step-eq1 c =
    let a = c.args in
    let s = a.src.now in
    let b = min a.from (length s) in
    let few = rw c.if-step-eq1.true at c.requires.fits in
    let all : take (length s - b) (drop b s) ≡ drop b s = take_all (length s - b) (drop b s) (omega (arith, length-drop b s)) in
    rw c.if-step-eq1.true (c.copy_beside.ensures ∙ rw (c.min.ensures, all) (every_beside 0 a.from (length a.dst.now) s (omega (arith, length-drop b s))))
