use native.Mathlib.Omega.{arith}
use mathlib.Core.Path.{◌≡◌, ◌∙◌}
use Prim.Native.Nat.{◌<◌}
use lib.ListN.{length, take}
use lib.Seq.{ext_get_or, get_or-take, length-take-le}
use Rattle.pattern.proofs.copy_beside.Goals as goal

pub returns : goal.returns
returns c =
    let l = c.loop-i in
    let b = c.args.bits.now in
    let n = length b in
    let long : length l.dst ≡ length c.args.dst.now = omega arith in
    let same : take n l.dst ≡ b =
    ext_get_or 0 (take n l.dst) b (length-take-le n l.dst (omega arith)) (λ k h.
    let k' : k < n = omega (arith, h, length-take-le n l.dst (omega arith)) in
    get_or-take n l.dst k 0 k' ∙ l.invariant k (omega (arith, k'))) in
    rw (same, long) at c.fill.ensures
