use mathlib.Core.Path.{◌≡◌}
use mathlib.Core.List.{List}
use Prim.Native.Nat.{ℕ, ◌+◌, ◌<◌}
use native.Mathlib.Omega.{arith}
use lib.ListN.{length, get_or, set}
use lib.Ieee.{Float, nan}
use Rattle.joining.specs.Joining.{clipped, Clips}
use Rattle.laws.proofs.WrittenLaws.{write_none, write_one}
use Rattle.joining.proofs.filling.copy_four.Goals as goal

four : (vs l : List Float) (k i : ℕ) {a b c d : Float} → i + 3 < length l → a ≡ clipped (get_or vs k nan) → b ≡ clipped (get_or vs (k + 1) nan)
    → c ≡ clipped (get_or vs (k + 2) nan) → d ≡ clipped (get_or vs (k + 3) nan) → Clips vs l (set (set (set (set l i a) (i + 1) b) (i + 2) c) (i + 3) d) k i 4
four vs l k i {a} h qa qb qc qd =
    let k0 : k + 0 ≡ k = omega arith in
    let i0 : i + 0 ≡ i = omega arith in
    let w = write_one (write_none nan (λ j. clipped (get_or vs (k + j) nan)) l i) {x = a} (omega arith) (rw k0 qa) in
    write_one (write_one (write_one (rw i0 at w) (omega arith) qb) (omega arith) qc) (omega arith) qd

pub returns : goal.returns
returns c =
    let a = c.args in
    four a.values.now a.segment.now a.k a.i (omega arith) c.clip-a.ensures
    c.clip-b.ensures c.clip-c.ensures c.clip-d.ensures
