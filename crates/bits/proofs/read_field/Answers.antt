use mathlib.Core.Path.{◌≡◌, ap, ◌∙◌}
use Prim.Native.Nat.{ℕ, ◌*◌, ◌-◌, ◌/◌, ◌%◌, ◌^◌}
use native.Mathlib.Omega.{arith}
use lib.Pow.{pow_pos}
use Rattle.bits.proofs.BitLaws.{field_read, shifted, bits-lt}
use Rattle.bits.proofs.read_field.Goals as goal

pub nonzero_rem-result : goal.nonzero_rem-result
nonzero_rem-result c = let n = c.args.n in omega (arith, shifted n (omega arith), pow_pos n)

pub returns : goal.returns
returns c =
    let a = c.args in
    let two = c.two_at-two.result in
    let e : two / 2 ^ (16 - a.at % 8 - a.n) % (1 * 2 ^ a.n % 18446744073709551616) ≡ two / 2 ^ (16 - a.at % 8 - a.n) % 2 ^ a.n =
    ap (λ (m : ℕ). two / 2 ^ (16 - a.at % 8 - a.n) % m) (shifted a.n (omega arith))
    in
    let r = e ∙ field_read a.s.now a.at a.n two c.two_at-two.ensures (omega arith) in
    (r, omega (arith, r, bits-lt a.s.now a.at a.n))
