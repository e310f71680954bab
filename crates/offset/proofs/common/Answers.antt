use mathlib.Core.Path.{◌≡◌, sym, ap, ◌∙◌}
use Prim.Native.Nat.{ℕ, ◌*◌, ◌%◌, ◌^◌, ◌<◌, min}
use native.Mathlib.Nat.{one-mul}
use native.Mathlib.Omega.{arith}
use lib.Count.{count_trailing_zeros}
use lib.Dec.{lit<}
use lib.Pow.{shl_exact}
use Rattle.laws.proofs.TrailingLaws.{greatest_power, zeros_power}
use Rattle.offset.specs.Offset.{gcd}
use Rattle.offset.proofs.Meaning.{gcd-greatest}
use Rattle.offset.proofs.common.Goals as goal

-- two to r, which is the lesser of the zeros
power : (a b k r : ℕ) → b ≡ 2 ^ k → k < 64 → r ≡ min (count_trailing_zeros 64 a) k → 1 * 2 ^ r % 2 ^ 64 ≡ gcd a b
power a b k r p l e =
    let g = greatest_power 64 k a (gcd a (2 ^ k)) (omega arith) (gcd-greatest a (2 ^ k)) in
    shl_exact 1 r 64 (lit< tt) (omega arith) ∙ one-mul (2 ^ r) ∙ ap (λ (x : ℕ). 2 ^ x) e ∙ sym g ∙ ap (gcd a) (sym p)

-- before the bound, so that a wrong divisor is what a check names first
pub returns : goal.returns
returns c =
    let z = zeros_power 64 c.requires.0 c.args.b c.requires.1 (omega arith) in
    power c.args.a c.args.b c.requires.0 _ c.requires.1 z.0 (omega (arith, z))

pub overflow_shl-result : goal.overflow_shl-result
overflow_shl-result c =
    let z = zeros_power 64 c.requires.0 c.args.b c.requires.1 (omega arith) in
    omega (arith, z)
