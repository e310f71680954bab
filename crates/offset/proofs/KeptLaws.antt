-- Laws of the start that S of the frame's column gives.
use mathlib.Core.Path.{◌≡◌, sym, ap, ap₂, ◌∙◌}
use mathlib.Core.Bool.{Bool}
use Prim.Native.Nat.{ℕ, ◌+◌, ◌*◌, ◌%◌, ◌≤◌}
use native.Mathlib.Nat.{mul-le-mul}
use native.Mathlib.Omega.{arith}
use lib.IntN.{ℤ}
use Rattle.sheet.specs.Counts.{most_bits}
use Rattle.sheet.specs.Sizes.{frames_in}
use Rattle.orders.specs.Orders.{column_at}
use Rattle.matching.specs.Signed.{signed_by}
use Rattle.matching.proofs.SignedLaws.{magnitude}
use Rattle.offset.specs.Offset.{remainder_of, q_of, S, start_of}

pub kept_start : (n m tti frame : ℕ) (less : Bool) → {p s : ℕ} → p ≡ column_at tti (frame % frames_in tti)
    → s ≡ S (q_of n (remainder_of (signed_by less m) n)) (frames_in tti) p → (2 * s * m + 1) % (2 * n) ≡ start_of n (signed_by less m) tti frame
unfolding start_of
kept_start n m tti frame less ep es =
    let q : ℤ = q_of n (remainder_of (signed_by less m) n) in
    ap₂ (λ (x y : ℕ). (2 * x * y + 1) % (2 * n)) (es ∙ ap (S q (frames_in tti)) ep) (sym (magnitude less m))

-- the product fits, for an S of 32 bits
pub wide_product : (s m : ℕ) → s ≤ 4294967295 → m ≤ most_bits → 2 * s * m ≤ 8589934590 * most_bits
wide_product s m h i = mul-le-mul {n₁ = 2 * s} {m₁ = m} {n₂ = 8589934590} {m₂ = most_bits} (omega arith) i
