-- Step 5 as a whole: for every N from 1, every d and every frame, S is well defined at the column P(n).
use Prim.Native.Nat.{ℕ, zero, suc, ◌+◌, ◌*◌, ◌-◌, ◌/◌, ◌%◌, ◌<◌}
use mathlib.Core.Path.{◌≡◌, refl, sym, ◌∙◌, ap}
use mathlib.Core.Logic.{◌≢◌}
use mathlib.Core.Bool.{Bool, true, false}
use native.Mathlib.Nat.{mod-lt, div-add-mod', mul_assoc, mul_left_comm}
use native.Mathlib.Omega.{arith}
use borrow.Author.Tests.{leb-true, leb-false}
use lib.Dec.{leb}
use lib.IntN.{ℤ, pos, neg_ℤ, nat_abs}
use Rattle.sheet.specs.Sizes.{frames_in}
use Rattle.orders.specs.Orders.{column_at}
use Rattle.offset.specs.Offset.{remainder_of, q_of, y_of, S, start_of}
use Rattle.offset.proofs.QuotientLaws.{q_up, q_down, q_down_pos}
use Rattle.offset.proofs.Meaning.{mod_below}
use Rattle.orders.proofs.OrderLaws.{frames_bounds, column_swaps}
use Rattle.offset.proofs.Distinct.{distinct, hit, S-at}

neg_not_zero : (k : ℕ) → 0 < k → neg_ℤ (pos k) ≢ pos 0
neg_not_zero zero h e = omega arith
neg_not_zero (suc k) h e = let w : suc k ≡ 0 = ap nat_abs e in omega arith

-- q is never 0
pub q_not_zero : (N R : ℕ) → R < N → q_of N R ≢ pos 0
q_not_zero N zero h e = neg_not_zero (N / (N - 0)) (q_down_pos N 0 h) (sym (q_down N 0 h (λ p l. omega arith)) ∙ e)
q_not_zero N (suc r) h e = go (leb (2 * suc r) N) refl
  where
    go : (t : Bool) → leb (2 * suc r) N ≡ t → ⊥
    go true x = let w : (N - 1) / suc r + 1 ≡ 0 = ap nat_abs (sym (q_up N (suc r) (omega arith) (omega arith) (leb-true _ _ x)) ∙ e) in omega arith
    go false x =
        let g : N < 2 * suc r = leb-false (2 * suc r) N x in
        neg_not_zero (N / (N - suc r)) (q_down_pos N (suc r) h) (sym (q_down N (suc r) h (λ p l. omega arith)) ∙ e)

-- one x, and no other, has y mod F at the column, and S there is its y div F
pub record OnlyOne (q : ℤ) (F c : ℕ) : Type 0 where
  pub x : ℕ
  pub small : x < F
  pub there : y_of q F x % F ≡ c
  pub only : (z : ℕ) → z < F → y_of q F z % F ≡ c → z ≡ x
  pub value : S q F c ≡ y_of q F x / F

pub well_defined : (N : ℕ) (d : ℤ) (t frame : ℕ) → 0 < N → t < 4 → OnlyOne (q_of N (remainder_of d N)) (frames_in t) (column_at t (frame % frames_in t))
unfolding remainder_of
well_defined N d t frame n h =
    let q : ℤ = q_of N (remainder_of d N) in
    let F : ℕ = frames_in t in
    let nz : q ≢ pos 0 = q_not_zero N (remainder_of d N) (mod_below d N n) in
    let i : column_at t (frame % F) < F = (column_swaps t (frame % F) (omega arith) (mod-lt frame (frames_bounds t (omega arith)).0)).0 in
    let w = hit q t (column_at t (frame % F)) nz h i in
    record {
      x = w.0;
      small = w.1;
      there = w.2;
      only = λ z l e. distinct q t z w.0 nz h l w.1 (e ∙ sym w.2);
      value = ap (S q F) (sym w.2) ∙ S-at q t nz h w.0 w.1;
    }

-- the start is odd, and in 1 to 2N-1
odd_mod : (s m N : ℕ) → 0 < N → 0 < (2 * s * m + 1) % (2 * N)
odd_mod s m N h =
    let x : ℕ = 2 * s * m + 1 in
    let k : ℕ = x / (2 * N) in
    let d : k * (2 * N) + x % (2 * N) ≡ x = div-add-mod' x (2 * N) in
    let a : 2 * s * m ≡ 2 * (s * m) = mul_assoc 2 s m in
    let b : k * (2 * N) ≡ 2 * (k * N) = mul_left_comm k 2 N in
    omega arith

pub start_in_lem : (N : ℕ) (d : ℤ) (t frame : ℕ) → 0 < N → (0 < start_of N d t frame) × (start_of N d t frame < 2 * N)
unfolding start_of
start_in_lem N d t frame h =
    let s : ℕ = S (q_of N (remainder_of d N)) (frames_in t) (column_at t (frame % frames_in t)) in
    (odd_mod s (nat_abs d) N h, mod-lt (2 * s * nat_abs d + 1) (omega arith))
