-- Dropped bits and extra copies, counted: by differences, of one bit, and of a stretch between two dropped bits.
use mathlib.Core.Path.{◌≡◌, refl, ap, ◌∙◌}
use Prim.Native.Nat.{ℕ, zero, suc, ◌+◌, ◌-◌, ◌≤◌, ◌<◌}
use native.Mathlib.Nat.{add-zero}
use native.Mathlib.Omega.{arith}
use Rattle.laws.specs.Sums.{sum_to, sum_from}
use Rattle.laws.proofs.SumLaws.{sum_same, sum_zeros, sum_shift}
use Rattle.demands.specs.Words.{missed, dropped_in}
use Rattle.demands.specs.Thinned.{beyond, extra_in}

pub missed-is : (c : ℕ) → missed c ≡ 1 - c
missed-is zero = refl
missed-is (suc c) = omega arith

pub beyond-is : (c : ℕ) → beyond c ≡ c - 1
beyond-is zero = refl
beyond-is (suc c) = omega arith

sum_one : (f : ℕ → ℕ) (m : ℕ) → sum_from f m 1 ≡ f m
unfolding sum_to
sum_one f m = omega (arith, ap f (add-zero m))

module _ (copies : ℕ → ℕ) where
  pub dropped-one : (m : ℕ) → dropped_in copies m 1 ≡ 1 - copies m
  dropped-one m = sum_one (λ x. missed (copies x)) m ∙ missed-is (copies m)

  pub extra-one : (m : ℕ) → extra_in copies m 1 ≡ copies m - 1
  extra-one m = sum_one (λ x. beyond (copies x)) m ∙ beyond-is (copies m)

  -- from a dropped bit to another there are two at least
  pub dropped-two : (m g : ℕ) → 0 < g → copies m ≡ 0 → copies (m + g) ≡ 0 → 2 ≤ dropped_in copies m (suc g)
  unfolding sum_to
  dropped-two m zero h a b = absurd (omega arith)
  dropped-two m (suc g) h a b =
      let f : ℕ → ℕ = λ i. missed (copies (m + i)) in
      omega (arith, sum_shift f g, ap (λ (x : ℕ). missed (copies x)) (add-zero m), ap missed a, ap missed b)

  -- and where each bit has a copy there is none
  pub dropped-none : (a L : ℕ) → ((i : ℕ) → i < L → 0 < copies (a + i)) → dropped_in copies a L ≡ 0
  dropped-none a L h =
      sum_same (λ i. missed (copies (a + i))) (λ i. 0) L (λ i l. missed-is (copies (a + i)) ∙ omega (arith, h i l)) ∙ sum_zeros L
