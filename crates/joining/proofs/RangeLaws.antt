-- What a fold over a test, and the place of the first element that fails it, say of the first that fails.
use mathlib.Core.Path.{◌≡◌, refl, ap, ◌∙◌, sym}
use mathlib.Core.Bool.{Bool, true, false, cond, not, ◌&&◌, false≢true}
use mathlib.Core.List.{List, [], ◌∷◌}
use Prim.Native.Nat.{ℕ, suc, ◌+◌, ◌<◌, ◌≤◌}
use native.Mathlib.Omega.{arith}
use lib.ListN.{length}
use Rattle.std.specs.List.{fold, position, position_or_len}
use Rattle.std.specs.Option.{MatchOption}
use Rattle.std.proofs.lemmas.List.Recursion.{is_position_or_len}
use Rattle.std.proofs.Common.{Option, Some, None}
use borrow.Author.Tests.{ltb-true, ltb-false}
use lib.Dec.{ltb}
use Rattle.laws.specs.FirstFail.{first_fail}
use Rattle.laws.proofs.FirstFailLaws.{fail_most}

module _ {A : Type 0} (ok : A → Bool) where
  abbrev pub all : Bool → List A → Bool
  all b xs = fold (λ (b : Bool) (x : A). b && ok x) b xs

  none-after : (xs : List A) → all false xs ≡ false
  none-after [] = refl
  none-after (x ∷ xs) = none-after xs

  pub all_none : (xs : List A) → all true xs ≡ true → first_fail ok xs ≡ length xs
  unfolding first_fail
  all_none [] h = refl
  all_none (x ∷ xs) h = go (ok x) h (all_none xs)
    where
      go : (b : Bool) → all b xs ≡ true → (all true xs ≡ true → first_fail ok xs ≡ length xs) → cond b (suc (first_fail ok xs)) 0 ≡ suc (length xs)
      go true h k = ap suc (k h)
      go false h k = absurd (false≢true (sym (none-after xs) ∙ h))

  place : (xs : List A) → first_fail ok xs ≡ position_or_len (λ x. not (ok x)) xs
  unfolding first_fail
  place xs = is_position_or_len (first_fail ok) (λ x. not (ok x)) refl (λ x xs. go (ok x) (first_fail ok xs)) xs
    where
      go : (b : Bool) (n : ℕ) → cond b (suc n) 0 ≡ cond (not b) 0 (1 + n)
      go true n = omega arith
      go false n = refl

  placed : (m n f : ℕ) (b : Bool) → ltb m n ≡ b → f ≡ m → f ≤ n → MatchOption (cond b (Some m) None) (f ≡ n) (λ i. (i < n) × (i ≡ f))
  placed m n f true e q l = (omega (arith, ltb-true), omega arith)
  placed m n f false e q l = omega (arith, ltb-false)

  pub first_place : (r : Option ℕ) (xs : List A) → r ≡ position (λ x. not (ok x)) xs
      → MatchOption r (first_fail ok xs ≡ length xs) (λ i. (i < length xs) × (i ≡ first_fail ok xs))
  first_place r xs h = rw h (placed (position_or_len (λ x. not (ok x)) xs) (length xs) (first_fail ok xs) _ refl (place xs) (fail_most ok xs))
