-- Laws of tests: "one or the other holds", cases of an order, and tests that are computed.
use mathlib.Core.Path.{◌≡◌, refl, sym, ap, ap₂, ◌∙◌}
use mathlib.Core.Logic.{◌⊎◌, inl, inr}
use mathlib.Core.Bool.{Bool, true, false, true≢false, false≢true, ◌&&◌, ◌||◌, or-true}
use Prim.Native.Nat.{ℕ, zero, suc, ◌≤◌, ◌<◌}
use native.Mathlib.Omega.{arith}
use native.Mathlib.Decide.{dec_le}
use lib.Dec.{T}

pub or_left : (a b : Bool) → (a || b) ≡ false → a ≡ false
or_left false b h = refl
or_left true b h = h

pub or_right : (a b : Bool) → (a || b) ≡ false → b ≡ false
or_right false b h = h
or_right true b h = absurd (true≢false h)

-- which of two holds
pub or_sides : (a b : Bool) → (a || b) ≡ true → (a ≡ true) ⊎ (b ≡ true)
or_sides true b h = inl refl
or_sides false b h = inr h

pub of_sides : (a b : Bool) → (a ≡ true) ⊎ (b ≡ true) → (a || b) ≡ true
of_sides true b h = refl
of_sides false b (inl e) = absurd (false≢true e)
of_sides false b (inr e) = e

-- both hold
pub and_left : (a b : Bool) → (a && b) ≡ true → a ≡ true
and_left true b h = refl
and_left false b h = h

pub and_right : (a b : Bool) → (a && b) ≡ true → b ≡ true
and_right true b h = h
and_right false b h = absurd (false≢true h)

pub is_false : (b : Bool) → (b ≡ true → ⊥) → b ≡ false
is_false true h = absurd (h refl)
is_false false h = refl

-- the first that holds of three, and none
pub or_first : (a b c : Bool) → a ≡ true → true ≡ (a || (b || c))
or_first a b c e = sym (ap (λ (x : Bool). x || (b || c)) e)

pub or_second : (a b c : Bool) → b ≡ true → true ≡ (a || (b || c))
or_second a b c e = sym (ap (λ (x : Bool). a || (x || c)) e ∙ or-true a)

pub or_third : (a b c : Bool) → c ≡ true → true ≡ (a || (b || c))
or_third a b c e = sym (ap (λ (x : Bool). a || (b || x)) e ∙ ap (λ (x : Bool). a || x) (or-true b) ∙ or-true a)

pub or_none : (a b c : Bool) → a ≡ false → b ≡ false → c ≡ false → false ≡ (a || (b || c))
or_none a b c ea eb ec = sym (ap₂ ◌||◌ ea (ap₂ ◌||◌ eb ec))

-- two cases of an order
pub split {ℓ} : {X : Type ℓ} (a b : ℕ) → (a ≤ b → X) → (b < a → X) → X
split a b f g = elim (dec_le a b) [ yes h ↦ f h | no h ↦ g (omega arith) ]

-- two numbers that have the same numbers below them are one
pub bounds_same : (a b : ℕ) → ((j : ℕ) → j < a → j < b) → ((j : ℕ) → j < b → j < a) → a ≡ b
bounds_same a b f g =
    split a b (λ le. split b a (λ le'. omega arith) (λ lt. absurd (omega (arith, g a lt)))) (λ lt. absurd (omega (arith, f b lt)))

-- a test that the checker computes at each number below n, and what it says at one of them
unfoldable pub both : Bool → Bool → Bool
both true b = b
both false b = false

pub both_left : (a b : Bool) → T (both a b) → T a
unfolding both
both_left true b t = tt
both_left false b t = t

pub both_right : (a b : Bool) → T (both a b) → T b
unfolding both
both_right true b t = t
both_right false b t = absurd t

unfoldable pub below : (ℕ → Bool) → ℕ → Bool
below f zero = true
below f (suc n) = both (f n) (below f n)

pub below_at : (f : ℕ → Bool) (n : ℕ) → T (below f n) → (k : ℕ) → k < n → T (f k)
unfolding below
below_at f zero t k h = absurd (omega arith)
below_at f (suc n) t k h =
    split n k
    (λ le. let q : k ≡ n = omega arith in rw q (both_left (f n) (below f n) t))
    (λ lt. below_at f n (both_right (f n) (below f n) t) k lt)

unfoldable pub implies : Bool → Bool → Bool
implies true b = b
implies false b = true

pub implied : (a b : Bool) → T (implies a b) → a ≡ true → T b
unfolding implies
implied true b t q = t
implied false b t q = absurd (false≢true q)
