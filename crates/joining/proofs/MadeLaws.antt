-- What is made of the copies of a bit, for all that ask no further: its value, the number of its copies, and that the bit was heard.
use mathlib.Core.Path.{◌≡◌, refl}
use mathlib.Core.List.{List, [], ◌∷◌}
use Prim.Native.Nat.{ℕ}
use native.Mathlib.Omega.{arith}
use lib.ListN.{length}
use lib.Ieee.{Float}
use Rattle.joining.specs.declared.Heard.{Heard}
use Rattle.joining.specs.declared.linking.Link.{Link}
use Rattle.joining.specs.Joining.{sum_of, raw_of, clipped, clipped_of, join_of, plus_zero, value_of, count_of}
use Rattle.joining.specs.Whole.{bound, Under}
use Rattle.joining.specs.Linked.{magnitude_of, magnitudes, punctures, with_value, with_heard}
use Rattle.joining.proofs.ClipLaws.{clip_under}

-- "A punctured bit gets +0.0."
pub join_none : value_of (join_of []) ≡ plus_zero
unfolding raw_of clipped_of join_of value_of
join_none = refl

pub join_value : (x : Float) (xs : List Float) → value_of (join_of (x ∷ xs)) ≡ clipped (sum_of x xs)
unfolding raw_of clipped_of join_of value_of
join_value x [] = refl
join_value x (y ∷ ys) = refl

pub join_count : (xs : List Float) → count_of (join_of xs) ≡ length xs
unfolding raw_of clipped_of join_of count_of
join_count [] = refl
join_count (x ∷ []) = refl
join_count (x ∷ (y ∷ ys)) = refl

-- "A decoder vendor takes magnitudes up to 1,024 only"
pub join_under : (xs : List Float) → Under (value_of (join_of xs)) bound
join_under [] = rw join_none (omega arith)
join_under (x ∷ xs) = rw (join_value x xs) (clip_under (sum_of x xs))

-- a bit that was heard: for the link record it has one value, and is not punctured
pub record Voice (h : Heard) : Type 0 where
  pub magnitude : (hs : List Heard) → magnitudes (h ∷ hs) ≡ magnitude_of (value_of h) ∷ magnitudes hs
  pub counts : (hs : List Heard) → punctures (h ∷ hs) ≡ punctures hs
  pub said : (l : Link) (n : ℕ) → with_heard l n h ≡ with_value l n (value_of h)

pub join_voice : (x : Float) (xs : List Float) → Voice (join_of (x ∷ xs))
unfolding raw_of clipped_of join_of value_of magnitudes punctures with_heard
join_voice x [] = record { magnitude = λ hs. refl; counts = λ hs. refl; said = λ l n. refl }
join_voice x (y ∷ ys) = record { magnitude = λ hs. refl; counts = λ hs. refl; said = λ l n. refl }
