-- A run: bits that are sent once each, one after the other, e falling with each.
use Rattle.std.specs.Prelude.{◌≡◌, List, ℕ, ◌+◌, ◌*◌, ◌<◌, length, get_or}
use Rattle.laws.specs.Written.{Written}

-- the bits from j on
abbrev pub Copied : List ℕ → List ℕ → List ℕ → ℕ → ℕ → ℕ → Type 0
Copied src old list j k n = Written 0 (λ i. get_or src (j + i) 0) old list k n

-- `bits` bits were sent so: e, the next place and the next bit's index as they were, and as they are then
pub record Ran (q : ℕ) (src old list : List ℕ) (e k j e' k' j' : ℕ) : Type 0 where
  pub bits : ℕ
  pub falls : e ≡ e' + bits * q
  pub above : 0 < e'
  pub puts : k' ≡ k + bits
  pub reads : j' ≡ j + bits
  pub within : (i : ℕ) → i < bits → j + i < length src
  pub copied : Copied src old list j k bits

-- from one bit to the next, `step` further on, and by a run of bits behind it where they stand side by side
pub record Gone (step q : ℕ) (src old list : List ℕ) (e k j e' k' j' : ℕ) : Type 0 where
  pub run : Ran q src old list e k (j + step) e' k' j'
  pub beside : 0 < run.bits → step ≡ 1
