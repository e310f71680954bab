-- What the code makes of a slot, whichever way its bits go: each stands at its place.
use Rattle.std.specs.Prelude.{◌≡◌, ℕ, ◌<◌, List, length, slice_index_or}
use borrow.Rule.Slice.PartMut.{put_mid}
use Rattle.interleaving.specs.Second.{second_interleaved}
use Rattle.mapping.specs.Mapping.{place, number_of, at, slot_size}
use Rattle.mapping.specs.Lines.{part_from}

-- the bits of a slot in runs of B stand in the slot w where they go
pub record Settled {A : Type 0} (B : ℕ → ℕ) (caps : List ℕ) (d : A) (bits w : List A) : Type 0 where
  pub count : length bits ≡ slot_size caps
  pub room : length w ≡ slot_size caps
  pub stands : (p x : ℕ) → p < length caps → x < at caps p
      → slice_index_or w (place (at caps) p x) d ≡ slice_index_or bits (number_of (at caps) B (length caps) p x) d

-- these are the n that step 8 puts to the indices from `at` on, and its other elements are as it puts them for `old`
pub record Crossed {A : Type 0} (B : ℕ → ℕ) (caps : List ℕ) (d : A) (at n : ℕ) (old rows w : List A) : Type 0 where
  pub settled : Settled B caps d (part_from at n (second_interleaved rows)) w
  pub rest : second_interleaved rows ≡ put_mid at n (second_interleaved old) (part_from at n (second_interleaved rows))
