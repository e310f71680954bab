-- Number 12 of document 01, for bytes: a content byte is 0 or 1.
use Rattle.std.specs.Prelude.{Bool, List, ℕ, ltb}
use Rattle.laws.specs.FirstFail.{first_fail}

abbrev pub is_bit : ℕ → Bool
is_bit x = ltb x 2

-- the index of the first byte that is neither, the length where there is none
abbrev pub first_bad : List ℕ → ℕ
first_bad bytes = first_fail is_bit bytes
