-- What counts from 1.
use Rattle.std.specs.Prelude.{Bool, ◌&&◌, ℕ, ltb, leb}

-- one of 1 to n
abbrev pub among : ℕ → ℕ → Bool
among k n = ltb 0 k && leb k n
