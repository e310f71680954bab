-- A signed number by its sign and its magnitude. ℤ is that of lib.IntN: `pos n` is n, `negsuc n` is -(n+1).
use Rattle.std.specs.Prelude.{ℕ, Bool, true, false, ℤ, pos, neg_ℤ}

-- true: below 0
abbrev pub signed_by : Bool → ℕ → ℤ
signed_by false m = pos m
signed_by true m = neg_ℤ (pos m)
