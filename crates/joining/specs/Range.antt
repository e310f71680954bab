-- Number 12 of soft values: "not from -65,536 to 65,536, both allowed (a NaN is not)".
use Rattle.std.specs.Prelude.{Bool, true, false, ◌&&◌, List, ℕ, pos, Float}
use Rattle.std.specs.Float.{fin}
use Rattle.std.specs.Float.Ieee.{le}
use Rattle.laws.specs.FirstFail.{first_fail}

-- 65,536 is 1 x 2^16; no comparison holds of a NaN
abbrev pub in_range : Float → Bool
in_range x = le (fin true 1 (pos 16)) x && le x (fin false 1 (pos 16))

-- the index of the first value out of range, and the length where there is none
abbrev pub first_out : List Float → ℕ
first_out vs = first_fail in_range vs
