-- Document 01's values of step 5, computed.
use mathlib.Core.Path.{◌≡◌, refl}
use lib.IntN.{negsuc}
use Rattle.offset.specs.Ints.{floor_div, floor_over, ceil_over, mod_over}
use Rattle.offset.specs.Offset.{remainder_of, q_of}

-- N=6, d=-2: q = -3; -3.5 rounded down is -4
pub spaced : q_of 6 (remainder_of (negsuc 1) 6) ≡ negsuc 2
unfolding floor_div floor_over ceil_over mod_over remainder_of q_of
spaced = refl

pub floored : floor_div (negsuc 6) 2 ≡ negsuc 3
unfolding floor_div
floored = refl
