-- Laws of a number by its sign and its magnitude.
use mathlib.Core.Path.{◌≡◌, refl}
use mathlib.Core.Bool.{Bool, true, false}
use Prim.Native.Nat.{ℕ, zero, suc}
use lib.IntN.{nat_abs}
use Rattle.matching.specs.Signed.{signed_by}

pub magnitude : (less : Bool) (m : ℕ) → nat_abs (signed_by less m) ≡ m
magnitude false m = refl
magnitude true zero = refl
magnitude true (suc a) = refl
