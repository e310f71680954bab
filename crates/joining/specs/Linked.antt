-- A channel's link record for one frame: "the least and the greatest magnitude among its joined values as floats (bits heard once count too;
-- the magnitude of -0.0 is +0.0; both are +0.0 if no bit was heard) and the number of punctured bits".
use Rattle.std.specs.Prelude.{Bool, true, false, cond, ℕ, zero, suc, ◌+◌, eqb, Float}
use mathlib.Core.List.{List, [], ◌∷◌, foldl}
use Rattle.std.specs.Float.{nan, inf, fin}
use Rattle.std.specs.Float.Ieee.{lt, le}
use Rattle.joining.specs.declared.Heard.{Heard}
use Rattle.joining.specs.declared.Heard.TheVariants.{Nothing, Once, Joined}
use Rattle.joining.specs.declared.linking.Link.{Link}
use Rattle.joining.specs.Joining.{utmost, plus_zero}

unfoldable pub magnitude_of : Float → Float
magnitude_of nan = nan
magnitude_of (inf s) = inf false
magnitude_of (fin s zero e) = plus_zero
magnitude_of (fin s (suc m) e) = fin false (suc m) e

-- a magnitude is clipped by holding it from above: that of x, clipped, is this of its own
abbrev pub capped : Float → Float
capped x = cond (le x utmost) x utmost

-- the magnitudes of the bits that were heard, and how many were not
unfoldable pub magnitudes : List Heard → List Float
magnitudes [] = []
magnitudes (Nothing ∷ hs) = magnitudes hs
magnitudes (Once x ∷ hs) = magnitude_of x ∷ magnitudes hs
magnitudes (Joined x n ∷ hs) = magnitude_of x ∷ magnitudes hs

unfoldable pub punctures : List Heard → ℕ
punctures [] = 0
punctures (Nothing ∷ hs) = punctures hs + 1
punctures (Once x ∷ hs) = punctures hs
punctures (Joined x n ∷ hs) = punctures hs

-- the smaller and the larger of two
abbrev pub lower : Float → Float → Float
lower a b = cond (lt b a) b a

abbrev pub higher : Float → Float → Float
higher a b = cond (lt a b) b a

-- of a list, by a choice between two; +0.0 if it is empty
unfoldable pub chosen : (Float → Float → Float) → List Float → Float
chosen f [] = plus_zero
chosen f (x ∷ xs) = foldl f x xs

unfoldable pub link_of : List Heard → Link
link_of hs = record { least = chosen lower (magnitudes hs); greatest = chosen higher (magnitudes hs); punctured = punctures hs }

-- one bit more: a record l of n bits becomes this. A value is the first where all bits before it were punctured
abbrev pub with_magnitude : Link → Bool → Float → Link
with_magnitude l true a = record { least = a; greatest = a; punctured = l.punctured }
with_magnitude l false a = record { least = lower l.least a; greatest = higher l.greatest a; punctured = l.punctured }

unfoldable pub with_value : Link → ℕ → Float → Link
with_value l n x = with_magnitude l (eqb l.punctured n) (magnitude_of x)

unfoldable pub with_heard : Link → ℕ → Heard → Link
with_heard l n Nothing = record { least = l.least; greatest = l.greatest; punctured = l.punctured + 1 }
with_heard l n (Once x) = with_value l n x
with_heard l n (Joined x k) = with_value l n x

-- the records of two lanes of one walk, put together. Both have the punctured bits that came before the walk was dealt out, and none after
abbrev pub both_of : Link → Link → Link
both_of l k = record { least = lower l.least k.least; greatest = higher l.greatest k.greatest; punctured = l.punctured }
