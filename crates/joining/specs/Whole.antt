-- "If all soft values of a frame are whole and at most 255 in magnitude, every sum is the exact whole sum", clipped: what whole is, the exact sum, and
-- what clipping makes of it.
use Rattle.std.specs.Prelude.{◌≡◌, Bool, true, false, ◌&&◌, List, [], ◌∷◌, ℕ, zero, suc, min, ◌*◌, ◌/◌, ◌%◌, ◌≤◌, eqb, leb, ℤ, pos, neg_ℤ, nat_abs, ◌+ℤ◌, Float}
use Rattle.std.specs.Float.{nan, inf, fin, binary32}
use Rattle.std.specs.Float.Ieee.{up, down, of_int}
use Rattle.std.specs.Float.Ieee.Exact.{HasValue}
use Rattle.matching.specs.Signed.{signed_by}
use Rattle.pattern.specs.Pattern.{negative}

-- the float x is the whole number z; a zero of either sign is 0
pub record Whole (x : Float) (z : ℤ) : Type 0 where
  pub sign : Bool
  pub size : ℕ
  pub value : HasValue x sign size 1
  pub is : signed_by sign size ≡ z

-- whole and at most 255 in magnitude: m x 2^e leaves no remainder; and its number
unfoldable pub small_whole : Float → Bool
small_whole nan = false
small_whole (inf s) = false
small_whole (fin s m e) = eqb (m * up e % down e) 0 && leb (m * up e / down e) 255

unfoldable pub whole_of : Float → ℤ
whole_of nan = pos 0
whole_of (inf s) = pos 0
whole_of (fin s m e) = signed_by s (m * up e / down e)

unfoldable pub total : List ℤ → ℤ
total [] = pos 0
total (z ∷ zs) = z +ℤ total zs

-- "a joined value beyond plus or minus 1,024 becomes that bound": a whole number keeps its sign, and its magnitude is the lesser of its own and 1,024
abbrev pub bound : ℕ
bound = 1024

unfoldable pub bounded : ℤ → ℤ
bounded z = signed_by (negative z) (min (nat_abs z) bound)

-- bits sent as +1 for 0 and -1 for 1 come home as "plus or minus the lesser of copies and 1,024", exactly, and as +0.0 where punctured
unfoldable pub soft : ℕ → Float
soft zero = fin false 1 (pos 0)
soft (suc b) = fin true 1 (pos 0)

unfoldable pub counted : ℕ → ℕ → Float
counted zero c = of_int binary32 (pos (min c bound))
counted (suc b) c = of_int binary32 (neg_ℤ (pos (min c bound)))

-- finite, and at most n in magnitude
abbrev pub Under : Float → ℕ → Type 0
Under nan n = ⊥
Under (inf s) n = ⊥
Under (fin s m e) n = m * up e ≤ n * down e
