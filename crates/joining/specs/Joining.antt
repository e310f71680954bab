-- Soft values joined: what was heard of one bit, the value that it gets, and step 6's way back over a segment.
use Rattle.std.specs.Prelude.{◌≡◌, true, false, cond, ℕ, ◌+◌, T, ℤ, pos, length, get_or, take, drop, Float}
use mathlib.Core.List.{List, [], ◌∷◌, foldl, map}
use Rattle.std.specs.Float.{nan, fin, binary32}
use Rattle.std.specs.Float.Ieee.{add, le, fits}
use Rattle.laws.specs.Written.{Written}
use Rattle.pattern.specs.Pattern.{copies_at, after, shared}
use Rattle.joining.specs.declared.Heard.{Heard}
use Rattle.joining.specs.declared.Heard.TheVariants.{Nothing, Once, Joined}

-- 1,024 is 1 x 2^10
abbrev pub utmost : Float
utmost = fin false 1 (pos 10)

abbrev pub nethermost : Float
nethermost = fin true 1 (pos 10)

-- "a joined value beyond plus or minus 1,024 becomes that bound"; "Values within the bound keep every bit": x itself from -1,024 to 1,024, both allowed.
-- No comparison holds of a NaN, which becomes 1,024; of values in range no sum is one
unfoldable pub clipped : Float → Float
clipped x = cond (le x utmost) (cond (le nethermost x) x nethermost) utmost

-- "Copies are added in the order copy 0, 1, 2, .., each sum rounded once": a, and each of the others added to it
abbrev pub sum_of : Float → List Float → Float
sum_of a xs = foldl (add binary32) a xs

-- what was heard of a bit by its copies. The sum starts from copy 0 itself, never from zero, which would turn a lone -0.0 into +0.0
unfoldable pub raw_of : List Float → Heard
raw_of [] = Nothing
raw_of (x ∷ []) = Once x
raw_of (x ∷ (y ∷ ys)) = Joined (sum_of x (y ∷ ys)) (length (x ∷ (y ∷ ys)))

-- "After the last addition, a joined value beyond .. becomes that bound; a value heard once is clipped too"
unfoldable pub clipped_of : Heard → Heard
clipped_of Nothing = Nothing
clipped_of (Once x) = Once (clipped x)
clipped_of (Joined s n) = Joined (clipped s) n

unfoldable pub join_of : List Float → Heard
join_of xs = clipped_of (raw_of xs)

abbrev pub plus_zero : Float
plus_zero = fin false 0 (pos 0)

-- "A punctured bit gets +0.0."
unfoldable pub value_of : Heard → Float
value_of Nothing = plus_zero
value_of (Once x) = x
value_of (Joined x n) = x

-- and the number of its copies: "nothing, one value, or a joined value with its number of copies"
unfoldable pub count_of : Heard → ℕ
count_of Nothing = 0
count_of (Once x) = 1
count_of (Joined x n) = n

-- of a segment of N bits, by d and the start e, and the values sent: what was heard of each bit, and the value that each gets
unfoldable pub heard_of : ℤ → ℕ → ℕ → List Float → List Heard
heard_of d N e vs = map join_of (shared d N e vs)

unfoldable pub home_of : ℤ → ℕ → ℕ → List Float → List Float
home_of d N e vs = map value_of (heard_of d N e vs)

-- the values from k on, clipped, are written to the n places from i on
abbrev pub Clips : List Float → List Float → List Float → ℕ → ℕ → ℕ → Type 0
Clips vs old list k i n = Written nan (λ j. clipped (get_or vs (k + j) nan)) old list i n

-- step 6's way back at a bit that was sent, by p = 2N, q = 2d and e: h was heard of it, whose copies begin at k, those of the next begin at k',
-- and e' is e as that bit finds it
abbrev pub Sent : ℕ → ℕ → List Float → ℕ → ℕ → Heard → ℕ → ℕ → Type 0
Sent p q vs e k h k' e' =
    (h ≡ raw_of (take (copies_at false p q e) (drop k vs))) × (k' ≡ k + copies_at false p q e) × (e' ≡ after false p q e) × T (fits binary32 (value_of h))

-- at four bits, one after the other
pub record FourSent (p q : ℕ) (vs : List Float) (e k : ℕ) (f g h j : Heard) (k' e' : ℕ) : Type 0 where
  pub ka : ℕ
  pub ea : ℕ
  pub first : Sent p q vs e k f ka ea
  pub kb : ℕ
  pub eb : ℕ
  pub second : Sent p q vs ea ka g kb eb
  pub kc : ℕ
  pub ec : ℕ
  pub third : Sent p q vs eb kb h kc ec
  pub fourth : Sent p q vs ec kc j k' e'
