-- Laws of the copies of one bit as a loop adds them.
use mathlib.Core.Path.{◌≡◌, refl, sym, ap, ◌∙◌}
use mathlib.Core.List.{List, [], ◌∷◌}
use Prim.Native.Nat.{ℕ, suc, ◌+◌, ◌-◌, ◌≤◌, ◌<◌}
use native.Mathlib.Numerals.{add-one}
use native.Mathlib.Omega.{arith}
use lib.ListN.{length, take, drop, get_or, length-drop}
use lib.Seq.{drop-cons, length-take-le}
use lib.Ieee.{Float, nan, binary32, add}
use Rattle.joining.specs.declared.Heard.TheVariants.{Nothing, Once, Joined}
use Rattle.joining.specs.Joining.{sum_of, raw_of}

-- a, and the values from i up to `end` added to it in order
abbrev pub summed : List Float → Float → ℕ → ℕ → Float
summed l a i end = sum_of a (take (end - i) (drop i l))

module _ (l : List Float) where
  -- a part without its first
  part-cons : (i n : ℕ) → i < length l → take (suc n) (drop i l) ≡ get_or l i nan ∷ take n (drop (i + 1) l)
  part-cons i n h = rw (add-one, drop-cons l i nan h)

  pub sum-turn : (i end : ℕ) (a : Float) → i < end → end ≤ length l → summed l a i end ≡ summed l (add binary32 a (get_or l i nan)) (i + 1) end
  sum-turn i end a h k =
      let n : end - i ≡ suc (end - (i + 1)) = omega arith in
      ap (λ (m : ℕ). sum_of a (take m (drop i l))) n
      ∙ ap (λ (t : List Float). sum_of a t) (part-cons i (end - (i + 1)) (omega arith))

  pub sum-end : (i end : ℕ) (a : Float) → end ≤ i → summed l a i end ≡ a
  sum-end i end a h = let n : end - i ≡ 0 = omega arith in rw n

  pub raw_none : (i n : ℕ) → n ≡ 0 → raw_of (take n (drop i l)) ≡ Nothing
  unfolding raw_of
  raw_none i n h = rw h

  pub raw_one : (i n : ℕ) → n ≡ 1 → i < length l → raw_of (take n (drop i l)) ≡ Once (get_or l i nan)
  unfolding raw_of
  raw_one i n h k = rw h (ap raw_of (part-cons i 0 k))

  pub raw_many : (i n : ℕ) → 1 < n → i + n ≤ length l → raw_of (take n (drop i l)) ≡ Joined (summed l (get_or l i nan) (i + 1) (i + n)) n
  raw_many i n h k =
      let m = i + n - (i + 1) in
      let nm : n ≡ suc m = omega arith in
      let t = take m (drop (i + 1) l) in
      let len : length t ≡ m = length-take-le m (drop (i + 1) l) (omega (arith, length-drop (i + 1) l)) in
      ap (λ (j : ℕ). raw_of (take j (drop i l))) nm
      ∙ ap raw_of (part-cons i m (omega arith))
      ∙ many (get_or l i nan) t (omega arith)
      ∙ ap (λ (j : ℕ). Joined (sum_of (get_or l i nan) t) j) (ap suc len ∙ sym nm)
    where
      many : (x : Float) (ys : List Float) → 0 < length ys → raw_of (x ∷ ys) ≡ Joined (sum_of x ys) (suc (length ys))
      many x [] h = absurd (omega arith)
      many x (y ∷ ys) h = unfold raw_of in refl
