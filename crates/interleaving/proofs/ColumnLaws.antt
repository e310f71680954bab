-- Laws of columns: what stands in them, how long they are, and that they carry whatever stands in the list.
use mathlib.Core.Path.{◌≡◌, refl, sym, ap, ap₂, ◌∙◌}
use mathlib.Core.List.{List, [], ◌∷◌, ◌++◌, map, map-append}
use Prim.Native.Nat.{ℕ, zero, suc, ◌+◌, ◌*◌, ◌-◌, ◌/◌, ◌≤◌, ◌<◌}
use native.Mathlib.Nat.{zero-mul, suc-mul, mul_comm, div-add-mod', mod-lt}
use native.Mathlib.Omega.{arith}
use lib.Arith.{digits_div}
use lib.ListN.{length, get_or, length-append, get_or-append}
use lib.Seq.{get_or-append-add}
use Rattle.laws.specs.Sums.{sum_to}
use Rattle.laws.proofs.SumLaws.{sum_shift}
use Rattle.interleaving.specs.Columns.{column, columns, height, heights}

-- every one of the columns cs is one of w
abbrev pub Among : ℕ → List ℕ → Type 0
Among w cs = (t : ℕ) → t < length cs → get_or cs t 0 < w

module _ (w : ℕ) (pos : 0 < w) where
  -- w n elements fill n rows
  pub height-full : (n c : ℕ) → c < w → height w (w * n) c ≡ n
  height-full n c h =
      let q : w * n + (w - 1) - c ≡ n * w + (w - 1 - c) = omega (arith, mul_comm w n) in
      ap (λ (x : ℕ). x / w) q ∙ digits_div n {m = w} {r = w - 1 - c} (omega arith)

  module _ {A : Type 0} where
    -- row r of column c
    pub column-at : (c : ℕ) (xs : List A) (r : ℕ) (z : A) → get_or (column w c xs) r z ≡ get_or xs (r * w + c) z
    unfolding column
    column-at c [] r z = refl
    column-at zero (x ∷ xs) zero z = let q : 0 * w + 0 ≡ 0 = omega (arith, zero-mul w) in rw q
    column-at zero (x ∷ xs) (suc r) z =
        let q : suc r * w + 0 ≡ suc (r * w + (w - 1)) = omega (arith, suc-mul r w) in
        rw q (column-at (w - 1) xs r z)
    column-at (suc c) (x ∷ xs) r z =
        let q : r * w + suc c ≡ suc (r * w + c) = omega arith in
        rw q (column-at c xs r z)

    column-rows : (c k : ℕ) (xs : List A) → length xs ≤ c + k * w → c + k * w < length xs + w → length (column w c xs) ≡ k
    unfolding column
    column-rows c zero [] h l = refl
    column-rows c (suc k) [] h l = absurd (omega (arith, suc-mul k w))
    column-rows zero zero (x ∷ xs) h l = absurd (omega (arith, zero-mul w))
    column-rows zero (suc k) (x ∷ xs) h l =
        ap suc (column-rows (w - 1) k xs (omega (arith, suc-mul k w)) (omega (arith, suc-mul k w)))
    column-rows (suc c) k (x ∷ xs) h l = column-rows c k xs (omega arith) (omega arith)

    pub column-length : (c : ℕ) (xs : List A) → c < w → length (column w c xs) ≡ height w (length xs) c
    column-length c xs h =
        let s = length xs + (w - 1) - c in
        let d = div-add-mod' s w in
        let m = mod-lt s pos in
        column-rows c (s / w) xs (omega arith) (omega arith)

    pub columns-length : (cs : List ℕ) (xs : List A) → Among w cs → length (columns w cs xs) ≡ heights w cs (length xs) (length cs)
    unfolding columns sum_to
    columns-length [] xs a = refl
    columns-length (c ∷ cs) xs a =
        length-append (column w c xs) (columns w cs xs)
        ∙ ap₂ ◌+◌ (column-length c xs (a 0 (omega arith))) (columns-length cs xs (λ t l. a (suc t) (omega arith)))
        ∙ sym (sum_shift (λ s. height w (length xs) (get_or (c ∷ cs) s 0)) (length cs))

    -- row r of the t-th column that is read
    pub columns-at : (cs : List ℕ) (xs : List A) → Among w cs → (t r : ℕ) (z : A) → t < length cs → r < height w (length xs) (get_or cs t 0)
        → get_or (columns w cs xs) (heights w cs (length xs) t + r) z ≡ get_or xs (r * w + get_or cs t 0) z
    unfolding columns sum_to
    columns-at [] xs a t r z h k = absurd (omega arith)
    columns-at (c ∷ cs) xs a zero r z h k =
        let q : 0 + r ≡ r = omega arith in
        let l : r < length (column w c xs) = rw (column-length c xs (a 0 (omega arith))) k in
        rw (q, get_or-append (column w c xs) (columns w cs xs) z r l) (column-at c xs r z)
    columns-at (c ∷ cs) xs a (suc t) r z h k =
        let s = sum_shift (λ s. height w (length xs) (get_or (c ∷ cs) s 0)) t in
        let q : heights w (c ∷ cs) (length xs) (suc t) + r ≡ length (column w c xs) + (heights w cs (length xs) t + r) =
        omega (arith, s, column-length c xs (a 0 (omega arith))) in
        ap (λ (j : ℕ). get_or (column w c xs ++ columns w cs xs) j z) q
        ∙ get_or-append-add (column w c xs) (columns w cs xs) (heights w cs (length xs) t + r) z
        ∙ columns-at cs xs (λ t l. a (suc t) (omega arith)) t r z (omega arith) k

module _ {A B : Type 0} (g : A → B) (w : ℕ) where
  column-map : (c : ℕ) (xs : List A) → column w c (map g xs) ≡ map g (column w c xs)
  unfolding column
  column-map c [] = refl
  column-map zero (x ∷ xs) = ap (λ (l : List B). g x ∷ l) (column-map (w - 1) xs)
  column-map (suc c) (x ∷ xs) = column-map c xs

  pub columns-map : (cs : List ℕ) (xs : List A) → columns w cs (map g xs) ≡ map g (columns w cs xs)
  unfolding columns
  columns-map [] xs = refl
  columns-map (c ∷ cs) xs = rw (map-append, column-map, columns-map cs xs)
