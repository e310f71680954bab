-- Laws of rows of lists: in each row list t is c t long. A row begins a multiple of the row's length after the first.
use mathlib.Core.Path.{◌≡◌, refl, sym, ap, ◌∙◌}
use mathlib.Core.List.{List, [], ◌∷◌, map}
use Prim.Native.Nat.{ℕ, zero, suc, ◌+◌, ◌*◌, ◌≤◌, ◌<◌}
use native.Mathlib.Nat.{zero-mul, suc-mul}
use native.Mathlib.Omega.{arith}
use lib.ListN.{length, get_or, take, drop}
use lib.Seq.{take-take, drop-drop}
use Rattle.laws.specs.Sums.{sum_to}
use Rattle.laws.specs.Joined.{joined, in_rows}
use Rattle.laws.proofs.SumLaws.{sum-within}
use Rattle.laws.proofs.FallLaws.{part_ends}
use Rattle.laws.proofs.JoinedLaws.{Begins, length-joined, joined_at, joined-part, joined_same, map-joined, cut_joined, one-part}

-- a part of a part
pub part-within : {A : Type 0} (xs : List A) (n a k : ℕ) → a + k ≤ n → take k (drop a (take n xs)) ≡ take k (drop a xs)
part-within xs n zero k h = take-take k n xs (omega arith)
part-within xs zero (suc a) k h = absurd (omega arith)
part-within [] (suc n) (suc a) k h = refl
part-within (x ∷ xs) (suc n) (suc a) k h = part-within xs n a k (omega arith)

-- row h, list t of it, ends within the rows
pub row_room : (c : ℕ → ℕ) (m n h t : ℕ) → h < m → t < n → h * sum_to c n + sum_to c t + c t ≤ m * sum_to c n
row_room c m n h t l k =
    omega (arith, part_ends h m (sum_to c n) l, sum-within c t n k)

module _ {A : Type 0} (c : ℕ → ℕ) (g : ℕ → ℕ → List A) (m n : ℕ) (long : (h t : ℕ) → h < m → t < n → length (g h t) ≡ c t) where
  row-begins : (h : ℕ) → h < m → Begins (g h) (sum_to c) n
  unfolding sum_to
  row-begins h l = record { first = refl; next = λ t k. ap (λ (x : ℕ). sum_to c t + x) (sym (long h t l k)) }

  row-length : (h : ℕ) → h < m → length (joined (g h) n) ≡ sum_to c n
  row-length h l = length-joined (g h) (sum_to c) n (row-begins h l)

  rows_begin : Begins (λ h. joined (g h) n) (λ h. h * sum_to c n) m
  rows_begin =
      record {
        first = zero-mul (sum_to c n);
        next = λ h l. suc-mul h (sum_to c n) ∙ ap (λ (x : ℕ). h * sum_to c n + x) (sym (row-length h l));
      }

  pub length-rows : length (in_rows g m n) ≡ m * sum_to c n
  unfolding in_rows
  length-rows = length-joined (λ h. joined (g h) n) (λ h. h * sum_to c n) m rows_begin

  module _ (h t : ℕ) (l : h < m) (k : t < n) where
    -- what stands at v of list t of row h
    pub rows_at : (v : ℕ) (d : A) → v < c t → get_or (in_rows g m n) (h * sum_to c n + (sum_to c t + v)) d ≡ get_or (g h t) v d
    unfolding in_rows
    rows_at v d b =
        joined_at (λ i. joined (g i) n) (λ i. i * sum_to c n) m h (sum_to c t + v) d rows_begin l
        (omega (arith, row-length h l, sum-within c t n k))
        ∙ joined_at (g h) (sum_to c) n t v d (row-begins h l) k (omega (arith, long h t l k))

    -- that list cut out again
    pub rows-part : take (c t) (drop (h * sum_to c n + sum_to c t) (in_rows g m n)) ≡ g h t
    unfolding in_rows
    rows-part =
        let all = joined (λ i. joined (g i) n) m in
        let a = h * sum_to c n in
        ap (take (c t)) (sym (drop-drop (sum_to c t) a all))
        ∙ sym (part-within (drop a all) (sum_to c n) (sum_to c t) (c t) (sum-within c t n k))
        ∙ ap (λ (x : ℕ). take (c t) (drop (sum_to c t) (take x (drop a all)))) (sym (row-length h l))
        ∙ ap (λ (x : List A). take (c t) (drop (sum_to c t) x)) (joined-part (λ i. joined (g i) n) (λ i. i * sum_to c n) m h rows_begin l)
        ∙ ap (λ (x : ℕ). take x (drop (sum_to c t) (joined (g h) n))) (sym (long h t l k))
        ∙ joined-part (g h) (sum_to c) n t (row-begins h l) k

module _ {A : Type 0} (c : ℕ → ℕ) (xs : List A) (m n : ℕ) where
  row_cut : (h : ℕ) → joined (λ t. take (c t) (drop (h * sum_to c n + sum_to c t) xs)) n ≡ take (sum_to c n) (drop (h * sum_to c n) xs)
  unfolding sum_to
  row_cut h =
      joined_same _ (λ t. take (c t) (drop (sum_to c t) (drop (h * sum_to c n) xs))) n
      (λ t l. ap (take (c t)) (sym (drop-drop (sum_to c t) (h * sum_to c n) xs)))
      ∙ cut_joined (drop (h * sum_to c n) xs) c (sum_to c) n refl (λ i l. refl)

  -- a list cut into rows, and those into parts, and joined again
  pub cut_rows : in_rows (λ h t. take (c t) (drop (h * sum_to c n + sum_to c t) xs)) m n ≡ take (m * sum_to c n) xs
  unfolding in_rows
  cut_rows =
      joined_same _ (λ h. take (sum_to c n) (drop (h * sum_to c n) xs)) m (λ h l. row_cut h)
      ∙ cut_joined xs (λ h. sum_to c n) (λ h. h * sum_to c n) m (zero-mul (sum_to c n)) (λ h l. suc-mul h (sum_to c n))

-- rows that agree, rows mapped, and one row
pub rows_same : {A : Type 0} (f g : ℕ → ℕ → List A) (m n : ℕ) → ((h t : ℕ) → h < m → t < n → f h t ≡ g h t) → in_rows f m n ≡ in_rows g m n
unfolding in_rows
rows_same f g m n e = joined_same _ _ m (λ h l. joined_same (f h) (g h) n (λ t k. e h t l k))

pub map_rows : {A B : Type 0} (f : A → B) (g : ℕ → ℕ → List A) (m n : ℕ) → map f (in_rows g m n) ≡ in_rows (λ h t. map f (g h t)) m n
unfolding in_rows
map_rows f g m n = map-joined f (λ h. joined (g h) n) m ∙ joined_same _ _ m (λ h l. map-joined f (g h) n)

pub one-row : {A : Type 0} (g : ℕ → ℕ → List A) {m : ℕ} (n : ℕ) → m ≡ 1 → joined (g 0) n ≡ in_rows g m n
unfolding in_rows
one-row g n e = one-part (λ h. joined (g h) n) e
