-- Laws of lists that are mapped, and of parts of a list.
use mathlib.Core.Path.{◌≡◌, refl, sym, ap, ◌∙◌}
use mathlib.Core.List.{List, [], ◌∷◌, ◌++◌, map, flatten}
use Prim.Native.Nat.{ℕ, zero, suc, ◌+◌, ◌-◌, ◌*◌, ◌≤◌, ◌<◌}
use native.Mathlib.Nat.{zero-mul, suc-mul}
use native.Mathlib.Omega.{arith}
use lib.ListN.{length, get_or, set, take, drop, replicate, length-drop}
use lib.Seq.{length-take-le, take-add, take_all, drop-drop}
use Rattle.laws.specs.Tables.{table}

module _ {A B : Type 0} (g : A → B) where
  pub take-map : (n : ℕ) (xs : List A) → take n (map g xs) ≡ map g (take n xs)
  take-map zero xs = refl
  take-map (suc n) [] = refl
  take-map (suc n) (x ∷ xs) = ap (λ (l : List B). g x ∷ l) (take-map n xs)

  pub drop-map : (n : ℕ) (xs : List A) → drop n (map g xs) ≡ map g (drop n xs)
  drop-map zero xs = refl
  drop-map (suc n) [] = refl
  drop-map (suc n) (x ∷ xs) = drop-map n xs

  pub replicate-map : (n : ℕ) (x : A) → replicate n (g x) ≡ map g (replicate n x)
  replicate-map zero x = refl
  replicate-map (suc n) x = ap (λ (l : List B). g x ∷ l) (replicate-map n x)

  pub table-map : (f : ℕ → A) (from n : ℕ) → table (λ i. g (f i)) from n ≡ map g (table f from n)
  unfolding table
  table-map f from zero = refl
  table-map f from (suc n) = ap (λ (l : List B). g (f from) ∷ l) (table-map f (suc from) n)

  -- one element of a list that is mapped
  pub set-map : (xs : List A) (n : ℕ) (a : A) → set (map g xs) n (g a) ≡ map g (set xs n a)
  set-map [] n a = refl
  set-map (x ∷ xs) zero a = refl
  set-map (x ∷ xs) (suc n) a = ap (λ (l : List B). g x ∷ l) (set-map xs n a)

  -- within a list no default counts
  pub map_at : (xs : List A) (i : ℕ) (y : B) (z : A) → i < length xs → get_or (map g xs) i y ≡ g (get_or xs i z)
  map_at [] i y z h = absurd (omega arith)
  map_at (x ∷ xs) zero y z h = refl
  map_at (x ∷ xs) (suc i) y z h = map_at xs i y z (omega arith)

-- parts of n elements, one after the other
module _ {A : Type 0} (n : ℕ) (l : List A) where
  parts_from : (from m : ℕ) → flatten (table (λ i. take n (drop (i * n) l)) from m) ≡ take (m * n) (drop (from * n) l)
  unfolding table flatten
  parts_from from zero = rw (zero-mul n)
  parts_from from (suc m) =
      let q : suc from * n ≡ from * n + n = omega (arith, suc-mul from n) in
      let r : suc m * n ≡ n + m * n = omega (arith, suc-mul m n) in
      ap (λ (t : List A). take n (drop (from * n) l) ++ t)
      (parts_from (suc from) m ∙ ap (λ (j : ℕ). take (m * n) (drop j l)) q ∙ ap (take (m * n)) (sym (drop-drop n (from * n) l)))
      ∙ sym (take-add n (m * n) (drop (from * n) l))
      ∙ ap (λ (j : ℕ). take j (drop (from * n) l)) (sym r)

  -- a list of m such parts
  pub parts_joined : (m : ℕ) → length l ≡ m * n → flatten (table (λ i. take n (drop (i * n) l)) 0 m) ≡ l
  parts_joined m e =
      parts_from 0 m ∙ ap (λ (j : ℕ). take (m * n) (drop j l)) (zero-mul n) ∙ take_all (m * n) l (omega arith)

-- a part of a list from a up to e
pub part_length : {A : Type 0} (xs : List A) (a e : ℕ) → a ≤ e → e ≤ length xs → length (take (e - a) (drop a xs)) ≡ e - a
part_length xs a e h b = length-take-le (e - a) (drop a xs) (omega (arith, length-drop a xs))
