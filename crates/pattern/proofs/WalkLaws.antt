-- Laws of the walk over a segment that hold for any e: lengths, what stands where, maps, and the values shared out again.
use mathlib.Core.Path.{◌≡◌, refl, sym, ap, ap₂, ◌∙◌}
use mathlib.Core.Bool.{Bool, true, false}
use mathlib.Core.List.{List, [], ◌∷◌, ◌++◌, map, map-append}
use Prim.Native.Nat.{ℕ, zero, suc, ◌+◌, ◌*◌, ◌-◌, ◌≤◌, ◌<◌}
use native.Mathlib.Nat.{zero-add, suc-mul}
use native.Mathlib.Omega.{arith}
use lib.ListN.{length, get_or, take, drop, length-append, get_or-append}
use lib.Seq.{get_or-append-add, take_at, drop_at, drop-drop}
use Rattle.laws.specs.Sums.{sum_to}
use Rattle.laws.specs.Tables.{table}
use Rattle.laws.proofs.SumLaws.{sum_shift}
use Rattle.laws.proofs.PartLaws.{table-map}
use Rattle.laws.proofs.TableLaws.{table-length, table_get, table_shift}
use Rattle.pattern.specs.Pattern.{again, grown, copies_at, after, walked, copies_from, shared_from, as_is}
use Rattle.pattern.proofs.CountLaws.{again-more, grown_yes, grown_no}

-- the first bit taken apart
pub first-apart : (less : Bool) (P D e m : ℕ)
    → sum_to (copies_from less P D e) (suc m) ≡ copies_at less P D e + sum_to (copies_from less P D (after less P D e)) m
unfolding copies_from
first-apart less P D e m = sum_shift (copies_from less P D e) m

module _ {A B : Type 0} (f : A → ℕ → B) (less : Bool) (P D : ℕ) where
  -- as many come out as the bits have copies
  pub length-walked : (e : ℕ) (xs : List A) → length (walked f less P D e xs) ≡ sum_to (copies_from less P D e) (length xs)
  unfolding walked sum_to
  length-walked e [] = refl
  length-walked e (x ∷ xs) =
      length-append (table (f x) 0 (copies_at less P D e)) _
      ∙ ap₂ ◌+◌ (table-length (f x) 0 (copies_at less P D e)) (length-walked (after less P D e) xs)
      ∙ sym (first-apart less P D e (length xs))

  -- copy j of bit m stands after the copies of the bits before it
  pub walked_at : (e : ℕ) (xs : List A) (m j : ℕ) (b : B) (z : A) → m < length xs → j < copies_from less P D e m
      → get_or (walked f less P D e xs) (sum_to (copies_from less P D e) m + j) b ≡ f (get_or xs m z) j
  unfolding walked copies_from sum_to
  walked_at e [] m j b z h k = absurd (omega arith)
  walked_at e (x ∷ xs) zero j b z h k =
      let l : j < length (table (f x) 0 (copies_at less P D e)) = rw table-length k in
      ap (λ (n : ℕ). get_or (table (f x) 0 (copies_at less P D e) ++ walked f less P D (after less P D e) xs) n b) (zero-add j)
      ∙ get_or-append (table (f x) 0 (copies_at less P D e)) _ b j l
      ∙ table_get (f x) (copies_at less P D e) j b k
  walked_at e (x ∷ xs) (suc m) j b z h k =
      let q : sum_to (copies_from less P D e) (suc m) + j
      ≡ length (table (f x) 0 (copies_at less P D e)) + (sum_to (copies_from less P D (after less P D e)) m + j) =
      omega (arith, first-apart less P D e m, table-length (f x) 0 (copies_at less P D e)) in
      ap (λ (n : ℕ). get_or (table (f x) 0 (copies_at less P D e) ++ walked f less P D (after less P D e) xs) n b) q
      ∙ get_or-append-add (table (f x) 0 (copies_at less P D e)) _ _ b
      ∙ walked_at (after less P D e) xs m j b z (omega arith) k

  -- the values sent, shared out again: bit m gets its own copies, in order
  pub shared-walked : (e : ℕ) (xs : List A) (m : ℕ) (z : A) → m < length xs
      → get_or (shared_from less P D e (length xs) (walked f less P D e xs)) m [] ≡ table (f (get_or xs m z)) 0 (copies_from less P D e m)
  unfolding walked shared_from copies_from
  shared-walked e [] m z h = absurd (omega arith)
  shared-walked e (x ∷ xs) zero z h =
      take_at (table (f x) 0 (copies_at less P D e)) _ (copies_at less P D e) (table-length (f x) 0 (copies_at less P D e))
  shared-walked e (x ∷ xs) (suc m) z h =
      ap (λ (l : List B). get_or (shared_from less P D (after less P D e) (length xs) l) m [])
      (drop_at (table (f x) 0 (copies_at less P D e)) _ (copies_at less P D e) (table-length (f x) 0 (copies_at less P D e)))
      ∙ shared-walked (after less P D e) xs m z (omega arith)

-- what is sent, mapped
pub walked-map : {A B C : Type 0} (f : A → ℕ → B) (h : B → C) (less : Bool) (P D e : ℕ) (xs : List A)
    → walked (λ x j. h (f x j)) less P D e xs ≡ map h (walked f less P D e xs)
unfolding walked
walked-map f h less P D e [] = refl
walked-map f h less P D e (x ∷ xs) =
    ap₂ ◌++◌ (table-map h (f x) 0 (copies_at less P D e)) (walked-map f h less P D (after less P D e) xs)
    ∙ sym (map-append h (table (f x) 0 (copies_at less P D e)) _)

-- the elements, mapped
pub walked_of : {A B C : Type 0} (g : A → B) (f : B → ℕ → C) (less : Bool) (P D e : ℕ) (xs : List A)
    → walked f less P D e (map g xs) ≡ walked (λ x j. f (g x) j) less P D e xs
unfolding walked
walked_of g f less P D e [] = refl
walked_of {A} {B} {C} g f less P D e (x ∷ xs) =
    ap (λ (l : List C). table (f (g x)) 0 (copies_at less P D e) ++ l) (walked_of g f less P D (after less P D e) xs)

module _ {A : Type 0} (less : Bool) (P D : ℕ) where
  pub length-shared-from : (e n : ℕ) (vs : List A) → length (shared_from less P D e n vs) ≡ n
  unfolding shared_from
  length-shared-from e zero vs = refl
  length-shared-from e (suc n) vs = ap suc (length-shared-from (after less P D e) n (drop (copies_at less P D e) vs))

  -- the values of bit m stand together, after those of the bits before it
  pub shared-from-at : (e n m : ℕ) (vs : List A) → m < n
      → get_or (shared_from less P D e n vs) m [] ≡ take (copies_from less P D e m) (drop (sum_to (copies_from less P D e) m) vs)
  unfolding shared_from copies_from sum_to
  shared-from-at e zero m vs h = absurd (omega arith)
  shared-from-at e (suc n) zero vs h = refl
  shared-from-at e (suc n) (suc m) vs h =
      shared-from-at (after less P D e) n m (drop (copies_at less P D e) vs) (omega arith)
      ∙ ap (take (copies_from less P D (after less P D e) m))
      (drop-drop (sum_to (copies_from less P D (after less P D e)) m) (copies_at less P D e) vs
      ∙ ap (λ (j : ℕ). drop j vs) (sym (first-apart less P D e m)))

-- ---- one bit of the walk, by the test

module _ {A B : Type 0} (f : A → ℕ → B) (P D e : ℕ) (x : A) (xs : List A) where
  pub walked_keep : (less : Bool) → D < e → walked f less P D e (x ∷ xs) ≡ f x 0 ∷ walked f less P D (e - D) xs
  unfolding walked table
  walked_keep true h = let q : e + 0 * P - D ≡ e - D = omega arith in rw (grown_no true P D e h, q)
  walked_keep false h = let q : e + 0 * P - D ≡ e - D = omega arith in rw (grown_no false P D e h, q)

  pub walked-drop : e ≤ D → walked f true P D e (x ∷ xs) ≡ walked f true P D (e + P - D) xs
  unfolding walked table
  walked-drop h = let q : e + 1 * P - D ≡ e + P - D = omega arith in rw (grown_yes P D e h, q)

-- one send of a bit that is sent once more
pub walked_more : {A : Type 0} (P D e : ℕ) (x : A) (xs : List A) → 0 < P → 0 < e → e ≤ D
    → walked as_is false P D e (x ∷ xs) ≡ x ∷ walked as_is false P D (e + P) (x ∷ xs)
unfolding walked grown table
walked_more {A} P D e x xs hp he h =
    let a = again D P D (e + P) in
    let q : e + suc a * P - D ≡ e + P + a * P - D = omega (arith, suc-mul a P) in
    rw (again-more P D e hp he h, q)
    (ap (λ (l : List A). x ∷ (x ∷ l ++ walked as_is false P D (e + P + a * P - D) xs)) (table_shift (as_is x) 1 a))
