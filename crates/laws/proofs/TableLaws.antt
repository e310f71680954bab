-- Laws of a table of n values, and of the one that is filled up to a place.
use mathlib.Core.Path.{◌≡◌, refl, sym, ap, ◌∙◌, subst}
use mathlib.Core.Bool.{Bool, true, false, cond}
use mathlib.Core.List.{List, ◌∷◌}
use Prim.Native.Nat.{ℕ, zero, suc, ◌+◌, ◌≤◌, ◌<◌}
use native.Mathlib.Nat.{add-zero, zero-add, add-suc, suc-add, le_of_suc-le-suc}
use native.Mathlib.Omega.{arith}
use native.Mathlib.Decide.{dec_lt, ℕ_discrete}
use borrow.Author.Tests.{lt-ltb, le-ltb}
use lib.Dec.{ltb}
use lib.ListN.{length, get_or, set, replicate, length-set, length-replicate}
use lib.Seq.{ext_get_or, get_or-set_same, get_or-set_other}
use Rattle.laws.specs.Tables.{table, up_to}

module _ {A : Type 0} where
  pub table-length : (f : ℕ → A) (from n : ℕ) → length (table f from n) ≡ n
  unfolding table
  table-length f from zero = refl
  table-length f from (suc n) = ap suc (table-length f (suc from) n)

  table-from : (f : ℕ → A) (from n i : ℕ) (d : A) → i < n → get_or (table f from n) i d ≡ f (from + i)
  unfolding table
  table-from f from zero i d h = absurd (omega arith)
  table-from f from (suc n) zero d h = ap f (sym (add-zero from))
  table-from f from (suc n) (suc i) d h = table-from f (suc from) n i d (le_of_suc-le-suc h) ∙ ap f (suc-add from i ∙ sym (add-suc from i))

  pub table_get : (f : ℕ → A) (n i : ℕ) (d : A) → i < n → get_or (table f 0 n) i d ≡ f i
  table_get f n i d h = table-from f 0 n i d h ∙ ap f (zero-add i)

  pub table_shift : (f : ℕ → A) (from n : ℕ) → table f (suc from) n ≡ table (λ i. f (suc i)) from n
  unfolding table
  table_shift f from zero = refl
  table_shift f from (suc n) = ap (λ (l : List A). f (suc from) ∷ l) (table_shift f (suc from) n)

  -- a list is the table of its entries
  pub tabled : (g : ℕ → A) (l : List A) (m : ℕ) (d : A) → length l ≡ m → ((j : ℕ) → j < m → get_or l j d ≡ g j) → l ≡ table g 0 m
  tabled g l m d e all =
      ext_get_or d _ _ (e ∙ sym (table-length g 0 m))
      (λ j b. let c : j < m = omega arith in all j c ∙ sym (table_get g m j d c))

  pub table-alike : (f g : ℕ → A) (m : ℕ) (d : A) → ((i : ℕ) → i < m → f i ≡ g i) → table f 0 m ≡ table g 0 m
  table-alike f g m d h = tabled g (table f 0 m) m d (table-length f 0 m) (λ i l. table_get f m i d l ∙ h i l)

-- of numbers, with 0 past the end
pub table_at : (f : ℕ → ℕ) (n i : ℕ) → i < n → get_or (table f 0 n) i 0 ≡ f i
table_at f n i h = table_get f n i 0 h

pub filled-all : (g : ℕ → ℕ) (l : List ℕ) (m : ℕ) → length l ≡ m → ((j : ℕ) → j < m → get_or l j 0 ≡ g j) → l ≡ table g 0 m
filled-all g l m e all = tabled g l m 0 e all

pub table_same : (f g : ℕ → ℕ) (m : ℕ) → ((i : ℕ) → i < m → f i ≡ g i) → table f 0 m ≡ table g 0 m
table_same f g m h = table-alike f g m 0 h

-- an array of zeros
pub zeros_at : (n i : ℕ) → ◌≡◌ {A = ℕ} (get_or (replicate n 0) i 0) 0
zeros_at zero i = refl
zeros_at (suc n) zero = refl
zeros_at (suc n) (suc i) = zeros_at n i

pub table_zeros : (n : ℕ) → table {A = ℕ} (λ i. 0) 0 n ≡ replicate n 0
table_zeros n = sym (filled-all (λ i. 0) (replicate n 0) n (length-replicate n 0) (λ j l. zeros_at n j))

-- up_to, below its count and past it
pub up_to-below : (n i a : ℕ) → i < n → up_to n i a ≡ a
up_to-below n i a h = ap (λ (b : Bool). cond b a 0) (lt-ltb i n h)

pub up_to_past : (n i a : ℕ) → n ≤ i → up_to n i a ≡ 0
up_to_past n i a h = ap (λ (b : Bool). cond b a 0) (le-ltb i n h)

pub up_to-zero : (n i : ℕ) {a : ℕ} → a ≡ 0 → up_to n i a ≡ 0
up_to-zero n i {a} e = ap (up_to n i) e ∙ by (ltb i n)
  where
    by : (b : Bool) → ◌≡◌ {A = ℕ} (cond b 0 0) 0
    by true = refl
    by false = refl

pub up_to-same : (n m i a b : ℕ) → n ≡ m → (i < n → a ≡ b) → up_to n i a ≡ up_to m i b
up_to-same n m i a b e h = side (dec_lt i n)
  where
    side : Dec (i < n) → up_to n i a ≡ up_to m i b
    side (yes l) = up_to-below n i a l ∙ h l ∙ sym (up_to-below m i b (omega arith))
    side (no l) = up_to_past n i a (omega arith) ∙ sym (up_to_past m i b (omega arith))

-- an entry of a table that is filled up to n
pub filled_at : (f : ℕ → ℕ) (n m i : ℕ) → i < m → i < n → get_or (table (λ j. up_to n j (f j)) 0 m) i 0 ≡ f i
filled_at f n m i l h = table_at (λ j. up_to n j (f j)) m i l ∙ up_to-below n i (f i) h

-- one more entry of a table that is filled up to k
module _ (f : ℕ → ℕ) (m k : ℕ) (h : k < m) where
  old : List ℕ
  old = table (λ j. up_to k j (f j)) 0 m

  old_length : length (set old k (f k)) ≡ m
  unfolding old
  old_length = length-set (table (λ j. up_to k j (f j)) 0 m) k (f k) ∙ table-length _ 0 m

  entry : (i : ℕ) → i < m → Dec (i ≡ k) → get_or (set old k (f k)) i 0 ≡ up_to (k + 1) i (f i)
  unfolding old
  entry i l (yes e) =
      rw e
      (get_or-set_same (table (λ j. up_to k j (f j)) 0 m) k (f k) 0 (rw table-length h)
      ∙ sym (up_to-below (k + 1) k (f k) (omega arith)))
  entry i l (no e) = get_or-set_other (table (λ j. up_to k j (f j)) 0 m) k i (f k) 0 e ∙ table_at (λ j. up_to k j (f j)) m i l ∙ side (dec_lt i k)
    where
      side : Dec (i < k) → up_to k i (f i) ≡ up_to (k + 1) i (f i)
      side (yes b) = up_to-below k i (f i) b ∙ sym (up_to-below (k + 1) i (f i) (omega arith))
      side (no b) = up_to_past k i (f i) (omega arith) ∙ sym (up_to_past (k + 1) i (f i) (omega arith))

  pub table-set : set (table (λ j. up_to k j (f j)) 0 m) k (f k) ≡ table (λ j. up_to (k + 1) j (f j)) 0 m
  unfolding old
  table-set =
      ext_get_or 0 _ _ (old_length ∙ sym (table-length _ 0 m))
      (λ i l.
      let b : i < m = subst (λ (x : ℕ). i < x) old_length l in
      entry i b (ℕ_discrete i k) ∙ sym (table_at (λ j. up_to (k + 1) j (f j)) m i b))
