-- Laws of step 8 and of its undoing.
use mathlib.Core.Path.{◌≡◌, refl, sym, ap, ap₂, ◌∙◌}
use mathlib.Core.Bool.{Bool}
use mathlib.Core.List.{List, map}
use Prim.Native.Nat.{ℕ, zero, suc, ◌+◌, ◌*◌, ◌-◌, ◌/◌, ◌%◌, ◌≤◌, ◌<◌}
use native.Mathlib.Omega.{arith}
use native.Mathlib.Decide.{ℕ_discrete}
use lib.Dec.{eqb, eqb→eq, lit<}
use lib.ListN.{length, get_or, set, length-set}
use lib.Seq.{ext_get_or, get_or-set_same, get_or-set_other}
use Rattle.laws.specs.Sums.{sum_to}
use Rattle.laws.specs.Tables.{table}
use Rattle.laws.specs.Least.{Passes}
use Rattle.laws.proofs.LeastLaws.{first_passes, passes_one}
use Rattle.laws.proofs.TableLaws.{table-length, table_get}
use Rattle.laws.proofs.TestLaws.{both, below, below_at}
use Rattle.orders.specs.Orders.{order, turn_of}
use Rattle.orders.proofs.OrderLaws.{turn-order, order-turn, length-order}
use Rattle.interleaving.specs.Columns.{height, columns}
use Rattle.interleaving.specs.Second.{second_interleaved, read_before, goes_to, turn_at, comes_from, second_undone}
use Rattle.interleaving.proofs.ColumnLaws.{Among, columns-length, columns-at, columns-map}

order-among : Among 30 order
order-among t l = (order-turn t (omega (arith, length-order))).0

-- one row more is one element more in each column
read_row : (K t : ℕ) → t ≤ 30 → read_before (30 + K) t ≡ t + read_before K t
unfolding sum_to
read_row K zero h = refl
read_row K (suc t) h = omega (arith, read_row K t (omega arith), (order-turn t (omega arith)).0)

short_row : ℕ → Bool
short_row s = eqb (read_before s 30) s

read_short : (s : ℕ) → s < 30 → read_before s 30 ≡ s
unfolding short_row sum_to order below both
read_short s h = eqb→eq (read_before s 30) s (below_at short_row 30 tt s h)

read_rows : (q s : ℕ) → s < 30 → read_before (30 * q + s) 30 ≡ 30 * q + s
read_rows zero s h = let e : 30 * 0 + s ≡ s = omega arith in rw e (read_short s h)
read_rows (suc q) s h =
    let e : 30 * suc q + s ≡ 30 + (30 * q + s) = omega arith in
    rw e (read_row (30 * q + s) 30 (omega arith) ∙ ap (λ (n : ℕ). 30 + n) (read_rows q s h))

-- all columns are read in 30 turns
pub read_all : (K : ℕ) → read_before K 30 ≡ K
read_all K =
    let e : K ≡ 30 * (K / 30) + K % 30 = omega arith in
    ap (λ (n : ℕ). read_before n 30) e ∙ read_rows (K / 30) (K % 30) (omega arith) ∙ sym e

pub read_suc : (K t : ℕ) → read_before K (suc t) ≡ read_before K t + height 30 K (get_or order t 0)
unfolding sum_to
read_suc K t = refl

read_most : (K t n : ℕ) → read_before K t ≤ read_before K (t + n)
read_most K t zero = let q : t + 0 ≡ t = omega arith in rw q (omega arith)
read_most K t (suc n) =
    let q : t + suc n ≡ suc (t + n) = omega arith in
    rw q (omega (arith, read_suc K (t + n), read_most K t n))

-- what is read before a turn is not more than all
pub read_within : (K t : ℕ) → t ≤ 30 → read_before K t ≤ K
read_within K t h =
    let q : t + (30 - t) ≡ 30 = omega arith in
    omega (arith, rw q at (read_most K t (30 - t)), read_all K)

-- ---- where an element goes, and where it comes from

-- row r of the column of turn t
pub place-row : (K t r : ℕ) → t < 30 → goes_to K (30 * r + get_or order t 0) ≡ r + read_before K t
unfolding goes_to
place-row K t r h =
    let o = order-turn t h in
    let a : (30 * r + get_or order t 0) / 30 ≡ r = omega (arith, o.0) in
    let b : (30 * r + get_or order t 0) % 30 ≡ get_or order t 0 = omega (arith, o.0) in
    ap₂ (λ (x y : ℕ). x + read_before K (turn_of y)) a b ∙ ap (λ (y : ℕ). r + read_before K y) o.1

pub place-below : (K k : ℕ) → k < K → goes_to K k < K
unfolding goes_to
place-below K k h =
    let s = turn-order (k % 30) (omega arith) in
    let t = turn_of (k % 30) in
    let q : suc t + (29 - t) ≡ 30 = omega (arith, s.0) in
    let m : read_before K (suc t) ≤ read_before K 30 = rw q at (read_most K (suc t) (29 - t)) in
    omega (arith, s.1, read_suc K t, m, read_all K)

pub turn_passes : (K j : ℕ) → j < K → Passes (read_before K) j 0 30 (turn_at K j)
unfolding turn_at
turn_passes K j h = first_passes (read_before K) j 30 (unfold sum_to in omega arith) (rw (read_all K) h)

pub source_below : (K j : ℕ) → j < K → comes_from K j < K
unfolding comes_from
source_below K j h =
    let p = turn_passes K j h in
    omega (arith, p.low, p.high, read_suc K (turn_at K j), (order-turn (turn_at K j) p.below).0)

-- in the turn that has index j: row by row down its column
pub source_row : (K t j : ℕ) → t < 30 → read_before K t ≤ j → j < read_before K (suc t) → comes_from K j ≡ 30 * (j - read_before K t) + get_or order t 0
unfolding comes_from
source_row K t j h low high =
    let up : (k : ℕ) → k < 30 → read_before K k ≤ read_before K (suc k) = λ k m. omega (arith, read_suc K k) in
    let b : j < K = omega (arith, read_within K (suc t) (omega arith)) in
    let q : turn_at K j ≡ t = passes_one (read_before K) j 30 (turn_at K j) t up (turn_passes K j b) h low high in
    rw q refl

pub place_source : (K j : ℕ) → j < K → goes_to K (comes_from K j) ≡ j
unfolding comes_from
place_source K j h =
    let p = turn_passes K j h in
    place-row K (turn_at K j) (j - read_before K (turn_at K j)) p.below ∙ omega (arith, p.low)

module _ {A : Type 0} where
  pub second-length : (xs : List A) → length (second_interleaved xs) ≡ length xs
  unfolding second_interleaved
  second-length xs =
      columns-length 30 (lit< tt) order xs order-among
      ∙ ap (read_before (length xs)) length-order
      ∙ read_all (length xs)

  -- element k, where it goes
  pub second-place : (xs : List A) (k : ℕ) (z : A) → k < length xs → get_or (second_interleaved xs) (goes_to (length xs) k) z ≡ get_or xs k z
  unfolding second_interleaved goes_to
  second-place xs k z h =
      let s = turn-order (k % 30) (omega arith) in
      let t = turn_of (k % 30) in
      let a : k / 30 + read_before (length xs) t ≡ read_before (length xs) t + k / 30 = omega arith in
      let b : k / 30 * 30 + get_or order t 0 ≡ k = omega (arith, s.1) in
      ap (λ (j : ℕ). get_or (columns 30 order xs) j z) a
      ∙ columns-at 30 (lit< tt) order xs order-among t (k / 30) z (omega (arith, length-order, s.0)) (omega (arith, s.1))
      ∙ ap (λ (j : ℕ). get_or xs j z) b

  -- what stands at index j, from where it comes
  pub second_at : (xs : List A) (j : ℕ) (z : A) → j < length xs → get_or (second_interleaved xs) j z ≡ get_or xs (comes_from (length xs) j) z
  second_at xs j z h =
      ap (λ (i : ℕ). get_or (second_interleaved xs) i z) (sym (place_source (length xs) j h))
      ∙ second-place xs (comes_from (length xs) j) z (source_below (length xs) j h)

-- the numbers below K carry their own places
pub source_place : (K k : ℕ) → k < K → comes_from K (goes_to K k) ≡ k
source_place K k h =
    let xs = table (λ i. i) 0 K in
    let e : length xs ≡ K = table-length (λ i. i) 0 K in
    let b = source_below K (goes_to K k) (place-below K k h) in
    sym (table_get (λ i. i) K (comes_from K (goes_to K k)) 0 b)
    ∙ ap (λ (n : ℕ). get_or xs (comes_from n (goes_to K k)) 0) (sym e)
    ∙ sym (second_at xs (goes_to K k) 0 (omega (arith, e, place-below K k h)))
    ∙ ap (λ (n : ℕ). get_or (second_interleaved xs) (goes_to n k) 0) (sym e)
    ∙ second-place xs k 0 (omega (arith, e))
    ∙ table_get (λ i. i) K k 0 h

-- no two indices come from one element
pub source_once : (K i j : ℕ) → i < K → j < K → comes_from K i ≡ comes_from K j → i ≡ j
source_once K i j hi hj e = sym (place_source K i hi) ∙ ap (goes_to K) e ∙ place_source K j hj

-- no two elements go to one place
pub place_once : (K i j : ℕ) → i < K → j < K → goes_to K i ≡ goes_to K j → i ≡ j
place_once K i j hi hj e = sym (source_place K i hi) ∙ ap (comes_from K) e ∙ source_place K j hj

-- ---- written through: what is put where index j comes from stands at index j

module _ {A : Type 0} where
  pub second-set : (l : List A) (j : ℕ) (v : A) → j < length l → second_interleaved (set l (comes_from (length l) j) v) ≡ set (second_interleaved l) j v
  second-set l j v h =
      let w = set l (comes_from (length l) j) v in
      let n : length w ≡ length l = length-set l (comes_from (length l) j) v in
      ext_get_or v _ _ (second-length w ∙ n ∙ sym (second-length l) ∙ sym (length-set (second_interleaved l) j v))
      (λ i b.
      let bi : i < length l = omega (arith, second-length w, n) in
      second_at w i v (omega (arith, n)) ∙ ap (λ (k : ℕ). get_or w (comes_from k i) v) n ∙ side i bi (ℕ_discrete i j))
    where
      side : (i : ℕ) → i < length l → Dec (i ≡ j)
          → get_or (set l (comes_from (length l) j) v) (comes_from (length l) i) v ≡ get_or (set (second_interleaved l) j v) i v
      side i b (yes q) =
          rw q
          (get_or-set_same l (comes_from (length l) j) v v (source_below (length l) j h)
          ∙ sym (get_or-set_same (second_interleaved l) j v v (omega (arith, second-length l))))
      side i b (no q) =
          get_or-set_other l (comes_from (length l) j) (comes_from (length l) i) v v (λ e. q (source_once (length l) i j b h e))
          ∙ sym (second_at l i v b)
          ∙ sym (get_or-set_other (second_interleaved l) j i v v q)

-- ---- undoing, and maps

module _ {A : Type 0} (z : A) where
  pub undone_length : (ys : List A) → length (second_undone z ys) ≡ length ys
  unfolding second_undone
  undone_length ys = table-length _ 0 (length ys)

  pub undone_at : (ys : List A) (k : ℕ) (d : A) → k < length ys → get_or (second_undone z ys) k d ≡ get_or ys (goes_to (length ys) k) z
  unfolding second_undone
  undone_at ys k d h = table_get (λ k. get_or ys (goes_to (length ys) k) z) (length ys) k d h

  pub second_undone_lem : (xs : List A) → second_undone z (second_interleaved xs) ≡ xs
  second_undone_lem xs =
      let e = second-length xs in
      ext_get_or z _ _ (undone_length (second_interleaved xs) ∙ e)
      (λ k l.
      let b : k < length xs = omega (arith, undone_length (second_interleaved xs)) in
      undone_at (second_interleaved xs) k z (omega arith)
      ∙ ap (λ (n : ℕ). get_or (second_interleaved xs) (goes_to n k) z) e
      ∙ second-place xs k z b)

  pub second_redone : (ys : List A) → second_interleaved (second_undone z ys) ≡ ys
  second_redone ys =
      let e = undone_length ys in
      ext_get_or z _ _ (second-length (second_undone z ys) ∙ e)
      (λ j l.
      let b : j < length ys = omega (arith, second-length (second_undone z ys)) in
      second_at (second_undone z ys) j z (omega arith)
      ∙ ap (λ (n : ℕ). get_or (second_undone z ys) (comes_from n j) z) e
      ∙ undone_at ys (comes_from (length ys) j) z (source_below (length ys) j b)
      ∙ ap (λ (i : ℕ). get_or ys i z) (place_source (length ys) j b))

module _ {A B : Type 0} (g : A → B) where
  pub second-map : (xs : List A) → second_interleaved (map g xs) ≡ map g (second_interleaved xs)
  unfolding second_interleaved
  second-map xs = columns-map g 30 order xs

  pub undone_map : (y : B) (z : A) (ys : List A) → second_undone y (map g ys) ≡ map g (second_undone z ys)
  undone_map y z ys =
      ap (λ (l : List A). second_undone y (map g l)) (sym (second_redone z ys))
      ∙ ap (second_undone y) (sym (second-map (second_undone z ys)))
      ∙ second_undone_lem y (map g (second_undone z ys))
