-- Laws of steps 2 and 3.
use mathlib.Core.Path.{◌≡◌, sym, ap, ◌∙◌}
use mathlib.Core.List.{List, map, flatten}
use Prim.Native.Nat.{ℕ, suc, ◌+◌, ◌*◌, ◌≤◌, ◌<◌}
use native.Mathlib.Nat.{add_comm, suc-mul, mul-le-mul_right}
use native.Mathlib.Omega.{arith}
use lib.ListN.{length, get_or, length-take, length-drop}
use lib.Seq.{get_or-take, get_or-drop, ext_get_or}
use Rattle.laws.specs.Tables.{table}
use Rattle.laws.proofs.SumLaws.{sum_const}
use Rattle.laws.proofs.TableLaws.{tabled}
use Rattle.laws.proofs.PartLaws.{take-map, drop-map, parts_joined}
use Rattle.sheet.specs.Counts.{most_tti}
use Rattle.sheet.specs.Sizes.{frames_in}
use Rattle.orders.specs.Orders.{column_at, row_of}
use Rattle.orders.proofs.OrderLaws.{frames_bounds, column_swaps, length-row, row_at}
use Rattle.interleaving.specs.Columns.{column, columns, height, heights}
use Rattle.interleaving.specs.First.{equalised, first_interleaved, segment_of}
use Rattle.interleaving.proofs.EqualisedLaws.{equalised-length, equalised-at}
use Rattle.interleaving.proofs.ColumnLaws.{Among, height-full, column-at, column-length, columns-length, columns-at, columns-map}

module _ (tti : ℕ) (known : tti ≤ most_tti) where
  pos : 0 < frames_in tti
  pos = (frames_bounds tti known).0

  row-among : Among (frames_in tti) (row_of tti)
  row-among t l =
      let b : t < frames_in tti = omega (arith, length-row tti known) in
      rw (row_at tti t b) (column_swaps tti t known b).0

  -- each column has n elements
  rows_before : (n t : ℕ) → t ≤ frames_in tti → heights (frames_in tti) (row_of tti) (frames_in tti * n) t ≡ t * n
  rows_before n t h =
      sum_const _ n t (λ s l. height-full (frames_in tti) pos n (get_or (row_of tti) s 0) (row-among s (omega (arith, length-row tti known))))

  -- N rows of F elements
  module _ {A : Type 0} (n : ℕ) (xs : List A) (full : length xs ≡ frames_in tti * n) where
    pub first-length : length (first_interleaved tti xs) ≡ frames_in tti * n
    unfolding first_interleaved
    first-length =
        columns-length (frames_in tti) pos (row_of tti) xs row-among
        ∙ ap (λ (K : ℕ). heights (frames_in tti) (row_of tti) K (length (row_of tti))) full
        ∙ ap (heights (frames_in tti) (row_of tti) (frames_in tti * n)) (length-row tti known)
        ∙ rows_before n (frames_in tti) (omega arith)

    pub first-at : (frame m : ℕ) (z : A) → frame < frames_in tti → m < n
        → get_or (first_interleaved tti xs) (frame * n + m) z ≡ get_or xs (m * frames_in tti + column_at tti frame) z
    unfolding first_interleaved
    first-at frame m z l k =
        let p : get_or (row_of tti) frame 0 < frames_in tti = row-among frame (omega (arith, length-row tti known)) in
        let q : heights (frames_in tti) (row_of tti) (length xs) frame ≡ frame * n =
        ap (λ (K : ℕ). heights (frames_in tti) (row_of tti) K frame) full ∙ rows_before n frame (omega arith) in
        let r : height (frames_in tti) (length xs) (get_or (row_of tti) frame 0) ≡ n =
        ap (λ (K : ℕ). height (frames_in tti) K (get_or (row_of tti) frame 0)) full ∙ height-full (frames_in tti) pos n (get_or (row_of tti) frame 0) p in
        ap (λ (j : ℕ). get_or (columns (frames_in tti) (row_of tti) xs) (j + m) z) (sym q)
        ∙ columns-at (frames_in tti) pos (row_of tti) xs row-among frame m z (omega (arith, length-row tti known)) (rw r k)
        ∙ ap (λ (c : ℕ). get_or xs (m * frames_in tti + c) z) (row_at tti frame l)

    module _ (frame : ℕ) (inside : frame < frames_in tti) where
      pub segment-length : length (segment_of tti frame n xs) ≡ n
      unfolding segment_of
      segment-length =
          rw (length-take, length-drop, first-length)
          (omega (arith, suc-mul frame n, mul-le-mul_right {m = suc frame} {n = frames_in tti} n inside))

      pub segment-at : (m : ℕ) (z : A) → m < n → get_or (segment_of tti frame n xs) m z ≡ get_or xs (m * frames_in tti + column_at tti frame) z
      unfolding segment_of
      segment-at m z l =
          get_or-take n _ m z l ∙ get_or-drop (frame * n) (first_interleaved tti xs) m z ∙ first-at frame m z inside l

      -- frame n has column P(n)
      pub segment-column : (z : A) → segment_of tti frame n xs ≡ column (frames_in tti) (column_at tti frame) xs
      segment-column z =
          let c = (column_swaps tti frame known inside).0 in
          let s : length (column (frames_in tti) (column_at tti frame) xs) ≡ n =
          column-length (frames_in tti) pos (column_at tti frame) xs c
          ∙ ap (λ (K : ℕ). height (frames_in tti) K (column_at tti frame)) full
          ∙ height-full (frames_in tti) pos n (column_at tti frame) c in
          ext_get_or z _ _ (segment-length ∙ sym s)
          (λ m l. segment-at m z (omega (arith, segment-length)) ∙ sym (column-at (frames_in tti) pos (column_at tti frame) xs m z))

    -- all F segments, one after the other
    pub segments_joined : flatten (table (λ frame. segment_of tti frame n xs) 0 (frames_in tti)) ≡ first_interleaved tti xs
    unfolding segment_of
    segments_joined = parts_joined n (first_interleaved tti xs) (frames_in tti) first-length

module _ {A B : Type 0} (g : A → B) (tti : ℕ) (xs : List A) where
  pub first-map : first_interleaved tti (map g xs) ≡ map g (first_interleaved tti xs)
  unfolding first_interleaved
  first-map = columns-map g (frames_in tti) (row_of tti) xs

  pub segment-map : (frame n : ℕ) → segment_of tti frame n (map g xs) ≡ map g (segment_of tti frame n xs)
  unfolding segment_of
  segment-map frame n = rw (first-map, drop-map, take-map)

-- steps 1 to 3 at once: the frame's segment is every F-th of the elements from its column on, and fillers past the end
pub segment-every : {A : Type 0} (filler : A) (tti n frame : ℕ) (xs : List A) → tti ≤ most_tti → frame < frames_in tti → length xs ≤ frames_in tti * n
    → segment_of tti frame n (equalised filler tti n xs) ≡ table (λ m. get_or xs (column_at tti frame + m * frames_in tti) filler) 0 n
segment-every filler tti n frame xs known inside fits =
    let full = equalised-length filler tti n xs fits in
    let c = column_at tti frame in
    tabled _ (segment_of tti frame n (equalised filler tti n xs)) n filler
    (segment-length tti known n (equalised filler tti n xs) full frame inside)
    (λ m l.
    segment-at tti known n (equalised filler tti n xs) full frame inside m filler l
    ∙ equalised-at filler tti n xs (m * frames_in tti + c)
    ∙ ap (λ (k : ℕ). get_or xs k filler) (add_comm (m * frames_in tti) c))
