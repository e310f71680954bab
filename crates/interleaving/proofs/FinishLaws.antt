-- Laws of the undoing of steps 2 and 1.
use mathlib.Core.Path.{◌≡◌, refl, sym, ap, ap₂, ◌∙◌}
use mathlib.Core.List.{List, map}
use Prim.Native.Nat.{ℕ, suc, ◌+◌, ◌*◌, ◌-◌, ◌/◌, ◌%◌, ◌≤◌, ◌<◌}
use native.Mathlib.Nat.{suc-mul, mul_comm, mul-le-mul_right, lt_of_mul-lt-mul_right, div-add-mod', mod-lt}
use native.Mathlib.Omega.{arith}
use lib.Arith.{digits_div, digits_mod}
use lib.ListN.{length, get_or, take, replicate}
use lib.Seq.{length-take-le, get_or-take, take_at}
use Rattle.laws.specs.Tables.{table}
use Rattle.laws.proofs.TableLaws.{table-length, table_get, tabled, table-alike}
use Rattle.laws.proofs.PartLaws.{table-map, map_at}
use Rattle.sheet.specs.Counts.{most_tti}
use Rattle.sheet.specs.Sizes.{frames_in}
use Rattle.orders.specs.Orders.{column_at}
use Rattle.orders.proofs.OrderLaws.{frames_bounds, column_swaps}
use Rattle.interleaving.specs.First.{equalised, first_interleaved, seat, finished}
use Rattle.interleaving.proofs.EqualisedLaws.{equalised-length}
use Rattle.interleaving.proofs.FirstLaws.{first-at}

module _ (tti : ℕ) (known : tti ≤ most_tti) where
  -- element k by its row and its column
  by_digits : (k : ℕ) → k / frames_in tti * frames_in tti + k % frames_in tti ≡ k
  by_digits k = div-add-mod' k (frames_in tti)

  in_frame : (k : ℕ) → k % frames_in tti < frames_in tti
  in_frame k = mod-lt k (frames_bounds tti known).0

  -- m F + c lies among n rows only if m does
  pub row_below : (n m c : ℕ) → m * frames_in tti + c < frames_in tti * n → m < n
  row_below n m c l = lt_of_mul-lt-mul_right (frames_in tti) {m = m} {n = n} (omega (arith, mul_comm (frames_in tti) n))

  in_row : (n k : ℕ) → k < frames_in tti * n → k / frames_in tti < n
  in_row n k l = row_below n (k / frames_in tti) (k % frames_in tti) (omega (arith, by_digits k))

  pub seat-below : (n k : ℕ) → k < frames_in tti * n → seat tti n k < frames_in tti * n
  unfolding seat
  seat-below n k l =
      let p = column_at tti (k % frames_in tti) in
      let s = column_swaps tti (k % frames_in tti) known (in_frame k) in
      omega (arith, in_row n k l, suc-mul p n, mul-le-mul_right {m = suc p} {n = frames_in tti} n s.0)

  -- element m of the frame's segment has seat frame n + m
  pub seat_of_lem : (n frame m : ℕ) → frame < frames_in tti → seat tti n (m * frames_in tti + column_at tti frame) ≡ frame * n + m
  unfolding seat
  seat_of_lem n frame m l =
      let s = column_swaps tti frame known l in
      ap₂ (λ (a b : ℕ). column_at tti a * n + b) (digits_mod m s.0) (digits_div m s.0) ∙ ap (λ (a : ℕ). a * n + m) s.1

  -- what step 2 puts in element k's seat
  pub first-seat : {A : Type 0} (n : ℕ) (xs : List A) → length xs ≡ frames_in tti * n → (k : ℕ) (z : A) → k < frames_in tti * n
      → get_or (first_interleaved tti xs) (seat tti n k) z ≡ get_or xs k z
  unfolding seat
  first-seat n xs full k z l =
      let s = column_swaps tti (k % frames_in tti) known (in_frame k) in
      first-at tti known n xs full (column_at tti (k % frames_in tti)) (k / frames_in tti) z s.0 (in_row n k l)
      ∙ ap (λ (j : ℕ). get_or xs j z) (ap (λ (c : ℕ). k / frames_in tti * frames_in tti + c) s.1 ∙ by_digits k)

  -- no two elements have one seat
  pub seat_once : (n i j : ℕ) → i < frames_in tti * n → j < frames_in tti * n → seat tti n i ≡ seat tti n j → i ≡ j
  seat_once n i j hi hj e =
      let T = frames_in tti * n in
      let xs = table (λ k. k) 0 T in
      let at : (k : ℕ) → k < T → get_or (first_interleaved tti xs) (seat tti n k) 0 ≡ k =
      λ k l. first-seat n xs (table-length (λ k. k) 0 T) k 0 l ∙ table_get (λ k. k) T k 0 l in
      sym (at i hi) ∙ ap (λ (s : ℕ). get_or (first_interleaved tti xs) s 0) e ∙ at j hj

  -- from seat s n + r to the end of segment s stand elements from r F + P(s) on
  pub seat-after : (n s r j : ℕ) → j < frames_in tti * n → s * n + r ≤ seat tti n j → seat tti n j < suc s * n
      → r * frames_in tti + column_at tti s ≤ j
  unfolding seat
  seat-after n s r j hj low high =
      let p = column_at tti (j % frames_in tti) in
      let w = column_swaps tti (j % frames_in tti) known (in_frame j) in
      let a : p < suc s = lt_of_mul-lt-mul_right n {m = p} {n = suc s} (omega arith) in
      let b : s < suc p = lt_of_mul-lt-mul_right n {m = s} {n = suc p} (omega (arith, in_row n j hj, suc-mul p n)) in
      let e : p ≡ s = omega arith in
      let q : column_at tti s ≡ j % frames_in tti = ap (column_at tti) (sym e) ∙ w.1 in
      let m : r ≤ j / frames_in tti = omega (arith, ap (λ (x : ℕ). x * n) e) in
      omega (arith, q, by_digits j, mul-le-mul_right {m = r} {n = j / frames_in tti} (frames_in tti) m)

  module _ {A : Type 0} (z : A) (n : ℕ) where
    pub finished-length : (e : ℕ) (ys : List A) → length (finished z tti n e ys) ≡ e
    unfolding finished
    finished-length e ys = table-length _ 0 e

    pub finished-at : (e : ℕ) (ys : List A) (k : ℕ) (d : A) → k < e → get_or (finished z tti n e ys) k d ≡ get_or ys (seat tti n k) z
    unfolding finished
    finished-at e ys k d l = table_get (λ k. get_or ys (seat tti n k) z) e k d l

    -- undone: the first e of what was interleaved
    pub first_undone : (e : ℕ) (xs : List A) → length xs ≡ frames_in tti * n → e ≤ frames_in tti * n
        → finished z tti n e (first_interleaved tti xs) ≡ take e xs
    unfolding finished
    first_undone e xs full l =
        sym
        (tabled (λ k. get_or (first_interleaved tti xs) (seat tti n k) z) (take e xs) e z (length-take-le e xs (omega arith))
        (λ k b. get_or-take e xs k z b ∙ sym (first-seat n xs full k z (omega arith))))

    -- steps 1 and 2, then both undone
    pub home_again : (filler : A) (xs : List A) → length xs ≤ frames_in tti * n
        → finished z tti n (length xs) (first_interleaved tti (equalised filler tti n xs)) ≡ xs
    unfolding equalised
    home_again filler xs l =
        first_undone (length xs) (equalised filler tti n xs) (equalised-length filler tti n xs l) l
        ∙ take_at xs (replicate (frames_in tti * n - length xs) filler) (length xs) refl

  pub finished-map : {A B : Type 0} (g : A → B) (y : B) (z : A) (n e : ℕ) (ys : List A) → length ys ≡ frames_in tti * n → e ≤ frames_in tti * n
      → finished y tti n e (map g ys) ≡ map g (finished z tti n e ys)
  unfolding finished
  finished-map g y z n e ys full l =
      table-alike _ (λ k. g (get_or ys (seat tti n k) z)) e y
      (λ k b. map_at g ys (seat tti n k) y z (omega (arith, seat-below n k (omega arith))))
      ∙ table-map g (λ k. get_or ys (seat tti n k) z) 0 e
