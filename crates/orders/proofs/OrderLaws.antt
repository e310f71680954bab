-- Each row is a permutation of the numbers below F, and its own inverse; step 8's order is one of the numbers below 30.
use mathlib.Core.Path.{◌≡◌}
use mathlib.Core.Bool.{Bool}
use mathlib.Core.List.{[]}
use Prim.Native.Nat.{ℕ, ◌≤◌, ◌<◌}
use native.Mathlib.Omega.{arith}
use lib.ListN.{length, get_or}
use lib.Seq.{length-take-le, get_or-take}
use lib.Dec.{T, eqb, eqb→eq, ltb, ltb→lt, leb, leb→le}
use borrow.Author.Tests.{lt-ltb}
use Rattle.laws.proofs.TestLaws.{both, both_left, both_right, below, below_at, implies, implied}
use Rattle.sheet.specs.Counts.{most_tti, most_frames}
use Rattle.sheet.specs.Sizes.{frames_in}
use Rattle.orders.specs.Orders.{orders, column_at, row_of, order, turn_of}

swaps : ℕ → ℕ → Bool
swaps r c = implies (ltb c (frames_in r)) (both (ltb (column_at r c) (frames_in r)) (eqb (column_at r (column_at r c)) c))

small : ℕ → ℕ → Bool
small r c = ltb (column_at r c) most_frames

rows : ℕ → Bool
rows r =
    both (both (ltb 0 (frames_in r)) (leb (frames_in r) most_frames)) (both (eqb (length (get_or orders r [])) most_frames) (both (below (swaps r) most_frames) (below (small r) most_frames)))

row : (r : ℕ) → r ≤ most_tti → T (rows r)
unfolding rows swaps small implies both below orders column_at
row r h = below_at rows 4 tt r (omega arith)

pub frames_bounds : (r : ℕ) → r ≤ most_tti → (0 < frames_in r) × (frames_in r ≤ most_frames)
unfolding rows
frames_bounds r h =
    let t = both_left (both (ltb 0 (frames_in r)) (leb (frames_in r) most_frames)) _ (row r h) in
    (ltb→lt 0 (frames_in r) (both_left _ (leb (frames_in r) most_frames) t), leb→le (frames_in r) most_frames (both_right (ltb 0 (frames_in r)) _ t))

entries : (r : ℕ) → r ≤ most_tti → T (both (below (swaps r) most_frames) (below (small r) most_frames))
unfolding rows
entries r h =
    both_right (eqb (length (get_or orders r [])) most_frames) _ (both_right (both (ltb 0 (frames_in r)) (leb (frames_in r) most_frames)) _ (row r h))

pub column-small : (r c : ℕ) → r ≤ most_tti → c < most_frames → column_at r c < most_frames
unfolding small
column-small r c h k = ltb→lt (column_at r c) most_frames (below_at (small r) most_frames (both_right (below (swaps r) most_frames) _ (entries r h)) c k)

-- P(n) is below F, and P(P(n)) = n
pub column_swaps : (r c : ℕ) → r ≤ most_tti → c < frames_in r → (column_at r c < frames_in r) × (column_at r (column_at r c) ≡ c)
unfolding swaps
column_swaps r c h k =
    let b = frames_bounds r h in
    let t = below_at (swaps r) most_frames (both_left _ (below (small r) most_frames) (entries r h)) c (omega arith) in
    let u =
    implied (ltb c (frames_in r)) (both (ltb (column_at r c) (frames_in r)) (eqb (column_at r (column_at r c)) c)) t (lt-ltb c (frames_in r) k)
    in (
      ltb→lt (column_at r c) (frames_in r) (both_left _ (eqb (column_at r (column_at r c)) c) u),
      eqb→eq (column_at r (column_at r c)) c (both_right (ltb (column_at r c) (frames_in r)) _ u),
    )

pub length-row : (r : ℕ) → r ≤ most_tti → length (row_of r) ≡ frames_in r
unfolding row_of rows
length-row r h =
    let t = both_left _ (both (below (swaps r) most_frames) (below (small r) most_frames)) (both_right (both (ltb 0 (frames_in r)) (leb (frames_in r) most_frames)) _ (row r h)) in
    let q : length (get_or orders r []) ≡ most_frames = eqb→eq (length (get_or orders r [])) most_frames t in
    length-take-le (frames_in r) (get_or orders r []) (omega (arith, (frames_bounds r h).1))

pub row_at : (r n : ℕ) → n < frames_in r → get_or (row_of r) n 0 ≡ column_at r n
unfolding row_of column_at
row_at r n h = get_or-take (frames_in r) (get_or orders r []) n 0 h

-- step 8: column c is read in turn turn_of c, and turn t reads column order t
turned : ℕ → Bool
turned c = both (ltb (turn_of c) 30) (eqb (get_or order (turn_of c) 0) c)

ordered : ℕ → Bool
ordered t = both (ltb (get_or order t 0) 30) (eqb (turn_of (get_or order t 0)) t)

pub turn-order : (c : ℕ) → c < 30 → (turn_of c < 30) × (get_or order (turn_of c) 0 ≡ c)
unfolding turned turn_of order both below
turn-order c h =
    let t : T (turned c) = below_at turned 30 tt c h in (
      ltb→lt (turn_of c) 30 (both_left (ltb (turn_of c) 30) (eqb (get_or order (turn_of c) 0) c) t),
      eqb→eq (get_or order (turn_of c) 0) c (both_right (ltb (turn_of c) 30) (eqb (get_or order (turn_of c) 0) c) t),
    )

pub order-turn : (t : ℕ) → t < 30 → (get_or order t 0 < 30) × (turn_of (get_or order t 0) ≡ t)
unfolding ordered turn_of order both below
order-turn t h =
    let u : T (ordered t) = below_at ordered 30 tt t h in (
      ltb→lt (get_or order t 0) 30 (both_left (ltb (get_or order t 0) 30) (eqb (turn_of (get_or order t 0)) t) u),
      eqb→eq (turn_of (get_or order t 0)) t (both_right (ltb (get_or order t 0) 30) (eqb (turn_of (get_or order t 0)) t) u),
    )

pub length-order : length order ≡ 30
unfolding order
length-order = mathlib.Core.Path.refl
