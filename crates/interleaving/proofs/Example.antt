-- Values of document 01, computed.
use mathlib.Core.Path.{◌≡◌, refl}
use mathlib.Core.List.{List, [], ◌∷◌}
use Prim.Native.Nat.{ℕ}
use lib.ListN.{get_or, take}
use Rattle.laws.specs.Tables.{table}
use Rattle.sheet.specs.Sizes.{segment_in}
use Rattle.orders.specs.Orders.{orders, column_at, row_of, order}
use Rattle.interleaving.specs.Columns.{column, columns}
use Rattle.interleaving.specs.First.{equalised, first_interleaved, segment_of, seat, finished}
use Rattle.interleaving.specs.Second.{second_interleaved}

-- 1 to n
unfoldable pub numbered : ℕ → List ℕ
numbered n = table (λ k. k) 1 n

-- F = 4 is TTI 2
pub record Examples : Type 0 where
  pub four : segment_in 4 4 ≡ 1
  pub five : segment_in 5 4 ≡ 2
  pub none : segment_in 0 4 ≡ 0
  pub one : segment_in 1 8 ≡ 1
  pub fillers : equalised 0 2 2 (numbered 5) ≡ 1 ∷ 2 ∷ 3 ∷ 4 ∷ 5 ∷ 0 ∷ 0 ∷ 0 ∷ []
  pub frame_0 : segment_of 2 0 2 (numbered 8) ≡ 1 ∷ 5 ∷ []
  pub frame_1 : segment_of 2 1 2 (numbered 8) ≡ 3 ∷ 7 ∷ []
  pub frame_2 : segment_of 2 2 2 (numbered 8) ≡ 2 ∷ 6 ∷ []
  pub frame_3 : segment_of 2 3 2 (numbered 8) ≡ 4 ∷ 8 ∷ []
  pub home : finished 0 2 2 5 (first_interleaved 2 (equalised 0 2 2 (numbered 5))) ≡ numbered 5
  pub of_8 : second_interleaved (numbered 8) ≡ 1 ∷ 6 ∷ 4 ∷ 2 ∷ 7 ∷ 5 ∷ 3 ∷ 8 ∷ []
  pub begins : take 4 (second_interleaved (numbered 31)) ≡ 1 ∷ 31 ∷ 21 ∷ 11 ∷ []
  pub ends : get_or (second_interleaved (numbered 31)) 30 0 ≡ 18

pub examples : Examples
unfolding numbered table column columns equalised first_interleaved segment_of seat finished second_interleaved orders column_at row_of order
examples =
    record {
      four = refl;
      five = refl;
      none = refl;
      one = refl;
      fillers = refl;
      frame_0 = refl;
      frame_1 = refl;
      frame_2 = refl;
      frame_3 = refl;
      home = refl;
      of_8 = refl;
      begins = refl;
      ends = refl;
    }
