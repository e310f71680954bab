-- The values of document 01 that are marked P: for each what the definitions give, and what the paper prints.
use Rattle.std.specs.Prelude.{List, [], ◌∷◌, ℕ, suc, ◌+◌, ◌*◌, ℤ, pos, negsuc, ◌-ℤ◌, get_or, take, drop, replicate}
use Rattle.laws.specs.Tables.{table}
use Rattle.sheet.specs.Sizes.{segment_in}
use Rattle.matching.specs.Shares.{share_in}
use Rattle.offset.specs.Offset.{remainder_of, q_of, q_f, y_of, start_of}
use Rattle.pattern.specs.Pattern.{as_is}
use Rattle.pattern.specs.Text.{matched_text}
use Rattle.interleaving.specs.First.{equalised, segment_of}
use Rattle.interleaving.specs.Second.{second_interleaved}
use Rattle.mapping.specs.Mapping.{ones, slot_of}

pub record Row : Type 0 where
  pub given : List ℕ
  pub printed : List ℕ

abbrev pub row : List ℕ → List ℕ → Row
row given printed = record { given = given; printed = printed }

-- the numbered bits 1 to n
abbrev pub bits : ℕ → List ℕ
bits n = table (λ k. k + 1) 0 n

-- a signed number as two: 0 and n, or 1 and n for -n
abbrev pub signed : ℤ → List ℕ
signed (pos n) = 0 ∷ n ∷ []
signed (negsuc n) = 1 ∷ suc n ∷ []

-- RM x N of two channels: N = 6 and 4, RM = 1 and 2
abbrev pub two_weights : ℕ → ℕ
two_weights i = get_or (1 * 6 ∷ 2 * 4 ∷ []) i 0

-- what is sent of one channel of N bits in a frame of D places, F = 1
abbrev pub sent_alone : ℕ → ℕ → List ℕ
sent_alone N D = matched_text as_is (pos D -ℤ pos N) N (start_of N (pos D -ℤ pos N) 0 0) (bits N)

-- what PhCH 1 and PhCH 2 hold of a slot of these two capacities
abbrev pub first_code : ℕ → ℕ → List ℕ
first_code U W = take U (slot_of ones (U ∷ W ∷ []) (bits (U + W)) (replicate (U + W) 0))

abbrev pub second_code : ℕ → ℕ → List ℕ
second_code U W = drop U (slot_of ones (U ∷ W ∷ []) (bits (U + W)) (replicate (U + W) 0))

-- one row for each list that the paper prints, so that no border between two of them is lost
unfoldable pub rows : List Row
rows =
    -- E=4, F=4: N=1
    row (segment_in 4 4 ∷ []) (1 ∷ []) ∷
    -- E=5, F=4: N=2, three fillers; frames 0 to 3 hold bits 1,5 / 3,7 / 2,6 / 4,8
    row (segment_in 5 4 ∷ []) (2 ∷ []) ∷
    row (equalised 0 2 2 (bits 5)) (1 ∷ 2 ∷ 3 ∷ 4 ∷ 5 ∷ 0 ∷ 0 ∷ 0 ∷ []) ∷
    row (segment_of 2 0 2 (bits 8)) (1 ∷ 5 ∷ []) ∷
    row (segment_of 2 1 2 (bits 8)) (3 ∷ 7 ∷ []) ∷
    row (segment_of 2 2 2 (bits 8)) (2 ∷ 6 ∷ []) ∷
    row (segment_of 2 3 2 (bits 8)) (4 ∷ 8 ∷ []) ∷
    -- E=0: N=0. E=1, F=8: N=1
    row (segment_in 0 1 ∷ segment_in 0 2 ∷ segment_in 0 4 ∷ segment_in 0 8 ∷ []) (0 ∷ 0 ∷ 0 ∷ 0 ∷ []) ∷
    row (segment_in 1 8 ∷ []) (1 ∷ []) ∷
    -- N = 6 and 4, RM = 1 and 2, D = 10: V = 4 and 6
    row (share_in 10 two_weights 2 0 ∷ share_in 10 two_weights 2 1 ∷ []) (4 ∷ 6 ∷ []) ∷
    -- N=6, D=4, F=1: q = -3, bits 1 and 4 dropped. N=6, D=8, F=1: sent are 1,1,2,3,4,4,5,6
    row (signed (q_of 6 (remainder_of (pos 4 -ℤ pos 6) 6))) (1 ∷ 3 ∷ []) ∷
    row (sent_alone 6 4) (2 ∷ 3 ∷ 5 ∷ 6 ∷ []) ∷
    row (sent_alone 6 8) (1 ∷ 1 ∷ 2 ∷ 3 ∷ 4 ∷ 4 ∷ 5 ∷ 6 ∷ []) ∷
    -- N=10, d=-3, F=4: starts in frames 0 to 3 are 1, 7, 13, 1
    row (table (start_of 10 (negsuc 2) 2) 0 4) (1 ∷ 7 ∷ 13 ∷ 1 ∷ []) ∷
    -- N=8, d=-2, F=4: q = -4, q' = -3 (q' x F = -12), starts 1, 5, 9, 1
    row (signed (q_of 8 (remainder_of (negsuc 1) 8))) (1 ∷ 4 ∷ []) ∷
    row (signed (q_f (negsuc 3) 4)) (1 ∷ 3 * 4 ∷ []) ∷
    row (table (start_of 8 (negsuc 1) 2) 0 4) (1 ∷ 5 ∷ 9 ∷ 1 ∷ []) ∷
    -- q=-4, F=8: y = 0,4,7,11,14,18,21,25
    row (table (y_of (negsuc 3) 8) 0 8) (0 ∷ 4 ∷ 7 ∷ 11 ∷ 14 ∷ 18 ∷ 21 ∷ 25 ∷ []) ∷
    -- second interleaving of 8: 1,6,4,2,7,5,3,8. Of 31: begins 1, 31, 21, 11 and ends with 18
    row (second_interleaved (bits 8)) (1 ∷ 6 ∷ 4 ∷ 2 ∷ 7 ∷ 5 ∷ 3 ∷ 8 ∷ []) ∷
    row (take 4 (second_interleaved (bits 31))) (1 ∷ 31 ∷ 21 ∷ 11 ∷ []) ∷
    row (drop 30 (second_interleaved (bits 31))) (18 ∷ []) ∷
    -- slot U = 3, 2: PhCH 1 holds 1,3,5, PhCH 2 holds 4,2. U = 1, 3: 1 and 4,3,2
    row (first_code 3 2) (1 ∷ 3 ∷ 5 ∷ []) ∷
    row (second_code 3 2) (4 ∷ 2 ∷ []) ∷
    row (first_code 1 3) (1 ∷ []) ∷
    row (second_code 1 3) (4 ∷ 3 ∷ 2 ∷ []) ∷
    []
