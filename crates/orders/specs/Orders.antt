-- The orders in which columns are taken: step 2's four, as one table of four rows, and step 8's.
use Rattle.std.specs.Prelude.{List, [], ◌∷◌, ℕ, get_or, take}
use Rattle.sheet.specs.Sizes.{frames_in}

-- step 2, one row for each TTI, filled to eight with 0
unfoldable pub orders : List (List ℕ)
orders =
    (0 ∷ 0 ∷ 0 ∷ 0 ∷ 0 ∷ 0 ∷ 0 ∷ 0 ∷ [])
    ∷ (0 ∷ 1 ∷ 0 ∷ 0 ∷ 0 ∷ 0 ∷ 0 ∷ 0 ∷ [])
    ∷ (0 ∷ 2 ∷ 1 ∷ 3 ∷ 0 ∷ 0 ∷ 0 ∷ 0 ∷ [])
    ∷ (0 ∷ 4 ∷ 2 ∷ 6 ∷ 1 ∷ 5 ∷ 3 ∷ 7 ∷ [])
    ∷ []

-- P(n): entry n of the TTI's row
unfoldable pub column_at : ℕ → ℕ → ℕ
column_at tti n = get_or (get_or orders tti []) n 0

-- the row itself, F columns
unfoldable pub row_of : ℕ → List ℕ
row_of tti = take (frames_in tti) (get_or orders tti [])

-- step 8: the order in which the 30 columns are read
unfoldable pub order : List ℕ
order =
    0 ∷ 20 ∷ 10 ∷ 5 ∷ 15 ∷ 25 ∷ 3 ∷ 13 ∷ 23 ∷ 8 ∷ 18 ∷ 28 ∷ 1 ∷ 11 ∷ 21 ∷ 6 ∷ 16 ∷ 26 ∷ 4 ∷ 14 ∷ 24 ∷ 19 ∷ 9 ∷ 29 ∷ 12 ∷ 2 ∷ 7 ∷ 22 ∷ 27 ∷ 17 ∷ []

-- when column c is read: order's inverse
unfoldable pub turn_of : ℕ → ℕ
turn_of c =
    get_or
    (0 ∷ 12 ∷ 25 ∷ 6 ∷ 18 ∷ 3 ∷ 15 ∷ 26 ∷ 9 ∷ 22 ∷ 2 ∷ 13 ∷ 24 ∷ 7 ∷ 19 ∷ 4 ∷ 16 ∷ 29 ∷ 10 ∷ 21 ∷ 1 ∷ 14 ∷ 27 ∷ 8 ∷ 20 ∷ 5 ∷ 17 ∷ 28 ∷ 11 ∷ 23 ∷ []) c 0
