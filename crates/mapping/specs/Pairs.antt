-- How the code goes with at most two PhCHs in runs: which lines there are.
use Rattle.std.specs.Prelude.{◌≡◌, ℕ, suc, ◌+◌, ◌-◌, ◌*◌, ◌%◌, ◌<◌, ◌≤◌, min, cond, ◌⊎◌, List, [], ◌∷◌, nat_lt}
use Rattle.mapping.specs.Mapping.{place_of, in_runs, at}
use Rattle.mapping.specs.Runs.{Short}
use Rattle.mapping.specs.Lines.{bit_on, spot_on, Within}
use Rattle.mapping.specs.declared.pairs.Pair.{Pair}
use Rattle.mapping.specs.declared.lines.Line.{Line}

-- r rounds give each of two PhCHs a whole run, and no more do
pub record Rounds (u b v c r : ℕ) : Type 0 where
  pub first : r * b ≤ u
  pub second : r * c ≤ v
  pub end : (u < suc r * b) ⊎ (v < suc r * c)

-- a pair as a slot of two PhCHs, the second of which may have no bits
abbrev pub caps_in : Pair → ℕ → ℕ
caps_in t = at (t.u ∷ t.v ∷ [])

abbrev pub runs_in : Pair → ℕ → ℕ
runs_in t = in_runs t.b t.c

abbrev pub place_in : Pair → ℕ → ℕ
place_in t k = place_of (caps_in t) (runs_in t) 2 k

-- what its numbers mean
pub record Fit (t : Pair) : Type 0 where
  pub runs : Short t.b t.c
  pub small : t.u < 65536
  pub little : t.v < 65536
  pub full : Rounds t.u t.b t.v t.c t.rounds
  pub part : t.rest ≡ min t.b (t.u - t.rounds * t.b)

-- t is the pair of a slot
pub record PairOf (caps : List ℕ) (b c : ℕ) (t : Pair) : Type 0 where
  pub fit : Fit t
  pub run : t.b ≡ b
  pub other : t.c ≡ c
  pub first : t.u ≡ at caps 0
  pub second : t.v ≡ at caps 1

-- how many bits there are by the end of the full rounds, of PhCH 1's turn after them, and of PhCH 2
abbrev pub by_rounds : Pair → ℕ
by_rounds t = t.rounds * (t.b + t.c)

abbrev pub by_turn : Pair → ℕ
by_turn t = by_rounds t + t.rest

abbrev pub by_other : Pair → ℕ
by_other t = t.rounds * t.b + t.rest + t.v

-- the line that bit k is on: by its number in a full round, or past those rounds
unfoldable pub line_of : Pair → ℕ → ℕ
line_of t k =
    let n = t.b + t.c in
    cond (nat_lt k (by_rounds t)) (k % n) (cond (nat_lt k (by_turn t)) n (cond (nat_lt k (by_other t)) (n + 1) (n + 2)))

-- how many lines there are
abbrev pub lines : Pair → ℕ
lines t = t.b + t.c + 3

-- l is line j: where its bits go, and that it has them all
pub record Traced (t : Pair) (j : ℕ) (l : Line) : Type 0 where
  pub within : Within (t.u + t.v) (t.u + t.v) l
  pub goes : (i : ℕ) → i < l.count → place_in t (bit_on l i) ≡ spot_on l i
  pub all : (k : ℕ) → k < t.u + t.v → line_of t k ≡ j → (i : ℕ) × (i < l.count) × (k ≡ bit_on l i)
