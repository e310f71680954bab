-- The runs that the code takes, the slots that it maps, and how many bits the other PhCHs have at a turn.
use Rattle.std.specs.Prelude.{◌≡◌, ℕ, ◌*◌, ◌<◌, ◌≤◌, min, cond, ◌⊎◌, List, length, ◌==◌}
use Rattle.mapping.specs.Mapping.{Slot}
use Rattle.mapping.specs.Strides.{turns}

-- runs that the code takes: b for PhCH 1, and c for the others
pub record Short (b c : ℕ) : Type 0 where
  pub first : 0 < b
  pub other : 0 < c
  pub low : b ≤ 16
  pub little : c ≤ 16

-- a slot of at most two PhCHs in such runs
pub record Paired (caps : List ℕ) (b c n m : ℕ) : Type 0 where
  pub slot : Slot caps n m
  pub few : length caps ≤ 2
  pub runs : Short b c

-- a slot of either kind: at most two PhCHs, or bits one at a time
pub record Coded (caps : List ℕ) (b c n m : ℕ) : Type 0 where
  pub slot : Slot caps n m
  pub few : (length caps ≤ 2) ⊎ ((b ≡ 1) × (c ≡ 1))
  pub small : length caps ≤ 16
  pub runs : Short b c

-- how many bits PhCH q has, other than PhCH p, when PhCH p takes a bit of its turn t
unfoldable pub had_in : (ℕ → ℕ) → (ℕ → ℕ) → ℕ → ℕ → ℕ → ℕ
had_in U B p t q = cond (q == p) 0 (min (U q) (turns p t q * B q))
