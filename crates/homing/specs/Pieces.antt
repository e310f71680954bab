-- How the code goes along the slots of a frame on the way home.
use Rattle.std.specs.Prelude.{◌≡◌, List, ◌⊎◌, ℕ, ◌≤◌, ◌<◌, length}
use Rattle.sheet.specs.Sizes.{capacity_all}
use Rattle.sheet.specs.declared.Sheet.{Sheet}
use Rattle.frame.specs.Frame.{slot_start, slot_bits}

-- slot j of sub-frame i comes before slot t of sub-frame h
abbrev pub Earlier : ℕ → ℕ → ℕ → ℕ → Type 0
Earlier i j h t = (i < h) ⊎ ((i ≡ h) × (j < t))

-- steps 9 and 8 at once: the list is one whose bits, by step 8, are those that g says for the slots before slot t of sub-frame h
pub record Through {A : Type 0} (sh : Sheet) (g : ℕ → ℕ → List A) (out : List A) (h t : ℕ) : Type 0 where
  pub long : length out ≡ capacity_all sh
  pub done : (i j : ℕ) → j < sh.slots → Earlier i j h t → slot_bits sh out i j ≡ g i j

-- and slot t begins at a in its sub-frame
pub record ThroughAt {A : Type 0} (sh : Sheet) (g : ℕ → ℕ → List A) (out : List A) (h t a : ℕ) : Type 0 where
  pub some : t ≤ sh.slots
  pub begins : a ≡ slot_start sh t
  pub through : Through sh g out h t
