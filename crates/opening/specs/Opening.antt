-- What a call answers that opens a sheet.
use Rattle.std.specs.Prelude.{◌≡◌, List, ℕ, Result}
use Rattle.counters.specs.Lines.{Line, first_of}
use Rattle.counters.specs.Refusals.{Refuses}
use Rattle.counters.specs.declared.refusal.Refusal.{Refusal}
use Rattle.sheet.specs.Fields.{sheet_of}
use Rattle.opening.specs.declared.Opened.{Opened}

-- refused by the first of the lines that holds; where none does, what P says of the bytes s opened
pub data AsOpened {A : Type 0} (lines : List Line) (s : List ℕ) (P : Opened → Type 0) (r : Result A Refusal) : Type 0 where
  refused : (first_of lines ≡ 0 → ⊥) → Refuses lines r → AsOpened lines s P r
  opened : (o : Opened) → o.fields ≡ sheet_of s → first_of lines ≡ 0 → P o → AsOpened lines s P r
