-- Laws of asking for the name of a place.
use mathlib.Core.Path.{◌≡◌, ap, ap₂, ◌∙◌}
use mathlib.Core.List.{List}
use Prim.Native.Nat.{ℕ}
use Rattle.std.specs.Prelude.{Result, Ok, Err, IfOk}
use Rattle.counters.specs.Refusals.{answer_index, Refuses}
use Rattle.counters.specs.declared.refusal.Refusal.{Refusal}
use Rattle.sheet.specs.Fields.{sheet_of}
use Rattle.naming.specs.Name.{name_of, name_in}
use Rattle.naming.specs.declared.PlaceName.{PlaceName}
use Rattle.looking.proofs.LookLaws.{given_refused, given_accepted}
use Rattle.asking.specs.Naming.{naming, no_name, name_lines, name_number, name_answer, naming_left}

pub name_from : (s : List ℕ) (frame subframe slot phch place : ℕ) (x : Result PlaceName Refusal) →
    Refuses (name_lines s frame subframe slot phch place) x → IfOk x (λ n. name_in n ≡ name_of (sheet_of s) frame subframe slot phch place) →
    (naming_left x ≡ name_answer s frame subframe slot phch place) × (answer_index x ≡ 0)
name_from s frame subframe slot phch place (Ok n) e v =
    (ap₂ naming e.0 (v ∙ given_accepted (name_number s frame subframe slot phch place) (name_of (sheet_of s) frame subframe slot phch place) no_name e.0), e.1)
name_from s frame subframe slot phch place (Err r) e v =
    (ap₂ naming e.0 (given_refused (name_number s frame subframe slot phch place) (name_of (sheet_of s) frame subframe slot phch place) no_name r e.0), e.1)
