-- A sheet there and back, and a frame gathered, over what the calls answer for bytes: these leave no choice to the bytes that are written and to the order
-- in which values are gathered.
use mathlib.Core.Path.{◌≡◌, ap, ◌∙◌}
use mathlib.Core.List.{List}
use Prim.Native.Nat.{ℕ, ◌<◌}
use lib.ListN.{length, get_or}
use Rattle.counters.proofs.LineLaws.{given_yes}
use Rattle.sheet.specs.Fields.{sheet_of, blank}
use Rattle.sheet.specs.Sizes.{capacity_all}
use Rattle.sheet.specs.Numbers.{read_number, read_answer}
use Rattle.sheet.specs.declared.Sheet.{Sheet}
use Rattle.writing.specs.Numbers.{write_number}
use Rattle.writing.specs.Written.{bytes_of, trimmed}
use Rattle.writing.proofs.ReadWritten.{read_back}
use Rattle.writing.proofs.WriteRead.{written_again}
use Rattle.opening.proofs.OpenLaws.{accepted_in}
use Rattle.frame.specs.Frame.{spread}
use Rattle.homing.specs.Gather.{gathered}
use Rattle.homing.proofs.GatherLaws.{gathered-spread, spread-gathered}
use Rattle.sheets.specs.Sheets.{write_into}

-- what was written is accepted, and read as the fields that it was written from, with zeros past I, T and P
pub written_read : (sh : Sheet) (old : List ℕ) → (write_into sh old).number ≡ 0
    → read_answer (write_into sh old).buffer ≡ record { number = 0; sheet = trimmed sh }
written_read sh old z = ap read_answer (given_yes (write_number sh (length old)) (bytes_of sh) old z) ∙ read_back sh (length old) z

-- the fields of an accepted sheet are written to the same bytes
pub read_written : (s : List ℕ) → ((i : ℕ) → get_or s i 0 < 256) → (read_answer s).number ≡ 0 → bytes_of (read_answer s).sheet ≡ s
read_written s byte z = ap bytes_of (given_yes (read_number s) (sheet_of s) blank z) ∙ written_again s byte z

-- what was spread, of elements of any type, is gathered as it was, and what was gathered is spread as it was
pub gathered_back : {A : Type 0} (d : A) (s : List ℕ) (xs : List A) → (read_answer s).number ≡ 0 → length xs ≡ capacity_all (sheet_of s)
    → (gathered d (sheet_of s) (spread (sheet_of s) xs) ≡ xs) × (spread (sheet_of s) (gathered d (sheet_of s) xs) ≡ xs)
gathered_back d s xs z full =
    (gathered-spread d (sheet_of s) (accepted_in s z) xs full, spread-gathered d (sheet_of s) (accepted_in s z) xs full)
