-- S9, at the calls: reading what was written gives the fields back, and an accepted sheet written again gives the same bytes.
use mathlib.Core.Path.{◌≡◌, refl, sym, ap, ◌∙◌, subst}
use mathlib.Core.List.{List}
use Prim.Native.Nat.{ℕ, ◌<◌}
use lib.ListN.{length, get_or}
use Rattle.laws.proofs.TableLaws.{table-length}
use Rattle.counters.specs.Lines.{first_of}
use Rattle.counters.proofs.LineLaws.{pass_zero}
use Rattle.sheet.specs.Counts.{most_channels, most_slots, most_capacities, most_logs}
use Rattle.sheet.specs.Fields.{sheet_of}
use Rattle.sheet.specs.Numbers.{read_number}
use Rattle.sheet.specs.declared.Sheet.{Sheet}
use Rattle.sheet.proofs.NumberLaws.{readable}
use Rattle.writing.specs.Numbers.{write_number}
use Rattle.writing.specs.Written.{bytes_of, trimmed}
use Rattle.writing.proofs.ReadWritten.{read_back}
use Rattle.writing.proofs.WriteRead.{written_again, accepted-again}
use Rattle.looking.specs.Outcome.{outcome}
use Rattle.looking.proofs.OutcomeLaws.{wrote_yes}
use Rattle.sheets.specs.Flat.{flat_count, flat_of, sheet_from}
use Rattle.sheets.specs.Sheets.{not_flat, read_into, write_into, write_from_lines, write_from}
use Rattle.sheets.proofs.FlatLaws.{Shaped, flat-long, flat_back}
use Rattle.sheets.proofs.SheetLaws.{read_laid, write_flat}

-- what was written from the fields of a row is accepted, and read into a row it is those fields, with zeros past I, T and P and, in downlink, for
-- the logarithms
pub written_read : (l : List ℕ) (n : ℕ) (old : List ℕ) → first_of (write_from_lines l n) ≡ 0 → length old ≡ flat_count
    → outcome 0 flat_count (flat_of (trimmed (sheet_from l))) ≡ read_into (bytes_of (sheet_from l)) old
written_read l n old h e =
    let z : write_number (sheet_from l) n ≡ 0 = (pass_zero (not_flat (length l)) 10 _ h).1 in
    read_laid (bytes_of (sheet_from l)) (record { number = 0; sheet = trimmed (sheet_from l) }) (sym (read_back (sheet_from l) n z)) old refl e refl

-- the arrays of a sheet that was read are whole
read_shaped : (s : List ℕ) → Shaped (sheet_of s)
unfolding sheet_of
read_shaped s =
    record {
      tti = table-length _ 0 most_channels;
      e = table-length _ 0 most_channels;
      rm = table-length _ 0 most_channels;
      phchs = table-length _ 0 most_slots;
      caps = table-length _ 0 most_capacities;
      logs = table-length _ 0 most_logs;
    }

-- the row that an accepted sheet is read into is written to the same bytes
pub read_written : (s old : List ℕ) → ((i : ℕ) → get_or s i 0 < 256) → read_number s ≡ 0 → length old ≡ length s
    → outcome 0 (length s) s ≡ write_from (flat_of (sheet_of s)) old
read_written s old byte h e =
    write_flat (flat_of (sheet_of s)) old (flat-long (sheet_of s) (read_shaped s))
    (subst (λ (x : Sheet). outcome 0 (length s) s ≡ write_into x old) (sym (flat_back (sheet_of s) (read_shaped s)))
    (wrote_yes (write_number (sheet_of s) (length old)) _ (bytes_of (sheet_of s)) old
    (sym (ap (write_number (sheet_of s)) e ∙ accepted-again s h)) (readable s h).exact (sym (written_again s byte h))))
