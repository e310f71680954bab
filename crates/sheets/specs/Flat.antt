-- The fields of a sheet as 549 numbers in a row, as C has them: version, mode, I, T, uplink, 1.28 Mcps; TTI, E and RM of sixteen channels each; P of
-- fifteen slots; of fifteen times sixteen physical channels U, and then the logarithms of their spreading factors, which the fields have for two a slot.
use Rattle.std.specs.Prelude.{◌≡◌, List, [], ◌∷◌, ◌++◌, ℕ, ◌+◌, ◌*◌, ◌/◌, ◌%◌, length, get_or, take, drop}
use Rattle.std.proofs.Math.Seq.{paste}
use Rattle.laws.specs.Tables.{table}
use Rattle.sheet.specs.Counts.{most_channels, most_slots, most_codes, most_capacities, most_paired, most_logs}
use Rattle.sheet.specs.Fields.{log_in}
use Rattle.sheet.specs.declared.Sheet.{Sheet}

-- where each row of numbers begins, and how many there are in all
abbrev pub tti_from : ℕ
tti_from = 6

abbrev pub encoded_from : ℕ
encoded_from = tti_from + most_channels

abbrev pub ratio_from : ℕ
ratio_from = encoded_from + most_channels

abbrev pub phchs_from : ℕ
phchs_from = ratio_from + most_channels

abbrev pub caps_from : ℕ
caps_from = phchs_from + most_slots

abbrev pub logs_from : ℕ
logs_from = caps_from + most_capacities

abbrev pub flat_count : ℕ
flat_count = tti_from + 3 * most_channels + most_slots + 2 * most_capacities

-- what stands before the rows
abbrev pub flat_head : Sheet → List ℕ
flat_head sh = sh.version ∷ sh.mode ∷ sh.channels ∷ sh.slots ∷ sh.uplink ∷ sh.lcr ∷ []

-- the logarithm of physical channel m mod 16 of slot m div 16, 0 past the second; and such a row's logarithms, two a slot
abbrev pub flat_logs : List ℕ → List ℕ
flat_logs logs = table (λ m. log_in logs (m / most_codes) (m % most_codes)) 0 most_capacities

abbrev pub logs_taken : List ℕ → List ℕ
logs_taken l = table (λ k. get_or l (logs_from + (most_codes * (k / most_paired) + k % most_paired)) 0) 0 most_logs

unfoldable pub flat_of : Sheet → List ℕ
flat_of sh = (((((flat_head sh ++ sh.tti) ++ sh.e) ++ sh.rm) ++ sh.phchs) ++ sh.caps) ++ flat_logs sh.logs

unfoldable pub sheet_from : List ℕ → Sheet
sheet_from l =
    record {
      version = get_or l 0 0;
      mode = get_or l 1 0;
      channels = get_or l 2 0;
      slots = get_or l 3 0;
      uplink = get_or l 4 0;
      lcr = get_or l 5 0;
      tti = take most_channels (drop tti_from l);
      e = take most_channels (drop encoded_from l);
      rm = take most_channels (drop ratio_from l);
      phchs = take most_slots (drop phchs_from l);
      caps = take most_capacities (drop caps_from l);
      logs = logs_taken l;
    }

-- a row that was `old` has `part` from `at` on, and is else as it was
pub record LaidAt (old new : List ℕ) (at : ℕ) (part : List ℕ) : Type 0 where
  pub long : length new ≡ length old
  pub there : new ≡ paste old at part (length part)
