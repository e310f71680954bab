-- The longest sheet is reached: a sheet with every channel, slot and code there is, which reading accepts.
use mathlib.Core.Path.{◌≡◌, refl, ap, ◌∙◌}
use lib.ListN.{length, replicate}
use Rattle.laws.specs.Sums.{sum_to, any_to}
use Rattle.sheet.specs.Counts.{most_channels, most_slots, most_codes, most_capacities, most_logs, longest_sheet, longest_form}
use Rattle.sheet.specs.Sizes.{bytes_needed, subframes_of}
use Rattle.sheet.specs.Numbers.{read_number, SheetAnswer}
use Rattle.sheet.specs.declared.Sheet.{Sheet}
use Rattle.writing.specs.Numbers.{field_number}
use Rattle.writing.specs.Written.{bytes_of}
use Rattle.writing.proofs.ReadWritten.{bytes_length, bytes_back}

-- one bit a channel, and one a physical channel
unfoldable pub full : Sheet
full =
    record {
      version = 1;
      mode = 0;
      channels = most_channels;
      slots = most_slots;
      uplink = 0;
      lcr = 0;
      tti = replicate most_channels 0;
      e = replicate most_channels 1;
      rm = replicate most_channels 1;
      phchs = replicate most_slots most_codes;
      caps = replicate most_capacities 1;
      logs = replicate most_logs 0;
    }

pub full_sound : field_number full ≡ 0
unfolding full sum_to any_to subframes_of
full_sound = refl

full_need : bytes_needed full ≡ longest_sheet
unfolding full sum_to
full_need = refl

-- "The longest accepted sheet grows to 418 bytes"
pub longest_is : longest_sheet ≡ 418
longest_is = refl

-- and the longest in form, which 13 refuses, has 508: "the lister reads at most 509"
pub form_is : longest_form ≡ 508
form_is = refl

pub full-length : length (bytes_of full) ≡ longest_sheet
full-length = bytes_length full ∙ full_need

pub full-accepted : read_number (bytes_of full) ≡ 0
full-accepted = ap (λ (x : SheetAnswer). x.number) (bytes_back full full_sound)
