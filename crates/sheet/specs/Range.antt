-- What the code below the public calls may count on.
use Rattle.std.specs.Prelude.{◌≡◌, ℕ, ◌≤◌, ◌<◌, length}
use Rattle.counters.specs.Lines.{first_of}
use Rattle.sheet.specs.Counts.{most_channels, most_slots, most_codes, most_capacities, most_tti, most_encoded, most_ratio, most_capacity}
use Rattle.sheet.specs.Fields.{tti_of, encoded_of, ratio_of, phchs_of, capacity_of}
use Rattle.sheet.specs.Numbers.{load_lines}
use Rattle.sheet.specs.declared.Sheet.{Sheet}

-- each field that a sheet has is within its range; a capacity may be 0, which is number 5, and a logarithm over 4, which is number 13
pub record Ranged (sh : Sheet) : Type 0 where
  pub mode : sh.mode ≤ 1
  pub uplink : sh.uplink ≤ 1
  pub lcr : sh.lcr ≤ 1
  pub one : 1 ≤ sh.channels
  pub few_channels : sh.channels ≤ most_channels
  pub few_slots : sh.slots ≤ most_slots
  pub tti : (i : ℕ) → i < sh.channels → tti_of sh i ≤ most_tti
  pub encoded : (i : ℕ) → i < sh.channels → encoded_of sh i ≤ most_encoded
  pub ratio : (i : ℕ) → i < sh.channels → 1 ≤ ratio_of sh i
  pub ratio256 : (i : ℕ) → i < sh.channels → ratio_of sh i ≤ most_ratio
  pub phch : (t : ℕ) → t < sh.slots → 1 ≤ phchs_of sh t
  pub phch16 : (t : ℕ) → t < sh.slots → phchs_of sh t ≤ most_codes
  pub caps : (t p : ℕ) → t < sh.slots → p < phchs_of sh t → capacity_of sh t p ≤ most_capacity

-- and no line holds of the fields: they are those of an accepted sheet; the capacities fill their array
pub record Accepted (sh : Sheet) : Type 0 where
  pub ranged : Ranged sh
  pub loads : first_of (load_lines sh) ≡ 0
  pub whole : length sh.caps ≡ most_capacities
