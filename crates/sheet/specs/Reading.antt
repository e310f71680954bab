-- How far reading the fields has come: what the code's two parts of a sheet hold.
use Rattle.std.specs.Prelude.{◌≡◌, List, ℕ, ◌≤◌, ◌<◌, get_or}
use Rattle.laws.specs.Tables.{table, up_to}
use Rattle.sheet.specs.Counts.{most_channels, most_slots, most_codes, most_capacities, most_paired, most_logs}
use Rattle.sheet.specs.Layout.{channel_at}
use Rattle.sheet.specs.Fields.{uplink_in, tti_in, encoded_in, ratio_in, phchs_in, code_log, code_capacity, code_in}
use Rattle.sheet.specs.declared.fields.Channels.{Channels}
use Rattle.sheet.specs.declared.fields.Slots.{Slots}

-- the first k channels, and 0 past them
abbrev pub channels_to : List ℕ → ℕ → Channels
channels_to s k =
    record {
      tti = table (λ i. up_to k i (tti_in s i)) 0 most_channels;
      e = table (λ i. up_to k i (encoded_in s i)) 0 most_channels;
      rm = table (λ i. up_to k i (ratio_in s i)) 0 most_channels;
    }

-- P of the first t slots and the first m capacities, and 0 past them
abbrev pub slots_to : List ℕ → ℕ → ℕ → ℕ → Slots
slots_to s start t m =
    record {
      phchs = table (λ k. up_to t k (phchs_in s start k)) 0 most_slots;
      caps = table (λ k. up_to m k (code_in most_codes code_capacity s start k)) 0 most_capacities;
    }

-- the first m logarithms, and 0 past them
abbrev pub logs_to : List ℕ → ℕ → ℕ → List ℕ
logs_to s start m = table (λ k. up_to m k (code_in most_paired code_log s start k)) 0 most_logs

-- what reading them asks: P of each slot was read
pub record LogsAsk (s : List ℕ) (up : ℕ) (phchs : List ℕ) (start t : ℕ) : Type 0 where
  pub uplink : up ≡ uplink_in s
  pub few : t ≤ most_slots
  pub near : start ≤ channel_at most_channels
  pub codes : (i : ℕ) → i < t → get_or phchs i 0 ≡ phchs_in s start i
