-- What asking for a sheet's sizes and for one channel's numbers answers.
use Rattle.std.specs.Prelude.{List, [], ◌∷◌, ◌++◌, ℕ, ◌-◌, Result}
use Rattle.counters.specs.Lines.{Line, line, first_of, given}
use Rattle.counters.specs.Refusals.{answer_number, value_or}
use Rattle.counters.specs.declared.refusal.Refusal.{Refusal}
use Rattle.sheet.specs.Fields.{sheet_of, encoded_of}
use Rattle.sheet.specs.Sizes.{frames_of, size_of, encoded_all, equalised_all, capacity_all}
use Rattle.sheet.specs.Numbers.{read_lines, read_number}
use Rattle.sheet.specs.declared.Sheet.{Sheet}
use Rattle.matching.specs.Shares.{share_of}
use Rattle.looking.specs.Looking.{no_trch}
use Rattle.asking.specs.declared.SheetSizes.{SheetSizes}
use Rattle.asking.specs.declared.ChannelSizes.{ChannelSizes}

-- what C is told
pub record SizesAnswer : Type 0 where
  pub number : ℕ
  pub channels : ℕ
  pub slots : ℕ
  pub contents : ℕ
  pub capacity : ℕ
  pub joined : ℕ

pub record ChannelAnswer : Type 0 where
  pub number : ℕ
  pub f : ℕ
  pub e : ℕ
  pub n : ℕ
  pub v : ℕ

-- sizes: I, T, the sum of E, D, the sum of T_i; zeros where refused
abbrev pub sizes_made : ℕ → ℕ → ℕ → ℕ → ℕ → ℕ → SizesAnswer
sizes_made number channels slots contents capacity joined =
    record { number = number; channels = channels; slots = slots; contents = contents; capacity = capacity; joined = joined }

abbrev pub sizes_in : Sheet → SizesAnswer
sizes_in sh = sizes_made 0 sh.channels sh.slots (encoded_all sh) (capacity_all sh) (equalised_all sh)

abbrev pub no_sizes : ℕ → SizesAnswer
no_sizes number = sizes_made number 0 0 0 0 0

abbrev pub sizes_answer : List ℕ → SizesAnswer
sizes_answer s = given (read_number s) (sizes_in (sheet_of s)) (no_sizes (read_number s))

abbrev pub channel_lines : List ℕ → ℕ → List Line
channel_lines s k = read_lines s ++ line (no_trch (sheet_of s) k) 10 ∷ []

abbrev pub channel_number : List ℕ → ℕ → ℕ
channel_number s k = first_of (channel_lines s k)

-- channel: F, E, N, V of a channel, which is counted from 0 here; zeros where refused
abbrev pub channel_made : ℕ → ℕ → ℕ → ℕ → ℕ → ChannelAnswer
channel_made number f e n v = record { number = number; f = f; e = e; n = n; v = v }

abbrev pub channel_in : Sheet → ℕ → ChannelAnswer
channel_in sh i = channel_made 0 (frames_of sh i) (encoded_of sh i) (size_of sh i) (share_of sh i)

abbrev pub no_channel : ℕ → ChannelAnswer
no_channel number = channel_made number 0 0 0 0

abbrev pub channel_answer : List ℕ → ℕ → ChannelAnswer
channel_answer s k = given (channel_number s k) (channel_in (sheet_of s) (k - 1)) (no_channel (channel_number s k))

-- what the calls answer, in these terms
abbrev pub sizes_given : SheetSizes → SizesAnswer
sizes_given s = sizes_made 0 s.channels s.slots s.contents s.capacity s.joined

abbrev pub no_sizes_found : SheetSizes
no_sizes_found = record { channels = 0; slots = 0; contents = 0; capacity = 0; joined = 0 }

abbrev pub sizes_left : Result SheetSizes Refusal → SizesAnswer
sizes_left r =
    let s = value_or no_sizes_found r in
    sizes_made (answer_number r) s.channels s.slots s.contents s.capacity s.joined

abbrev pub channel_given : ChannelSizes → ChannelAnswer
channel_given c = channel_made 0 c.f c.e c.n c.v

abbrev pub no_channel_found : ChannelSizes
no_channel_found = record { f = 0; e = 0; n = 0; v = 0 }

abbrev pub channel_left : Result ChannelSizes Refusal → ChannelAnswer
channel_left r =
    let c = value_or no_channel_found r in
    channel_made (answer_number r) c.f c.e c.n c.v
