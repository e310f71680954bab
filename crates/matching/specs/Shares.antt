-- Step 4: shares. Channels are counted from 0 here: Z i stands after i channels, and channel i has what lies between Z i and Z (i + 1).
use Rattle.std.specs.Prelude.{List, ℕ, ◌+◌, ◌*◌, ◌-◌, ◌/◌, ℤ, pos, ◌-ℤ◌, take, drop}
use Rattle.laws.specs.Sums.{sum_to}
use Rattle.laws.specs.Least.{first}
use Rattle.laws.specs.Tables.{table, up_to}
use Rattle.sheet.specs.Counts.{most_channels}
use Rattle.sheet.specs.Fields.{ratio_of}
use Rattle.sheet.specs.Sizes.{size_of, capacity_all}
use Rattle.sheet.specs.declared.Sheet.{Sheet}

-- Z_i = floor(D x (sum of RM x N over channels 1 to i) / (the same sum over all)), w k being RM x N of channel k of n
abbrev pub cut_in : ℕ → (ℕ → ℕ) → ℕ → ℕ → ℕ
cut_in d w n i = d * sum_to w i / sum_to w n

-- V_i = Z_i - Z_(i-1)
abbrev pub share_in : ℕ → (ℕ → ℕ) → ℕ → ℕ → ℕ
share_in d w n i = cut_in d w n (i + 1) - cut_in d w n i

-- RM x N of channel i of a sheet
abbrev pub weight_of : Sheet → ℕ → ℕ
weight_of sh i = ratio_of sh i * size_of sh i

abbrev pub weight_all : Sheet → ℕ
weight_all sh = sum_to (weight_of sh) sh.channels

-- Z, V and d = V - N of a sheet, D being the sum of all capacities
abbrev pub cut_of : Sheet → ℕ → ℕ
cut_of sh i = cut_in (capacity_all sh) (weight_of sh) sh.channels i

abbrev pub share_of : Sheet → ℕ → ℕ
share_of sh i = share_in (capacity_all sh) (weight_of sh) sh.channels i

abbrev pub change_of : Sheet → ℕ → ℤ
change_of sh i = pos (share_of sh i) -ℤ pos (size_of sh i)

-- step 7: the V_i bits of channels 1 to I stand in order, so index x lies in the channel that is the least with its Z above x
unfoldable pub channel_of : Sheet → ℕ → ℕ
channel_of sh x = first (cut_of sh) x sh.channels 0

-- and channel i has the V_i from its Z on of a multiplexed frame of anything
abbrev pub channel_part : {A : Type 0} → Sheet → ℕ → List A → List A
channel_part sh i xs = take (share_of sh i) (drop (cut_of sh i) xs)

-- the sums of RM x N over the first 0 to I channels, 0 past them
unfoldable pub parts_of : Sheet → List ℕ
parts_of sh = table (λ i. up_to (sh.channels + 1) i (sum_to (weight_of sh) i)) 0 (most_channels + 1)

-- Z_0 to Z_I, 0 past them
unfoldable pub cuts_of : Sheet → List ℕ
cuts_of sh = table (λ i. up_to (sh.channels + 1) i (cut_of sh i)) 0 (most_channels + 1)
