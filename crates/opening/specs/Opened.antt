-- What an opened sheet has beside its fields: the numbers that every frame needs of them, worked out once.
use Rattle.std.specs.Prelude.{List, ℕ}
use Rattle.laws.specs.Tables.{table, up_to}
use Rattle.sheet.specs.Counts.{most_channels}
use Rattle.sheet.specs.Sizes.{size_of}
use Rattle.sheet.specs.declared.Sheet.{Sheet}

-- N of each channel, 0 past them
unfoldable pub sizes_of : Sheet → List ℕ
sizes_of sh = table (λ i. up_to sh.channels i (size_of sh i)) 0 most_channels
