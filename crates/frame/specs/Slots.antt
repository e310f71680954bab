-- How the code goes along the sub-frames and slots of a frame, one after the other.
use Rattle.std.specs.Prelude.{◌≡◌, cond, List, ◌⊎◌, ℕ, ◌+◌, ◌*◌, ◌≤◌, ◌<◌, eqb, length, get_or}
use Rattle.laws.specs.Sums.{sum_to}
use Rattle.laws.specs.Laid.{Laid}
use Rattle.laws.specs.Joined.{joined}
use Rattle.sheet.specs.Counts.{most_slots, most_codes, most_paired, most_capacities}
use Rattle.sheet.specs.Fields.{phchs_of}
use Rattle.sheet.specs.Numbers.{slot_load}
use Rattle.sheet.specs.Sizes.{slot_capacity, places_all, subframes_of}
use Rattle.sheet.specs.declared.Sheet.{Sheet}
use Rattle.mapping.specs.Mapping.{in_runs}
use Rattle.mapping.specs.Runs.{Short}
use Rattle.mapping.specs.declared.Runs.{Runs}
use Rattle.frame.specs.Frame.{runs_of, slot_start}
use Rattle.frame.specs.declared.spreading.Block.{Block}
use Rattle.frame.specs.declared.spreading.Span.{Span}

-- slot t by the arrays of a sheet: it exists, and its part, which begins at a, ends at `most` or before
pub record Spanned (phchs caps : List ℕ) (t a most : ℕ) : Type 0 where
  pub slot : t < most_slots
  pub codes : get_or phchs t 0 ≤ most_codes
  pub room : a + (slot_load caps (most_codes * t) (get_or phchs t 0)).sum ≤ most

-- where its capacities stand, where its part ends, and the slot after it
pub record Spans (phchs caps : List ℕ) (t a most : ℕ) (s : Span) : Type 0 where
  pub from : s.from ≡ most_codes * t
  pub to : s.to ≡ most_codes * t + get_or phchs t 0
  pub few : s.to ≤ most_capacities
  pub end : s.end ≡ a + (slot_load caps (most_codes * t) (get_or phchs t 0)).sum
  pub within : s.end ≤ most
  pub next : s.next ≡ t + 1

-- where a is where a slot of c places begins in its sub-frame, which has w: what step 8 interleaves together with its bits of sub-frame h of k, and at
-- which index of that, when it is interleaved, they begin. Mode 0: all bits; mode 1: the slot's share
unfoldable pub block_of : ℕ → ℕ → ℕ → ℕ → ℕ → ℕ → Block
block_of mode k h w a c = cond (eqb mode 0) (record { from = 0; to = k * w; at = h * w + a }) (record { from = k * a; to = k * (a + c); at = h * c })

unfoldable pub slot_block : Sheet → ℕ → ℕ → Block
slot_block sh h t = block_of sh.mode (subframes_of sh) h (places_all sh) (slot_start sh t) (slot_capacity sh t)

-- r says how many bits each physical channel of slot t takes at its turn, which is one where there are more than two
pub record RunsAt (sh : Sheet) (t : ℕ) (r : Runs) : Type 0 where
  pub runs : runs_of sh t ≡ in_runs r.first r.other
  pub short : Short r.first r.other
  pub few : (phchs_of sh t ≤ most_paired) ⊎ ((r.first ≡ 1) × (r.other ≡ 1))

-- of n parts that fill the list o one after the other, part i being c i long: the first i of them are there, up to x
pub record Partwise {A : Type 0} (c : ℕ → ℕ) (n : ℕ) (made : ℕ → List A) (o out : List A) (i x : ℕ) : Type 0 where
  pub some : i ≤ n
  pub begins : x ≡ sum_to c i
  pub full : length o ≡ sum_to c n
  pub long : length out ≡ length o
  pub laid : Laid o out x (joined made i)
