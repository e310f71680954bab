-- The frame of labels, and the name of a place by direct calculation. Channels, sub-frames, slots, physical channels, places and bits of a name are
-- counted from 1, as in the documents, copies from 0.
use Rattle.std.specs.Prelude.{◌≡◌, Bool, cond, ◌&&◌, List, ℕ, suc, ◌+◌, ◌*◌, ◌-◌, ◌%◌, ◌≤◌, ◌<◌, eqb, ltb, get_or}
use Rattle.laws.specs.Sums.{sum_to}
use Rattle.laws.specs.Tables.{table}
use Rattle.counters.specs.Counting.{among}
use Rattle.sheet.specs.Fields.{tti_of, encoded_of, phchs_of, capacity_of}
use Rattle.sheet.specs.Sizes.{frames_of, size_of, equalised_of, slot_capacity, subframes_of, capacity_all}
use Rattle.sheet.specs.declared.Sheet.{Sheet}
use Rattle.orders.specs.Orders.{column_at}
use Rattle.matching.specs.Shares.{cut_of, change_of, channel_of}
use Rattle.pattern.specs.Closed.{source_of, copy_of}
use Rattle.interleaving.specs.Second as Second
use Rattle.mapping.specs.Mapping.{number_of, filled_as}
use Rattle.frame.specs.Frame.{start_at, runs_of, slot_start, subframe_start, frame_of}
use Rattle.naming.specs.declared.PlaceName.{PlaceName}

-- a bit is numbered before step 2, 1 to T_i; above E_i it is a filler
pub record Name : Type 0 where
  pub channel : ℕ
  pub bit : ℕ
  pub copy : ℕ

pub record Label : Type 0 where
  pub channel : ℕ
  pub bit : ℕ

-- the name that an answer holds
abbrev pub name_in : PlaceName → Name
name_in r = record { channel = r.trch.0; bit = r.bit.0; copy = r.copy }

-- ---- the frame of labels: each channel's bits 1 to T_i, as each step moves them

abbrev pub label_at : ℕ → ℕ → Label
label_at i m = record { channel = suc i; bit = suc m }

unfoldable pub labels : Sheet → ℕ → List Label
labels sh i = table (label_at i) 0 (equalised_of sh i)

abbrev pub copy_named : Label → ℕ → Name
copy_named l copy = record { channel = l.channel; bit = l.bit; copy = copy }

unfoldable pub label_frame : Sheet → ℕ → List Name
label_frame sh frame = frame_of copy_named sh frame (labels sh)

-- the index of a place in the frame: sub-frame, then slot, then PhCH, then place
unfoldable pub index_of : Sheet → ℕ → ℕ → ℕ → ℕ → ℕ
index_of sh subframe slot phch place =
    subframe_start sh (subframe - 1) + (slot_start sh (slot - 1) + (sum_to (capacity_of sh (slot - 1)) (phch - 1) + (place - 1)))

-- ---- the direct calculation, backwards from step 9, for sub-frame h, slot t and physical channel p, all from 0

-- step 9: the place is filled as bit x of its PhCH, upwards in an odd one and downwards in an even one; that is the slot's bit, in runs of 1,
-- x + (sum of min(U, x + 1) over the PhCHs before) + (sum of min(U, x) over those after)
unfoldable pub slot_bit_at : Sheet → ℕ → ℕ → ℕ → ℕ
slot_bit_at sh t p place = number_of (capacity_of sh t) (runs_of sh t) (phchs_of sh t) p (filled_as (capacity_of sh t p) (p + 1) place)

-- step 8: from where the slot's bit k is read. Mode 0: over all D bits; mode 1: within the slot's share
unfoldable pub read_from : Sheet → ℕ → ℕ → ℕ → ℕ
read_from sh h t k =
    cond (eqb sh.mode 0)
    (Second.comes_from (capacity_all sh) (subframe_start sh h + (slot_start sh t + k)))
    (subframes_of sh * slot_start sh t + Second.comes_from (subframes_of sh * slot_capacity sh t) (h * slot_capacity sh t + k))

-- the index of the multiplexed frame that stands at a place
unfoldable pub multiplexed_at : Sheet → ℕ → ℕ → ℕ → ℕ → ℕ
multiplexed_at sh subframe slot phch place = read_from sh (subframe - 1) (slot - 1) (slot_bit_at sh (slot - 1) (phch - 1) place)

-- bit m, from 0, of channel i's segment of a frame stands, before step 2, in row m of column P(n), n being the frame number mod F
unfoldable pub bit_number : Sheet → ℕ → ℕ → ℕ → ℕ
bit_number sh frame i m = m * frames_of sh i + column_at (tti_of sh i) (frame % frames_of sh i) + 1

-- steps 7 to 2, for index x of the multiplexed frame: channel i is the least whose Z is above x, and the bit and the copy are those that step 6
-- has at x less the Z before, by how many it dropped or added before
unfoldable pub name_at : Sheet → ℕ → ℕ → Name
name_at sh frame x =
    let i = channel_of sh x in
    let v = x - cut_of sh i in
    record {
      channel = i + 1;
      bit = bit_number sh frame i (source_of (change_of sh i) (size_of sh i) (start_at sh frame i) v);
      copy = copy_of (change_of sh i) (size_of sh i) (start_at sh frame i) v;
    }

unfoldable pub name_of : Sheet → ℕ → ℕ → ℕ → ℕ → ℕ → Name
name_of sh frame subframe slot phch place = name_at sh frame (multiplexed_at sh subframe slot phch place)

-- ---- what a name names

-- the place exists
pub record Exists (sh : Sheet) (subframe slot phch place : ℕ) : Type 0 where
  pub subframe-from : 0 < subframe
  pub subframe-to : subframe ≤ subframes_of sh
  pub slot-from : 0 < slot
  pub slot-to : slot ≤ sh.slots
  pub phch-from : 0 < phch
  pub phch-to : phch ≤ phchs_of sh (slot - 1)
  pub place-from : 0 < place
  pub place-to : place ≤ capacity_of sh (slot - 1) (phch - 1)

-- the same as a test: each of the four is one of 1 to as many as there are
unfoldable pub has_place : Sheet → ℕ → ℕ → ℕ → ℕ → Bool
has_place sh subframe slot phch place =
    among subframe (subframes_of sh)
    && (among slot sh.slots && (among phch (phchs_of sh (slot - 1)) && among place (capacity_of sh (slot - 1) (phch - 1))))

-- the name's channel and bit exist
pub record Inside (sh : Sheet) (n : Name) : Type 0 where
  pub channel-from : 0 < n.channel
  pub channel-to : n.channel ≤ sh.channels
  pub bit-from : 0 < n.bit
  pub bit-to : n.bit ≤ equalised_of sh (n.channel - 1)

-- what the contents, channels in order and E bits each, have for a named bit: a filler is 0
unfoldable pub content_of : Sheet → List ℕ → Name → ℕ
content_of sh contents n =
    cond (ltb (encoded_of sh (n.channel - 1)) n.bit) 0 (get_or contents (sum_to (encoded_of sh) (n.channel - 1) + (n.bit - 1)) 0)

-- a copy of bit m, from 0, of channel i's segment of a frame
unfoldable pub bit_name : Sheet → ℕ → ℕ → ℕ → ℕ → Name
bit_name sh frame i m copy = record { channel = i + 1; bit = bit_number sh frame i m; copy = copy }

-- some place is named by it
pub record NamedBy (sh : Sheet) (frame i m copy : ℕ) : Type 0 where
  pub subframe : ℕ
  pub slot : ℕ
  pub phch : ℕ
  pub place : ℕ
  pub there : Exists sh subframe slot phch place
  pub named : name_of sh frame subframe slot phch place ≡ bit_name sh frame i m copy
