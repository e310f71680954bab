-- How the code goes through a slot: along lines of evenly spaced bits and places. Its bits are not interleaved yet, or, taken back, no longer: bit k
-- of the slot is the one that step 8 puts to index at + k.
use Rattle.std.specs.Prelude.{◌≡◌, ℕ, zero, suc, ◌+◌, ◌-◌, ◌*◌, ◌%◌, ◌<◌, ◌≤◌, List, take, drop, ◌≢◌, slice_index_or, slice_set}
use Rattle.sheet.specs.Counts.{most_bits}
use Rattle.orders.specs.Orders.{order}
use Rattle.interleaving.specs.Turns.{Turned}
use Rattle.interleaving.specs.declared.second.Turns.{Turns}
use Rattle.mapping.specs.Mapping.{pos_of}
use Rattle.mapping.specs.declared.lines.Line.{Line}
use Rattle.mapping.specs.declared.lines.Walk.{Walk}
use Rattle.mapping.specs.declared.Mark.{Mark}
use Rattle.mapping.specs.declared.Stretch.{Stretch}

-- element i of a line, as a bit of the slot and as one of its PhCH
abbrev pub bit_on : Line → ℕ → ℕ
bit_on l i = l.bit + i * l.step

abbrev pub rank_on : Line → ℕ → ℕ
rank_on l i = l.rank + i * l.apart

-- its place, and its index once step 8 is done
abbrev pub spot_on : Line → ℕ → ℕ
spot_on l i = l.base + (pos_of l.room (l.p + 1) (rank_on l i) - 1)

abbrev pub index_on : ℕ → Line → ℕ → ℕ
index_on at l i = at + bit_on l i

-- the elements from 0, .. from (n - 1) of src put to 0, .. to (n - 1) in turn, over w
unfoldable pub copied : {A : Type 0} → A → (ℕ → ℕ) → (ℕ → ℕ) → List A → ℕ → List A → List A
copied d from to src zero w = w
copied d from to src (suc i) w = slice_set (copied d from to src i w) (to i) (slice_index_or src (from i) d)

-- a line lies within so many bits and places
pub record Within (bits places : ℕ) (l : Line) : Type 0 where
  pub given : (i : ℕ) → i < l.count → bit_on l i < bits
  pub inside : (i : ℕ) → i < l.count → rank_on l i < l.room
  pub room : l.base + l.room ≤ places
  pub few : (bits < 4294967296) × (places < 4294967296) × (l.bit < 4294967296)
  pub near : (l.step ≤ 32) × (l.apart ≤ 16)
  pub some : 0 < l.step

-- a walk stands before a bit of a line, or after its last
pub record Walked (l : Line) (at : ℕ) (w : Walk) : Type 0 where
  pub far : w.i ≤ l.count
  pub index : w.k ≡ index_on at l w.i
  pub place : w.i < l.count → w.place ≡ spot_on l w.i

-- how far the places move from one bit to the next, modulo 2^64, where they go up and where they go down
pub record Way (l : Line) (way : ℕ) : Type 0 where
  pub up : l.p % 2 ≡ 0 → way ≡ l.apart
  pub down : (l.p % 2 ≢ 0) → (way + l.apart) % 18446744073709551616 ≡ 0

-- the walk moves from w to r
pub record Passed (l : Line) (way : ℕ) (w r : Walk) : Type 0 where
  pub i : r.i ≡ w.i + 1
  pub k : r.k ≡ w.k + l.step
  pub seat : r.seat ≡ w.seat + 30 * l.step
  pub place : r.place ≡ (w.place + way) % 18446744073709551616

-- it stands before one of so many bits and places, and can move on
pub record Ready (bits places : ℕ) (l : Line) (w : Walk) : Type 0 where
  pub seat : w.seat < bits
  pub place : w.place < places
  pub index : (w.i ≤ w.k) × (w.k < bits)
  pub few : (bits < 4294967296) × (places < 4294967296)
  pub near : l.step ≤ 32

-- a stretch as a line
abbrev pub line_along : Mark → Stretch → Line
line_along m r = record { bit = m.k; step = r.stride; base = m.base; p = m.p; room = r.room; rank = m.x; apart = 1; count = r.end - m.x }

-- all n bits of a slot, place after place; and of how many places a slot may be that is laid out between steps 8 and 9
abbrev pub whole_line : ℕ → Line
whole_line n = record { bit = 0; step = 1; base = 0; p = 0; room = n; rank = 0; apart = 1; count = n }

abbrev pub short_slot : ℕ
short_slot = 512

-- the n bits of a slot are those from index `at` on of K elements, whose turns in step 8 are known
pub record Lent (K at n : ℕ) (t : Turns) : Type 0 where
  pub all : t.n ≡ K
  pub inside : at + n ≤ K

-- those n
abbrev pub part_from : {A : Type 0} → ℕ → ℕ → List A → List A
part_from at n xs = take n (drop at xs)
