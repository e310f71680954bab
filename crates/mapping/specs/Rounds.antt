-- How the code goes through a slot of three PhCHs of one capacity: bit after bit, as the loop of document 004 does. It knows where the next three go.
use Rattle.std.specs.Prelude.{◌≡◌, ℕ, ◌+◌, ◌%◌, ◌<◌, List, length, drop}
use Rattle.interleaving.specs.Columns.{height}
use Rattle.interleaving.specs.Second.{second_interleaved}
use Rattle.interleaving.specs.Whole.{Down}
use Rattle.mapping.specs.Mapping.{run, before, place_of, ones, at, slot_size, Slot}
use Rattle.mapping.specs.declared.rounds.Hands.{Hands}

-- three PhCHs of one capacity
pub record Threefold (caps : List ℕ) : Type 0 where
  pub three : length caps ≡ 3
  pub second : at caps 1 ≡ at caps 0
  pub third : at caps 2 ≡ at caps 0

-- where bit k of a slot goes, and the slot that the loop makes of the bits from k on, over w
abbrev pub goes : List ℕ → ℕ → ℕ
goes caps k = place_of (at caps) ones (length caps) k

abbrev pub left_from : {A : Type 0} → List ℕ → List A → ℕ → List A → List A
left_from caps bits k w = run (at caps) ones (length caps) (drop k bits) (before (at caps) ones (length caps) k) w

-- bit k goes to `place`, if there is such a bit; and of those that are a multiple of three from it each goes `way` further than the one before it, modulo 2^64
pub record Hand (caps : List ℕ) (k place way : ℕ) : Type 0 where
  pub here : k < slot_size caps → place ≡ goes caps k
  pub on : (j : ℕ) → j % 3 ≡ k % 3 → j + 3 < slot_size caps → (goes caps j + way) % 18446744073709551616 ≡ goes caps (j + 3)

-- three of them, for the bits that come next
pub record Handed (caps : List ℕ) (h : Hands) : Type 0 where
  pub first : Hand caps h.k h.a h.wa
  pub second : Hand caps (h.k + 1) h.b h.wb
  pub third : Hand caps (h.k + 2) h.c h.wc

-- those once a bit is put
abbrev pub handed_on : Hands → Hands
handed_on h =
    record { k = h.k + 1; a = h.b; b = h.c; c = (h.a + h.wa) % 18446744073709551616; wa = h.wb; wb = h.wc; wc = h.wa }

-- before element c of K and every 30th behind it, which are the slot's bits from h on
pub record Facing (caps : List ℕ) (K places c : ℕ) (h : Hands) : Type 0 where
  pub slot : Slot caps K places
  pub hands : Handed caps h
  pub down : Down K c h.k

-- from h on bits are put over w, up to r, which gives v
pub record Carried {A : Type 0} (caps : List ℕ) (bits : List A) (h : Hands) (w : List A) (r : Hands) (v : List A) : Type 0 where
  pub hands : Handed caps r
  pub long : length v ≡ length w
  pub left : left_from caps bits h.k w ≡ left_from caps bits r.k v

-- all of those from element c on are put
abbrev pub ColumnCarried : List ℕ → List ℕ → ℕ → Hands → List ℕ → Hands → List ℕ → Type 0
ColumnCarried caps bits c h w r v = (r.k ≡ h.k + height 30 (length bits) c) × Carried caps (second_interleaved bits) h w r v
