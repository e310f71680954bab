-- Step 9: mapping a slot's bits to its physical channels (PhCHs), which is the loop of document 004, and its undoing.
-- A slot has P PhCHs, of which PhCH p takes U p bits, in runs of B p (bs of document 004). Everything is counted from 0 here, so that the
-- number of PhCH p in the documents is p + 1. A slot in frame order has its PhCHs one after the other, each from place 1 on.
use Rattle.std.specs.Prelude.{◌≡◌, ℕ, zero, suc, ◌+◌, ◌-◌, ◌*◌, ◌/◌, ◌%◌, min, cond, List, [], ◌∷◌, length, ◌==◌, nat_lt, slice_index, slice_index_or, slice_set}
use Rattle.laws.specs.Sums.{sum_to, sum_from}
use Rattle.laws.specs.Tables.{table}

-- the loop's variables: p, the PhCH whose turn it is, and fb, how many bits each PhCH has already
pub record Turn : Type 0 where
  pub p : ℕ
  pub fb : ℕ → ℕ

-- reset: PhCH #1, and no bit in any
abbrev pub start : Turn
start = record { p = 0; fb = λ q. 0 }

-- p = (p mod P) + 1, counted from 0
abbrev pub next : ℕ → ℕ → ℕ
next P p = suc p % P

-- do while (fb == U): full PhCHs are passed over, from p on; n of them at most, and all P are enough
unfoldable pub passed : (ℕ → ℕ) → ℕ → (ℕ → ℕ) → ℕ → ℕ → ℕ
passed U P fb zero p = p
passed U P fb (suc n) p = cond (fb p == U p) (passed U P fb n (next P p)) p

-- fb = fb + 1 for PhCH p
unfoldable pub one_more : (ℕ → ℕ) → ℕ → ℕ → ℕ
one_more fb p q = cond (q == p) (suc (fb q)) (fb q)

-- if (fb mod bs) == 0 then p = (p mod P) + 1, n being fb of PhCH p
unfoldable pub onward : (ℕ → ℕ) → ℕ → ℕ → ℕ → ℕ
onward B P p n = cond (n % B p == 0) (next P p) p

-- the PhCH that takes the next bit, how many it has by then, and the variables after that bit
unfoldable pub taker : (ℕ → ℕ) → ℕ → Turn → ℕ
taker U P t = passed U P t.fb P t.p

abbrev pub had : (ℕ → ℕ) → ℕ → Turn → ℕ
had U P t = t.fb (taker U P t)

unfoldable pub after_bit : (ℕ → ℕ) → (ℕ → ℕ) → ℕ → Turn → Turn
after_bit U B P t = record { p = onward B P (taker U P t) (suc (had U P t)); fb = one_more t.fb (taker U P t) }

-- pos, counted from 1, of the next bit of a PhCH of u places that has x bits: if (p mod 2) == 0, U - fb, and otherwise fb + 1
unfoldable pub pos_of : ℕ → ℕ → ℕ → ℕ
pos_of u number x = cond (number % 2 == 0) (u - x) (x + 1)

-- and its place in the slot in frame order
unfoldable pub place : (ℕ → ℕ) → ℕ → ℕ → ℕ
place U p x = sum_to U p + (pos_of (U p) (p + 1) x - 1)

-- for k: each bit in turn is put where it goes, over what stood in the slot w
unfoldable pub run : {A : Type 0} → (ℕ → ℕ) → (ℕ → ℕ) → ℕ → List A → Turn → List A → List A
run U B P [] t w = w
run U B P (b ∷ bits) t w = run U B P bits (after_bit U B P t) (slice_set w (place U (taker U P t) (had U P t)) b)

-- the slot that the loop makes of bits, over the slot w
unfoldable pub mapped : {A : Type 0} → (ℕ → ℕ) → (ℕ → ℕ) → ℕ → List A → List A → List A
mapped U B P bits w = run U B P bits start w

-- the loop's variables before bit k; the PhCH that bit k goes to, as which of its bits, and the place
unfoldable pub before : (ℕ → ℕ) → (ℕ → ℕ) → ℕ → ℕ → Turn
before U B P zero = start
before U B P (suc k) = after_bit U B P (before U B P k)

abbrev pub phch_of : (ℕ → ℕ) → (ℕ → ℕ) → ℕ → ℕ → ℕ
phch_of U B P k = taker U P (before U B P k)

abbrev pub rank_of : (ℕ → ℕ) → (ℕ → ℕ) → ℕ → ℕ → ℕ
rank_of U B P k = had U P (before U B P k)

unfoldable pub place_of : (ℕ → ℕ) → (ℕ → ℕ) → ℕ → ℕ → ℕ
place_of U B P k = place U (phch_of U B P k) (rank_of U B P k)

-- the undoing: what stands at the place of bit 0, 1, .. of the slot w
unfoldable pub unmapped : {A : Type 0} → (ℕ → ℕ) → (ℕ → ℕ) → ℕ → A → List A → List A
unmapped U B P d w = table (λ k. slice_index_or w (place_of U B P k) d) 0 (sum_to U P)

-- the closed form: how many bits PhCH q has after r turns, and the number of the bit that is bit x of PhCH p
abbrev pub after_turns : (ℕ → ℕ) → (ℕ → ℕ) → ℕ → ℕ → ℕ
after_turns U B r q = min (U q) (r * B q)

unfoldable pub number_of : (ℕ → ℕ) → (ℕ → ℕ) → ℕ → ℕ → ℕ → ℕ
number_of U B P p x =
    x + sum_to (after_turns U B (suc (x / B p))) p + sum_from (after_turns U B (x / B p)) (suc p) (P - suc p)

-- which of a PhCH's bits stands at its place pos, counted from 1
unfoldable pub filled_as : ℕ → ℕ → ℕ → ℕ
filled_as u number pos = cond (number % 2 == 0) (u - pos) (pos - 1)

-- step 9 of document 01: bits go one at a time
abbrev pub ones : ℕ → ℕ
ones q = 1

-- bs of document 004 for uplink with two PhCHs, of spreading factors SF1 and SF2: if SF1 >= SF2, bs1 = 1 and bs2 = SF1/SF2; if SF2 > SF1,
-- bs1 = SF2/SF1 and bs2 = 1
unfoldable pub first_run : ℕ → ℕ → ℕ
first_run sf1 sf2 = cond (nat_lt sf1 sf2) (sf2 / sf1) 1

unfoldable pub second_run : ℕ → ℕ → ℕ
second_run sf1 sf2 = cond (nat_lt sf1 sf2) 1 (sf1 / sf2)

-- runs of b for PhCH 1, and of c for the other
unfoldable pub in_runs : ℕ → ℕ → ℕ → ℕ
in_runs b c q = cond (q == 0) b c

abbrev pub at : List ℕ → ℕ → ℕ
at caps p = slice_index caps p

abbrev pub slot_size : List ℕ → ℕ
slot_size caps = sum_to (at caps) (length caps)

-- a slot by the list of its capacities, in runs of B: its bits mapped over w, and w undone
abbrev pub slot_of : {A : Type 0} → (ℕ → ℕ) → List ℕ → List A → List A → List A
slot_of B caps bits w = mapped (at caps) B (length caps) bits w

abbrev pub slot_undone : {A : Type 0} → (ℕ → ℕ) → List ℕ → A → List A → List A
slot_undone B caps d w = unmapped (at caps) B (length caps) d w

-- as many bits, n, and as many places, m, as the capacities add up to
pub record Slot (caps : List ℕ) (n m : ℕ) : Type 0 where
  pub bits : n ≡ slot_size caps
  pub room : m ≡ slot_size caps
