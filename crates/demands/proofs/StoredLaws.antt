-- The lines of a stored sheet as tests, and that they say what the table of its release says; and a frame of one sub-frame.
use mathlib.Core.Path.{◌≡◌, refl, sym, ap, ap₂, ◌∙◌}
use mathlib.Core.Logic.{◌↔◌, ◌≢◌}
use mathlib.Core.Bool.{Bool, true, false, not, cond, ◌&&◌, ◌||◌}
use mathlib.Core.List.{List, [], ◌∷◌}
use Prim.Native.Nat.{ℕ, ◌+◌, ◌-◌, ◌*◌, ◌/◌, ◌<◌}
use native.Mathlib.Nat.{zero-mul, one-mul}
use native.Mathlib.Omega.{arith}
use borrow.Author.Tests.{eq-eqb, ne_eqb}
use lib.Dec.{eqb, ltb}
use lib.ListN.{length, take, drop}
use lib.Seq.{take_all}
use Rattle.laws.specs.Joined.{joined}
use Rattle.laws.proofs.TestLaws.{or_second}
use Rattle.laws.proofs.JoinedLaws.{joined_same}
use Rattle.laws.proofs.RowLaws.{one-row}
use Rattle.counters.specs.Lines.{Line, line, first_of}
use Rattle.counters.proofs.LineLaws.{here, past}
use Rattle.bits.specs.Bits.{bits_at}
use Rattle.sheet.specs.Counts.{most_lcr_slots, most_bits}
use Rattle.sheet.specs.Sizes.{equalised_all, slot_capacity, places_all, subframes_of, capacity_all}
use Rattle.sheet.specs.Numbers.{empty_place, some_beyond, beyond_uplink, beyond_subframe, silent, load_lines, read_number}
use Rattle.sheet.specs.declared.Sheet.{Sheet}
use Rattle.sheet.proofs.FieldLaws.{version_in, slots_in_lem}
use Rattle.sheet.proofs.SizeLaws.{one_each, subframes_are}
use Rattle.sheet.proofs.NumberLaws.{readable}
use Rattle.interleaving.specs.Second.{second_interleaved, comes_from}
use Rattle.interleaving.proofs.SecondLaws.{second-length}
use Rattle.mapping.specs.Mapping.{slot_of}
use Rattle.frame.specs.Frame.{caps_of, runs_of, slot_start, slot_part, slot_share, share_part, slot_bits, slot_mapped, spread}
use Rattle.frame.proofs.TurnLaws.{downlink_ones}
use Rattle.frame.proofs.FrameLaws.{length_share}
use Rattle.naming.specs.Name.{read_from}
use Rattle.demands.specs.Exactly.{Exactly}
use Rattle.demands.specs.Stored.{Release, release1, release2, release3, stored_t, stored_slot, stored_sheet, stored_uplink, stored_spare, stored_load, stored_says, stored_part, stored_bits, stored_runs, stored_from, Known}
use Rattle.demands.proofs.ExactLaws.{Means, nothing_said, and_said, apart, exactly}
use Rattle.demands.proofs.TestMeans.{below, empty_means, uplink_means, silent_means}
use Rattle.demands.proofs.TableLaws.{bytes_lines, bytes_means}

-- ---- its lines

abbrev old_lines : Sheet → List Line
old_lines sh =
    line (ltb most_bits (equalised_all sh)) 6 ∷
    line (ltb most_bits (places_all sh)) 7 ∷
    line (silent sh) 8 ∷
    []

-- those after 4
abbrev behind_lines : Release → Sheet → List Line
behind_lines release1 sh = line (empty_place sh) 5 ∷ old_lines sh
behind_lines release2 sh = line (empty_place sh) 5 ∷ line (beyond_uplink sh) 13 ∷ old_lines sh
behind_lines release3 sh = line (empty_place sh) 5 ∷ line (beyond_uplink sh) 13 ∷ old_lines sh

behind_means : (r : Release) (sh : Sheet) → Means (behind_lines r sh) (stored_load r sh)
behind_means release1 sh =
    and_said (empty_means sh)
    (and_said (below 60000 (equalised_all sh)) (and_said (below 60000 (places_all sh)) (and_said (silent_means sh) nothing_said)))
behind_means release2 sh =
    and_said (empty_means sh)
    (and_said (uplink_means sh)
    (and_said (below 60000 (equalised_all sh)) (and_said (below 60000 (places_all sh)) (and_said (silent_means sh) nothing_said))))
behind_means release3 sh =
    and_said (empty_means sh)
    (and_said (uplink_means sh)
    (and_said (below 60000 (equalised_all sh)) (and_said (below 60000 (places_all sh)) (and_said (silent_means sh) nothing_said))))

-- at 3.84 Mcps a frame has one sub-frame, D is the sum of all capacities, and 14 has nothing to refuse; without uplink 13 has not
pub one-subframe : (sh : Sheet) → sh.lcr ≡ 0 → subframes_of sh ≡ 1
one-subframe sh z = sym (subframes_are sh {k = 0} (sym z))

pub capacity_one : (sh : Sheet) → sh.lcr ≡ 0 → capacity_all sh ≡ places_all sh
capacity_one sh z = one_each sh (one-subframe sh z) refl

none_crowded : (sh : Sheet) → sh.lcr ≡ 0 → beyond_subframe sh ≡ false
none_crowded sh z = ap (λ (b : Bool). not b && ltb most_lcr_slots sh.slots) (eq-eqb sh.lcr 0 z)

behind_kept : (r : Release) (s : List ℕ) (sh : Sheet) → sh.uplink ≡ stored_uplink r s → sh.lcr ≡ 0 → first_of (load_lines sh) ≡ first_of (behind_lines r sh)
behind_kept release1 s sh down z =
    let none : beyond_uplink sh ≡ false = ap (λ (b : Bool). not b && some_beyond sh.phchs sh.logs sh.slots) (eq-eqb sh.uplink 0 down) in
    rw (none, none_crowded sh z, capacity_one sh z) refl
behind_kept release2 s sh e z = rw (none_crowded sh z, capacity_one sh z) refl
behind_kept release3 s sh e z = rw (none_crowded sh z, capacity_one sh z) refl

abbrev pub stored_lines : Release → List ℕ → Sheet → ℕ → ℕ → List Line
stored_lines r s sh end spare = bytes_lines s sh end spare (behind_lines r sh)

-- today's lines, taken to have these fields, have the same number
pub lines_kept : (r : Release) (s : List ℕ) (sh : Sheet) (end spare : ℕ) → sh.uplink ≡ stored_uplink r s → sh.lcr ≡ 0
    → first_of (bytes_lines s sh end spare (load_lines sh)) ≡ first_of (stored_lines r s sh end spare)
lines_kept r s sh end spare e z = rw (behind_kept r s sh e z) refl

numbers_apart : (r : Release) (s : List ℕ) (sh : Sheet) (end spare : ℕ) → apart (stored_lines r s sh end spare) ≡ true
numbers_apart release1 s sh end spare = refl
numbers_apart release2 s sh end spare = refl
numbers_apart release3 s sh end spare = refl

-- the first that holds is the answer to its table, if `spare` is 0 when its spare bits are
pub stored_exactly : (r : Release) (s : List ℕ) (spare : ℕ) → (spare ≢ 0) ↔ (stored_spare r s ≢ 0) → {n : ℕ}
    → n ≡ first_of (stored_lines r s (stored_sheet r s) (stored_slot r s (stored_t s)) spare) → Exactly (stored_says r s) n
stored_exactly r s spare i e =
    let sh = stored_sheet r s in
    let end = stored_slot r s (stored_t s) in
    exactly (bytes_means s sh end spare (stored_spare r s) i (behind_means r sh)) (numbers_apart r s sh end spare) e

-- bytes that are accepted now, of which bits that were spare are not 0: whatever their length and their padding were taken for
pub refused_four : (r : Release) (s : List ℕ) → read_number s ≡ 0 → stored_spare r s ≢ 0 → Exactly (stored_says r s) 4
unfolding stored_sheet
refused_four r s accepted h =
    let ok = readable s accepted in
    let sh = stored_sheet r s in
    let end = stored_slot r s (stored_t s) in
    let long = not (eqb (length s) ((end + 7) / 8)) in
    let spare = not (eqb (stored_spare r s) 0) in
    let padded = not (eqb (bits_at s end (8 * length s - end)) 0) in
    stored_exactly r s (stored_spare r s) (λ e. e, λ e. e)
    (past (ltb (length s) 2) 1 _ ok.long
    (past (not (eqb sh.version 1)) 2 _ (ap not (eq-eqb sh.version 1 (sym (version_in s) ∙ ok.version)))
    (past (eqb sh.slots 0) 3 _ (ne_eqb sh.slots 0 (λ z. ok.some (slots_in_lem s ∙ z)))
    (here (long || (spare || padded)) 4 (first_of (behind_lines r sh)) (sym (or_second long spare padded (ap not (ne_eqb (stored_spare r s) 0 h))))))))

-- ---- a frame of one sub-frame

pub runs_kept : (r : Release) (sh : Sheet) → Known r sh → (t : ℕ) → runs_of sh t ≡ stored_runs r sh t
runs_kept release1 sh k t = downlink_ones sh t k.uplink
runs_kept release2 sh k t = refl
runs_kept release3 sh k t = refl

from_zero : (w x : ℕ) → 0 * w + x ≡ x
from_zero w x = omega (arith, zero-mul w)

module _ (sh : Sheet) (one : subframes_of sh ≡ 1) where
  module _ {A : Type 0} (t : ℕ) where
    part-one : (xs : List A) → slot_part sh 0 t xs ≡ stored_part sh t xs
    unfolding slot_part
    part-one xs = ap (λ (x : ℕ). take (slot_capacity sh t) (drop x xs)) (from_zero (places_all sh) (slot_start sh t))

    share_one : (xs : List A) → slot_share sh t xs ≡ stored_part sh t xs
    unfolding slot_share
    share_one xs =
        ap (λ (k : ℕ). take (k * slot_capacity sh t) (drop (k * slot_start sh t) xs)) one
        ∙ ap₂ (λ (n a : ℕ). take n (drop a xs)) (one-mul (slot_capacity sh t)) (one-mul (slot_start sh t))

    -- which has the slot's whole share
    share_whole : (ys : List A) → length ys ≡ slot_capacity sh t → share_part sh 0 t ys ≡ ys
    unfolding share_part
    share_whole ys n =
        ap (λ (x : ℕ). take (slot_capacity sh t) (drop x ys)) (zero-mul (slot_capacity sh t)) ∙ take_all (slot_capacity sh t) ys (omega arith)

    bits-one : (xs : List A) → length xs ≡ capacity_all sh → t < sh.slots → slot_bits sh xs 0 t ≡ stored_bits sh xs t
    unfolding slot_bits
    bits-one xs full l =
        let n : length (second_interleaved (slot_share sh t xs)) ≡ slot_capacity sh t =
        second-length (slot_share sh t xs) ∙ length_share sh t l xs full ∙ ap (λ (k : ℕ). k * slot_capacity sh t) one ∙ one-mul (slot_capacity sh t) in
        ap₂ (cond (eqb sh.mode 0)) (part-one (second_interleaved xs))
        (share_whole (second_interleaved (slot_share sh t xs)) n ∙ ap second_interleaved (share_one xs))

  pub spread-one : (r : Release) → Known r sh → (xs : List ℕ) → length xs ≡ capacity_all sh
      → spread sh xs ≡ joined (λ t. let bits = stored_bits sh xs t in slot_of (stored_runs r sh t) (caps_of sh t) bits bits) sh.slots
  unfolding spread
  spread-one r k xs full =
      sym (one-row (λ h t. slot_mapped sh t (slot_bits sh xs h t)) sh.slots one)
      ∙ joined_same _ _ sh.slots
      (λ t l.
      ap (slot_mapped sh t) (bits-one t xs full l)
      ∙ ap (λ (B : ℕ → ℕ). slot_of B (caps_of sh t) (stored_bits sh xs t) (stored_bits sh xs t)) (runs_kept r sh k t))

  pub read_one : (t k : ℕ) → read_from sh 0 t k ≡ stored_from sh t k
  unfolding read_from
  read_one t k =
      ap₂ (cond (eqb sh.mode 0))
      (ap₂ comes_from (one_each sh one refl) (from_zero (places_all sh) (slot_start sh t + k)))
      (ap₂ ◌+◌ (ap (λ (n : ℕ). n * slot_start sh t) one ∙ one-mul (slot_start sh t))
      (ap₂ comes_from (ap (λ (n : ℕ). n * slot_capacity sh t) one ∙ one-mul (slot_capacity sh t)) (from_zero (slot_capacity sh t) k)))
