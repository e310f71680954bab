-- What the number 0 says of a sheet, and the answers of reading.
use mathlib.Core.Path.{◌≡◌, refl, sym, ap, ap₂, ◌∙◌}
use mathlib.Core.Bool.{Bool, false, not, ◌&&◌, ◌||◌}
use mathlib.Core.List.{List}
use Prim.Native.Nat.{ℕ, ◌-◌, ◌*◌, ◌≤◌, ◌<◌}
use native.Mathlib.Omega.{arith}
use native.Mathlib.Decide.{ℕ_discrete}
use borrow.Author.Tests.{eq-eqb, ne_eqb, eqb-true, eqb-false, ltb-false, not-false}
use lib.Dec.{ltb, eqb}
use lib.ListN.{length}
use Rattle.laws.specs.Sums.{any_to}
use Rattle.laws.proofs.SumLaws.{sum-most, any_each}
use Rattle.laws.proofs.TestLaws.{or_left, or_right}
use Rattle.counters.specs.Lines.{first_of, given}
use Rattle.counters.proofs.LineLaws.{Numbered, numbered_of, clear_of, clear_at, pass_zero, given_yes, given_no}
use Rattle.bits.specs.Bits.{bits_at}
use Rattle.sheet.specs.Counts.{most_codes, most_paired, most_bits, most_log, longest_sheet}
use Rattle.sheet.specs.Layout.{slot_width}
use Rattle.sheet.specs.Fields.{spare_in, sheet_of, blank, phchs_of, capacity_of, log_of}
use Rattle.sheet.specs.Sizes.{equalised_all, capacity_all, bits_needed, bytes_needed}
use Rattle.sheet.specs.Numbers.{empty_place, slot_beyond, some_beyond, beyond_uplink, beyond_subframe, silent, misfit, load_lines, read_lines, read_number, SheetAnswer, read_answer}
use Rattle.sheet.specs.Range.{Ranged}
use Rattle.sheet.specs.declared.Sheet.{Sheet}
use Rattle.sheet.proofs.SlotLaws.{width_most}

-- the three of line 4, and line 5 of one slot
abbrev pub wrong_length : List ℕ → Bool
wrong_length s = not (eqb (length s) (bytes_needed (sheet_of s)))

abbrev pub spare_set : List ℕ → Bool
spare_set s = not (eqb (spare_in s) 0)

abbrev pub padding_set : List ℕ → Bool
padding_set s = not (eqb (bits_at s (bits_needed (sheet_of s)) (8 * length s - bits_needed (sheet_of s))) 0)

abbrev pub empty_slot : Sheet → ℕ → Bool
empty_slot sh t = any_to (λ p. eqb (capacity_of sh t p) 0) (phchs_of sh t)

pub read_numbered : (s : List ℕ) → Numbered (read_lines s)
read_numbered s = numbered_of (read_lines s) refl

-- what the lines from 5 on leave
pub record Loads (sh : Sheet) : Type 0 where
  pub places : empty_place sh ≡ false
  pub uplink : beyond_uplink sh ≡ false
  pub subframe : beyond_subframe sh ≡ false
  pub sizes : ltb most_bits (equalised_all sh) ≡ false
  pub capacity : ltb most_bits (capacity_all sh) ≡ false
  pub heard : silent sh ≡ false

pub loads-zero : (sh : Sheet) → first_of (load_lines sh) ≡ 0 → Loads sh
loads-zero sh h =
    let c = clear_of (numbered_of (load_lines sh) refl) h in
    record { places = clear_at 5 c; uplink = clear_at 13 c; subframe = clear_at 14 c; sizes = clear_at 6 c; capacity = clear_at 7 c; heard = clear_at 8 c }

-- without number 13 each slot of an uplink sheet has at most two physical channels, with logarithms of at most 4
pub paired_of : (sh : Sheet) → beyond_uplink sh ≡ false → (sh.uplink ≡ 0 → ⊥) → (t : ℕ) → t < sh.slots
    → (phchs_of sh t ≤ most_paired) × ((p : ℕ) → p < phchs_of sh t → log_of sh t p ≤ most_log)
paired_of sh h up t l =
    let any = sym (ap (λ (b : Bool). not b && some_beyond sh.phchs sh.logs sh.slots) (ne_eqb sh.uplink 0 up)) ∙ h in
    let s = any_each (λ k. slot_beyond sh.logs k (phchs_of sh k)) sh.slots t any l in (
      ltb-false most_paired (phchs_of sh t) (or_left _ (any_to (λ p. ltb most_log (log_of sh t p)) (phchs_of sh t)) s),
      λ p k. ltb-false most_log (log_of sh t p) (any_each (λ q. ltb most_log (log_of sh t q)) (phchs_of sh t) p (or_right (ltb most_paired (phchs_of sh t)) _ s) k),
    )

-- so that no slot that is accepted is wider than one of downlink can be
slot-most : (sh : Sheet) → Ranged sh → beyond_uplink sh ≡ false → (t : ℕ) → t < sh.slots → Dec (sh.uplink ≡ 0)
    → slot_width sh.uplink (phchs_of sh t) ≤ slot_width 0 most_codes
slot-most sh r h t l (yes z) = rw z (omega (arith, r.phch16 t l))
slot-most sh r h t l (no z) = omega (arith, (paired_of sh h z t l).0, width_most sh.uplink (phchs_of sh t) r.uplink)

pub accepted-most : (sh : Sheet) → Ranged sh → Loads sh → bytes_needed sh ≤ longest_sheet
accepted-most sh r h =
    let b =
    sum-most (λ t. slot_width sh.uplink (phchs_of sh t)) (slot_width 0 most_codes) sh.slots
    (λ t l. slot-most sh r h.uplink t l (ℕ_discrete sh.uplink 0))
    in
    omega (arith, r.few_slots, r.few_channels)

-- what an accepted sheet has
pub record Readable (s : List ℕ) : Type 0 where
  pub long : ltb (length s) 2 ≡ false
  pub version : (sheet_of s).version ≡ 1
  pub some : (sheet_of s).slots ≡ 0 → ⊥
  pub exact : length s ≡ bytes_needed (sheet_of s)
  pub spare : spare_in s ≡ 0
  pub padding : bits_at s (bits_needed (sheet_of s)) (8 * length s - bits_needed (sheet_of s)) ≡ 0
  pub loads : first_of (load_lines (sheet_of s)) ≡ 0

pub readable : (s : List ℕ) → read_number s ≡ 0 → Readable s
readable s h =
    let sh = sheet_of s in
    let a = pass_zero (ltb (length s) 2) 0 _ h in
    let b = pass_zero (not (eqb sh.version 1)) 1 _ a.1 in
    let c = pass_zero (eqb sh.slots 0) 2 _ b.1 in
    let d = pass_zero (misfit s) 3 _ c.1 in
    let m = or_right (wrong_length s) (spare_set s || padding_set s) d.0 in
    record {
      long = a.0;
      version = eqb-true sh.version 1 (not-false _ b.0);
      some = eqb-false sh.slots 0 c.0;
      exact = eqb-true (length s) (bytes_needed sh) (not-false _ (or_left (wrong_length s) (spare_set s || padding_set s) d.0));
      spare = eqb-true (spare_in s) 0 (not-false _ (or_left (spare_set s) (padding_set s) m));
      padding = eqb-true _ 0 (not-false _ (or_right (spare_set s) (padding_set s) m));
      loads = d.1;
    }

pub number-zero : (s : List ℕ) → Readable s → read_number s ≡ 0
number-zero s r =
    let e2 : not (eqb (sheet_of s).version 1) ≡ false = ap not (eq-eqb (sheet_of s).version 1 r.version) in
    let e3 : eqb (sheet_of s).slots 0 ≡ false = ne_eqb (sheet_of s).slots 0 r.some in
    let e4 : misfit s ≡ false =
    ap₂ ◌||◌ (ap not (eq-eqb (length s) (bytes_needed (sheet_of s)) r.exact))
    (ap₂ ◌||◌ (ap not (eq-eqb (spare_in s) 0 r.spare)) (ap not (eq-eqb _ 0 r.padding)))
    in
    simp (r.long, e2, e3, e4) r.loads

-- the answers
made : (n m : ℕ) (a b : Sheet) → n ≡ m → a ≡ b → ◌≡◌ {A = SheetAnswer} (record { number = n; sheet = a }) (record { number = m; sheet = b })
made n m a b p q = rw (p, q)

pub accepted : (s : List ℕ) (n : ℕ) (sh : Sheet) → n ≡ read_number s → n ≡ 0 → sh ≡ sheet_of s
    → ◌≡◌ {A = SheetAnswer} (record { number = n; sheet = sh }) (read_answer s)
accepted s n sh p z e =
    made n (read_number s) sh (given (read_number s) (sheet_of s) blank) p (e ∙ sym (given_yes (read_number s) (sheet_of s) blank (sym p ∙ z)))

pub refused : (s : List ℕ) (n : ℕ) (sh : Sheet) → n ≡ read_number s → (n ≡ 0 → ⊥) → sh ≡ blank
    → ◌≡◌ {A = SheetAnswer} (record { number = n; sheet = sh }) (read_answer s)
refused s n sh p z e =
    made n (read_number s) sh (given (read_number s) (sheet_of s) blank) p
    (e ∙ sym (given_no (read_number s) (sheet_of s) blank (λ q. z (p ∙ q))))

-- what an answer says of its number and its fields
pub number_read : (s : List ℕ) (a : SheetAnswer) → a ≡ read_answer s → a.number ≡ read_number s
number_read s a e = ap (λ (x : SheetAnswer). x.number) e

pub fields_read : (s : List ℕ) (a : SheetAnswer) → a ≡ read_answer s → a.number ≡ 0 → a.sheet ≡ sheet_of s
fields_read s a e z =
    ap (λ (x : SheetAnswer). x.sheet) e ∙ given_yes (read_number s) (sheet_of s) blank (sym (number_read s a e) ∙ z)
