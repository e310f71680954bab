-- No field is outside its range just where each is within it; and what the number 0 says of the fields, both ways.
use mathlib.Core.Path.{◌≡◌, refl, sym, ap, ap₂, ◌∙◌}
use mathlib.Core.Bool.{Bool, false, not, cond, ◌||◌}
use mathlib.Core.List.{List, [], ◌∷◌}
use Prim.Native.Nat.{ℕ, ◌≤◌, ◌<◌}
use native.Mathlib.Omega.{arith}
use borrow.Author.Tests.{ltb-false, eqb-true, eqb-false, not-false, le-ltb, eq-eqb, ne_eqb}
use lib.Dec.{ltb, eqb}
use Rattle.laws.specs.Sums.{any_to}
use Rattle.laws.proofs.SumLaws.{any_each, any_none}
use Rattle.laws.proofs.TestLaws.{or_left, or_right}
use Rattle.counters.specs.Lines.{Line, line, first_of}
use Rattle.counters.specs.Refusals.{refusal_number}
use Rattle.counters.specs.declared.refusal.Refusal.{Refusal}
use Rattle.counters.specs.declared.refusal.Refusal.TheVariants.{ShortSheet, OtherVersion, NoSlots, Malformed, NoCapacity, ManyBits, ManyPlaces, NoBits, LateFrame, Missing, WrongLength, BadValue, BadUplink, BadSubframe}
use Rattle.counters.proofs.LineLaws.{Clear, Numbered, numbered_of, pass_zero, clear_of, of_clear, append_clear, append-zero, first-append}
use Rattle.sheet.specs.Counts.{most_channels, most_slots, most_codes, most_tti, most_encoded, most_ratio, most_capacity}
use Rattle.sheet.specs.Fields.{tti_of, encoded_of, ratio_of, phchs_of, capacity_of}
use Rattle.sheet.specs.Sizes.{bytes_needed}
use Rattle.sheet.specs.Numbers.{load_lines}
use Rattle.sheet.specs.Range.{Ranged}
use Rattle.sheet.specs.declared.Sheet.{Sheet}
use Rattle.writing.specs.Numbers.{outside, channel_outside, slot_outside, flag_outside, field_outside, field_lines, field_number, write_number}

-- neither below nor over
within : (least most x : ℕ) → outside least most x ≡ false → (least ≤ x) × (x ≤ most)
within least most x h =
    (ltb-false x least (or_left (ltb x least) (ltb most x) h), ltb-false most x (or_right (ltb x least) (ltb most x) h))

not_outside : (least most x : ℕ) → least ≤ x → x ≤ most → outside least most x ≡ false
not_outside least most x p q = ap₂ ◌||◌ (le-ltb x least p) (le-ltb most x q)

-- one channel is outside, one slot, one capacity of slot t
abbrev some_channel : Sheet → Bool
some_channel sh = any_to (channel_outside sh) sh.channels

abbrev pub some_slot : Sheet → Bool
some_slot sh = any_to (slot_outside sh) sh.slots

abbrev over_capacity : Sheet → ℕ → Bool
over_capacity sh t = any_to (λ p. ltb most_capacity (capacity_of sh t p)) (phchs_of sh t)

module _ (sh : Sheet) (h : field_outside sh ≡ false) where
  flags : flag_outside sh ≡ false
  flags = or_left (flag_outside sh) _ h

  beside : (ltb 1 sh.uplink || ltb 1 sh.lcr) ≡ false
  beside = or_right (ltb 1 sh.mode) _ flags

  counts : (outside 1 most_channels sh.channels || (ltb most_slots sh.slots || (some_channel sh || some_slot sh))) ≡ false
  counts = or_right (flag_outside sh) _ h

  slots : (ltb most_slots sh.slots || (some_channel sh || some_slot sh)) ≡ false
  slots = or_right (outside 1 most_channels sh.channels) _ counts

  each : (some_channel sh || some_slot sh) ≡ false
  each = or_right (ltb most_slots sh.slots) _ slots

  number : (1 ≤ sh.channels) × (sh.channels ≤ most_channels)
  number = within 1 most_channels sh.channels (or_left _ (ltb most_slots sh.slots || (some_channel sh || some_slot sh)) counts)

  channel : (i : ℕ) → i < sh.channels → channel_outside sh i ≡ false
  channel i l = any_each (channel_outside sh) sh.channels i (or_left _ (some_slot sh) each) l

  behind : (i : ℕ) → i < sh.channels → (ltb most_encoded (encoded_of sh i) || outside 1 most_ratio (ratio_of sh i)) ≡ false
  behind i l = or_right (ltb most_tti (tti_of sh i)) _ (channel i l)

  ratio : (i : ℕ) → i < sh.channels → (1 ≤ ratio_of sh i) × (ratio_of sh i ≤ most_ratio)
  ratio i l = within 1 most_ratio (ratio_of sh i) (or_right (ltb most_encoded (encoded_of sh i)) _ (behind i l))

  slot : (t : ℕ) → t < sh.slots → slot_outside sh t ≡ false
  slot t l = any_each (slot_outside sh) sh.slots t (or_right (some_channel sh) _ each) l

  codes : (t : ℕ) → t < sh.slots → (1 ≤ phchs_of sh t) × (phchs_of sh t ≤ most_codes)
  codes t l = within 1 most_codes (phchs_of sh t) (or_left _ (over_capacity sh t) (slot t l))

  pub ranged_of : Ranged sh
  ranged_of =
      record {
        mode = ltb-false 1 sh.mode (or_left _ (ltb 1 sh.uplink || ltb 1 sh.lcr) flags);
        uplink = ltb-false 1 sh.uplink (or_left _ (ltb 1 sh.lcr) beside);
        lcr = ltb-false 1 sh.lcr (or_right (ltb 1 sh.uplink) _ beside);
        one = number.0;
        few_channels = number.1;
        few_slots = ltb-false most_slots sh.slots (or_left _ (some_channel sh || some_slot sh) slots);
        tti = λ i l. ltb-false most_tti _ (or_left _ (ltb most_encoded (encoded_of sh i) || outside 1 most_ratio (ratio_of sh i)) (channel i l));
        encoded = λ i l. ltb-false most_encoded _ (or_left _ (outside 1 most_ratio (ratio_of sh i)) (behind i l));
        ratio = λ i l. (ratio i l).0;
        ratio256 = λ i l. (ratio i l).1;
        phch = λ t l. (codes t l).0;
        phch16 = λ t l. (codes t l).1;
        caps =
            λ t p l k.
            ltb-false most_capacity (capacity_of sh t p)
            (any_each (λ q. ltb most_capacity (capacity_of sh t q)) (phchs_of sh t) p (or_right (outside 1 most_codes (phchs_of sh t)) _ (slot t l)) k);
      }

pub inside_of : (sh : Sheet) → Ranged sh → field_outside sh ≡ false
inside_of sh r =
    ap₂ ◌||◌ (ap₂ ◌||◌ (le-ltb 1 sh.mode r.mode) (ap₂ ◌||◌ (le-ltb 1 sh.uplink r.uplink) (le-ltb 1 sh.lcr r.lcr)))
    (ap₂ ◌||◌ (not_outside 1 most_channels sh.channels r.one r.few_channels)
    (ap₂ ◌||◌ (le-ltb most_slots sh.slots r.few_slots)
    (ap₂ ◌||◌
    (any_none (channel_outside sh) sh.channels
    (λ i l.
    ap₂ ◌||◌ (le-ltb most_tti _ (r.tti i l))
    (ap₂ ◌||◌ (le-ltb most_encoded _ (r.encoded i l)) (not_outside 1 most_ratio (ratio_of sh i) (r.ratio i l) (r.ratio256 i l)))))
    (any_none (slot_outside sh) sh.slots
    (λ t l.
    ap₂ ◌||◌ (not_outside 1 most_codes (phchs_of sh t) (r.phch t l) (r.phch16 t l))
    (any_none (λ p. ltb most_capacity (capacity_of sh t p)) (phchs_of sh t) (λ p k. le-ltb most_capacity _ (r.caps t p l k))))))))

field_numbered : (sh : Sheet) → Numbered (field_lines sh)
field_numbered sh = numbered_of (field_lines sh) refl

-- what the lines of the fields leave
pub record Sound (sh : Sheet) : Type 0 where
  pub version : sh.version ≡ 1
  pub some : sh.slots ≡ 0 → ⊥
  pub ranged : Ranged sh
  pub loads : first_of (load_lines sh) ≡ 0

pub sound : (sh : Sheet) → field_number sh ≡ 0 → Sound sh
sound sh h =
    let a = pass_zero (not (eqb sh.version 1)) 1 _ h in
    let b = pass_zero (eqb sh.slots 0) 2 _ a.1 in
    let c = pass_zero (field_outside sh) 3 _ b.1 in
    record {
      version = eqb-true sh.version 1 (not-false _ a.0);
      some = eqb-false sh.slots 0 b.0;
      ranged = ranged_of sh c.0;
      loads = c.1;
    }

pub sound_zero : (sh : Sheet) → Sound sh → field_number sh ≡ 0
sound_zero sh w =
    let e2 : not (eqb sh.version 1) ≡ false = ap not (eq-eqb sh.version 1 w.version) in
    let e3 : eqb sh.slots 0 ≡ false = ne_eqb sh.slots 0 w.some in
    let e4 : field_outside sh ≡ false = inside_of sh w.ranged in
    simp (e2, e3, e4) w.loads

-- and what the line of the buffer leaves besides
pub record Writable (sh : Sheet) (n : ℕ) : Type 0 where
  pub fields : field_number sh ≡ 0
  pub exact : n ≡ bytes_needed sh

abbrev buffer_line : Sheet → ℕ → List Line
buffer_line sh n = line (not (eqb n (bytes_needed sh))) 11 ∷ []

pub writable : (sh : Sheet) (n : ℕ) → write_number sh n ≡ 0 → Writable sh n
writable sh n h =
    let d : Clear (field_lines sh) = append-zero (buffer_line sh n) (field_numbered sh) h in
    let k = pass_zero (not (eqb n (bytes_needed sh))) 10 0 (sym (append_clear (buffer_line sh n) d) ∙ h) in
    record { fields = of_clear d; exact = eqb-true n (bytes_needed sh) (not-false _ k.0) }

-- a refusal has a number
pub some_number : (r : Refusal) → refusal_number r ≡ 0 → ⊥
some_number ShortSheet h = omega arith
some_number OtherVersion h = omega arith
some_number NoSlots h = omega arith
some_number Malformed h = omega arith
some_number NoCapacity h = omega arith
some_number ManyBits h = omega arith
some_number ManyPlaces h = omega arith
some_number NoBits h = omega arith
some_number LateFrame h = omega arith
some_number Missing h = omega arith
some_number WrongLength h = omega arith
some_number (BadValue at) h = omega arith
some_number BadUplink h = omega arith
some_number BadSubframe h = omega arith

-- the number of writing: that of the fields where they have one, that of the buffer where they have none
pub field-first : (sh : Sheet) (n : ℕ) → (field_number sh ≡ 0 → ⊥) → field_number sh ≡ write_number sh n
field-first sh n h = first-append (field_lines sh) (buffer_line sh n) h

buffer-number : (sh : Sheet) (n : ℕ) → field_number sh ≡ 0 → write_number sh n ≡ first_of (buffer_line sh n)
buffer-number sh n z = append_clear {xs = field_lines sh} (buffer_line sh n) (clear_of (field_numbered sh) z)

pub write_eleven : (sh : Sheet) (n : ℕ) → field_number sh ≡ 0 → (n ≡ bytes_needed sh → ⊥) → write_number sh n ≡ 11
write_eleven sh n z h = buffer-number sh n z ∙ ap (λ (b : Bool). cond (not b) 11 0) (ne_eqb n (bytes_needed sh) h)

pub write_zero : (sh : Sheet) (n : ℕ) → Writable sh n → write_number sh n ≡ 0
write_zero sh n w = buffer-number sh n w.fields ∙ ap (λ (b : Bool). cond (not b) 11 0) (eq-eqb n (bytes_needed sh) w.exact)
