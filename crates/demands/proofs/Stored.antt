-- What stored sheets keep. Bytes in which no bit is set that a release did not know have the fields and the numbers that it gave them, the frame that it
-- built and the names of that frame's places; the fields that it had are written to the bytes that it wrote. An accepted sheet in which such a bit is set, it
-- answers with 4. For release 3 these are the sheets of 3.84 Mcps: they keep bytes, frames and names.
use mathlib.Core.Path.{◌≡◌, refl, sym, ap, ap₂, ◌∙◌}
use mathlib.Core.Logic.Dec
use mathlib.Core.Logic.{◌↔◌, ◌≢◌, inl, inr}
use mathlib.Core.List.{List, ◌++◌, append_assoc, append-nil}
use Prim.Native.Nat.{ℕ, zero, suc, ◌+◌, ◌-◌, ◌*◌, ◌/◌, ◌%◌, ◌<◌}
use native.Mathlib.Omega.{arith}
use native.Mathlib.Decide.{ℕ_discrete}
use lib.ListN.{get_or, length}
use Rattle.laws.specs.Tables.{table, up_to}
use Rattle.laws.proofs.TableLaws.{table_same}
use Rattle.counters.specs.Lines.{first_of}
use Rattle.bits.specs.Bits.{val, bits_at, field, packed, bit_of}
use Rattle.bits.proofs.BitLaws.{bits-lt}
use Rattle.sheet.specs.Layout.{log_width, channel_at, slot_width}
use Rattle.sheet.specs.Fields.{channels_in, slots_in, uplink_in, lcr_in, spare_in, slot_from, code_capacity, code_log, code_in, sheet_of}
use Rattle.sheet.specs.Sizes.{slot_at, bits_needed}
use Rattle.sheet.specs.Numbers.{read_number}
use Rattle.sheet.specs.declared.Sheet.{Sheet}
use Rattle.sheet.proofs.FieldLaws.{channels_in_lem, slots_in_lem, uplink_in_lem, lcr_in_lem}
use Rattle.writing.specs.Written.{top_of, head_to, channel_bits, code_bits, slots_bits, bytes_of}
use Rattle.writing.proofs.HoldLaws.{slots_length}
use Rattle.writing.proofs.ReadWritten.{sheet_made}
use Rattle.writing.proofs.WriteRead.{slot_in, written_again}
use Rattle.opening.proofs.OpenLaws.{accepted_in}
use Rattle.pattern.specs.Pattern.{as_is}
use Rattle.mapping.specs.Mapping.{number_of, filled_as}
use Rattle.frame.specs.Frame.{multiplexed, multiplexed_bits, bits_of, frame_of, bit_frame}
use Rattle.frame.proofs.FrameLaws.{length-multiplexed}
use Rattle.frame.proofs.ContentLaws.{length-bits}
use Rattle.naming.specs.Name.{slot_bit_at, multiplexed_at, name_at, name_of, Exists}
use Rattle.sheet.specs.Fields.{phchs_of, capacity_of}
use Rattle.sending.specs.Building.{build_into}
use Rattle.demands.specs.Exactly.{Exactly}
use Rattle.demands.specs.Stored.{Release, release1, release2, release3, stored_taken, stored_spare, stored_uplink, stored_i, stored_t, stored_slot, stored_p, stored_code, stored_sheet, stored_load, stored_says, stored_most, Known, stored_channels, stored_codes, stored_slots, stored_bytes, stored_frame, stored_from, stored_index}
use Rattle.demands.proofs.ExactLaws.{zero_too, unsaid}
use Rattle.demands.proofs.StoredLaws.{one-subframe, stored_lines, lines_kept, stored_exactly, refused_four, runs_kept, spread-one, read_one}
use Rattle.demands.proofs.ZeroLaws.{build_zero}

-- ---- bytes in which no bit is set that was taken since

count_kept : (r : Release) (s : List ℕ) → stored_taken r s ≡ 0 → channels_in s ≡ stored_i r s
unfolding val
count_kept release1 s z = omega (arith, z)
count_kept release2 s z = omega (arith, z)
count_kept release3 s z = refl

uplink_kept : (r : Release) (s : List ℕ) → stored_taken r s ≡ 0 → uplink_in s ≡ stored_uplink r s
unfolding val
uplink_kept release1 s z = omega (arith, z)
uplink_kept release2 s z = refl
uplink_kept release3 s z = refl

lcr_kept : (r : Release) (s : List ℕ) → stored_taken r s ≡ 0 → lcr_in s ≡ 0
unfolding val
lcr_kept release1 s z = omega (arith, z)
lcr_kept release2 s z = omega (arith, z)
lcr_kept release3 s z = z

spare_kept : (r : Release) (s : List ℕ) → stored_taken r s ≡ 0 → (spare_in s ≢ 0) ↔ (stored_spare r s ≢ 0)
unfolding val
spare_kept release1 s z = (λ h e. h (omega (arith, z)), λ h e. h (omega (arith, z)))
spare_kept release2 s z = (λ h e. h (omega (arith, z)), λ h e. h (omega (arith, z)))
spare_kept release3 s z = (λ h e. h (omega (arith, z)), λ h e. h (omega (arith, z)))

module _ (r : Release) (s : List ℕ) (z : stored_taken r s ≡ 0) where
  slot_kept : (t : ℕ) → slot_from s (channel_at (channels_in s)) t ≡ stored_slot r s t
  unfolding slot_from stored_slot
  slot_kept zero = ap channel_at (count_kept r s z)
  slot_kept (suc t) = ap₂ (λ (u x : ℕ). x + slot_width u (bits_at s x 4 + 1)) (uplink_kept r s z) (slot_kept t)

  phchs_kept : (t : ℕ) → bits_at s (slot_from s (channel_at (channels_in s)) t) 4 + 1 ≡ stored_p r s t
  phchs_kept t = ap (λ (x : ℕ). bits_at s x 4 + 1) (slot_kept t)

  -- what an array has of a field of its physical channels, w for each slot
  codes_kept : (w n : ℕ) (f : List ℕ → ℕ → ℕ → ℕ → ℕ) (g : ℕ → ℕ → ℕ) → ((t p : ℕ) → f s (channel_at (channels_in s)) t p ≡ g t p)
      → table (λ m. up_to (w * slots_in s) m (code_in w f s (channel_at (channels_in s)) m)) 0 n
      ≡ table (λ m. up_to (w * stored_t s) m (up_to (stored_p r s (m / w)) (m % w) (g (m / w) (m % w)))) 0 n
  codes_kept w n f g e =
      table_same _ _ n
      (λ m l. ap₂ (λ (x y : ℕ). up_to (w * stored_t s) m (up_to x (m % w) y)) (phchs_kept (m / w)) (e (m / w) (m % w)))

  -- reading them gives the fields that it read
  pub fields_kept : sheet_of s ≡ stored_sheet r s
  unfolding sheet_of stored_sheet
  fields_kept =
      let u = stored_uplink r s in
      let of : (f : ℕ → ℕ) → table (λ i. up_to (channels_in s) i (f i)) 0 16 ≡ table (λ i. up_to (stored_i r s) i (f i)) 0 16 =
      λ f. ap (λ (n : ℕ). table (λ i. up_to n i (f i)) 0 16) (count_kept r s z)
      in
      sheet_made refl refl (count_kept r s z) refl (uplink_kept r s z) (lcr_kept r s z) (of _) (of _) (of _)
      (table_same (λ t. up_to (slots_in s) t (bits_at s (slot_from s (channel_at (channels_in s)) t) 4 + 1)) (λ t. up_to (stored_t s) t (stored_p r s t)) 15
      (λ t l. ap (up_to (stored_t s) t) (phchs_kept t)))
      (codes_kept 16 240 code_capacity (λ t p. bits_at s (stored_code r s t p + 3 * u) 12)
      (λ t p. ap₂ (λ (v x : ℕ). bits_at s (x + slot_width v p + log_width v) 12) (uplink_kept r s z) (slot_kept t)))
      (codes_kept 2 30 code_log (λ t p. bits_at s (stored_code r s t p) (3 * u))
      (λ t p. ap₂ (λ (v x : ℕ). bits_at s (x + slot_width v p) (log_width v)) (uplink_kept r s z) (slot_kept t)))

  end_kept : bits_needed (sheet_of s) ≡ stored_slot r s (stored_t s)
  end_kept = sym (slot_in s (slots_in s) (omega arith) ∙ ap (slot_at (sheet_of s)) (sym (slots_in_lem s))) ∙ slot_kept (stored_t s)

  -- and their number is the one that it gave
  pub numbers_kept : Exactly (stored_says r s) (read_number s)
  numbers_kept =
      stored_exactly r s (spare_in s) (spare_kept r s z)
      (lines_kept r s (sheet_of s) (bits_needed (sheet_of s)) (spare_in s) (uplink_in_lem s ∙ uplink_kept r s z) (lcr_in_lem s ∙ lcr_kept r s z)
      ∙ ap₂ (λ (sh : Sheet) (n : ℕ). first_of (stored_lines r s sh n (spare_in s))) fields_kept end_kept)

-- ---- bytes that an older release accepted

-- where its spare bits are 0, so are those of them that were taken since
clear : (r : Release) (s : List ℕ) → stored_spare r s ≡ 0 → stored_taken r s ≡ 0
unfolding val
clear release1 s z = omega (arith, z)
clear release2 s z = omega (arith, z)
clear release3 s z = omega (arith, z)

module _ (r : Release) (s : List ℕ) (accepted : Exactly (stored_says r s) 0) where
  spare_clear : stored_spare r s ≡ 0
  spare_clear =
      let behind = stored_load r (stored_sheet r s) in
      (Dec.not-not (ℕ_discrete (stored_spare r s) 0)).0 (λ b. unsaid _ _ behind accepted.1.1.1 (inr (inl b)))

  -- they are accepted still, with the fields that it read
  pub accepted_kept : (read_number s ≡ 0) × (sheet_of s ≡ stored_sheet r s)
  accepted_kept =
      let z = clear r s spare_clear in
      (zero_too (stored_says r s) accepted (numbers_kept r s z) refl, fields_kept r s z)

  -- and these are written back to the same bytes
  pub written_back : ((i : ℕ) → get_or s i 0 < 256) → bytes_of (sheet_of s) ≡ s
  written_back bytes = written_again s bytes accepted_kept.0

-- ---- the frame of an accepted call, and the names of its places

known_in : (r : Release) (s : List ℕ) → stored_taken r s ≡ 0 → Known r (sheet_of s)
unfolding val
known_in release1 s z =
    record { few = omega (arith, channels_in_lem s, count_kept release1 s z, bits-lt s 5 3); uplink = uplink_in_lem s ∙ uplink_kept release1 s z; lcr = lcr_in_lem s ∙ lcr_kept release1 s z }
known_in release2 s z =
    record { few = omega (arith, channels_in_lem s, count_kept release2 s z, bits-lt s 5 3); uplink = refl; lcr = lcr_in_lem s ∙ lcr_kept release2 s z }
known_in release3 s z =
    record { few = omega (arith, channels_in_lem s, bits-lt s 5 3, bits-lt s 14 1); uplink = refl; lcr = lcr_in_lem s ∙ lcr_kept release3 s z }

module _ (r : Release) (s : List ℕ) (z : stored_taken r s ≡ 0) where
  known : Known r (sheet_of s)
  known = known_in r s z

  pub frame_kept : (frame : ℕ) (contents old : List ℕ) → (build_into s frame contents old).number ≡ 0
      → (build_into s frame contents old).buffer ≡ stored_frame r (sheet_of s) frame contents
  unfolding bit_frame frame_of stored_frame multiplexed_bits
  frame_kept frame contents old accepted =
      let sh = sheet_of s in
      let b = build_zero s frame contents old accepted in
      let ok = accepted_in s b.accepted in
      b.is
      ∙ spread-one sh (one-subframe sh known.lcr) r known (multiplexed as_is sh frame (bits_of sh contents))
      (length-multiplexed as_is sh ok frame (bits_of sh contents) (λ i l. length-bits sh contents b.long i l ok))

  -- each place is asked for in sub-frame 1
  pub subframe_kept : (subframe slot phch place : ℕ) → Exists (sheet_of s) subframe slot phch place → subframe ≡ 1
  subframe_kept subframe slot phch place e = omega (arith, one-subframe (sheet_of s) known.lcr, e.subframe-from, e.subframe-to)

  pub name_kept : (frame slot phch place : ℕ)
      → name_of (sheet_of s) frame 1 slot phch place ≡ name_at (sheet_of s) frame (stored_index r (sheet_of s) slot phch place)
  unfolding name_of multiplexed_at slot_bit_at
  name_kept frame slot phch place =
      let sh = sheet_of s in
      let t = slot - 1 in
      let p = phch - 1 in
      ap (name_at sh frame)
      (read_one sh (one-subframe sh known.lcr) t (slot_bit_at sh t p place)
      ∙ ap (λ (B : ℕ → ℕ). stored_from sh t (number_of (capacity_of sh t) B (phchs_of sh t) p (filled_as (capacity_of sh t p) (p + 1) place))) (runs_kept r sh known t))

-- ---- an accepted sheet that a release did not know

module _ (s : List ℕ) (accepted : read_number s ≡ 0) where
  spare_taken : (r : Release) → stored_taken r s ≢ 0 → stored_spare r s ≢ 0
  spare_taken r h e = h (clear r s e)

  -- a bit is set that was taken since
  pub newer_refused : (r : Release) → stored_taken r s ≢ 0 → Exactly (stored_says r s) 4
  newer_refused r h = refused_four r s accepted (spare_taken r h)

  -- as it is in a sheet with more channels than that release has
  many_taken : (r : Release) → stored_most r < (sheet_of s).channels → stored_taken r s ≢ 0
  unfolding val
  many_taken release1 l e = absurd (omega (arith, channels_in_lem s, bits-lt s 5 3))
  many_taken release2 l e = absurd (omega (arith, channels_in_lem s, bits-lt s 5 3))
  many_taken release3 l e = absurd (omega (arith, channels_in_lem s, bits-lt s 5 3, bits-lt s 14 1))

  pub larger_refused : (r : Release) → stored_most r < (sheet_of s).channels → Exactly (stored_says r s) 4
  larger_refused r l = newer_refused r (many_taken r l)

  -- and in each of 1.28 Mcps
  lcr-taken : (r : Release) → (sheet_of s).lcr ≢ 0 → stored_taken r s ≢ 0
  lcr-taken r h e = h (lcr_in_lem s ∙ lcr_kept r s e)

  pub lcr-refused : (r : Release) → (sheet_of s).lcr ≢ 0 → Exactly (stored_says r s) 4
  lcr-refused r h = newer_refused r (lcr-taken r h)

-- ---- the bytes of fields that a release has

head_kept : (r : Release) (sh : Sheet) → Known r sh → head_to sh 8 ≡ stored_channels r sh 0
unfolding head_to table stored_channels
head_kept release1 sh k =
    let top : top_of sh ≡ 0 = omega (arith, k.few) in
    rw (k.uplink, k.lcr, top) refl
head_kept release2 sh k =
    let top : top_of sh ≡ 0 = omega (arith, k.few) in
    rw (k.lcr, top) refl
head_kept release3 sh k = rw k.lcr refl

module _ (r : Release) (sh : Sheet) (known : Known r sh) where
  channels_kept : (i : ℕ) → channel_bits sh i ≡ stored_channels r sh i
  unfolding channel_bits stored_channels
  channels_kept zero = head_kept r sh known
  channels_kept (suc i) = rw (channels_kept i) (simp append_assoc)

  slot_bytes : (t : ℕ) (before : List ℕ) (p : ℕ) → code_bits sh t before p ≡ before ++ (field 4 (phchs_of sh t - 1) ++ stored_codes r sh t p)
  unfolding code_bits stored_codes
  slot_bytes t before zero = ap (λ (l : List ℕ). before ++ l) (sym (append-nil _))
  slot_bytes t before (suc p) = rw (slot_bytes t before p, ← known.uplink) (simp append_assoc)

  slots_kept : (t : ℕ) → slots_bits sh t ≡ stored_slots r sh t
  unfolding slots_bits stored_slots
  slots_kept zero = channels_kept sh.channels
  slots_kept (suc t) =
      slot_bytes t (slots_bits sh t) (phchs_of sh t)
      ∙ ap (λ (l : List ℕ). l ++ (field 4 (phchs_of sh t - 1) ++ stored_codes r sh t (phchs_of sh t))) (slots_kept t)

  -- they are those that it wrote
  pub bytes_kept : bytes_of sh ≡ stored_bytes r sh
  bytes_kept =
      ap₂ (λ (l : List ℕ) (n : ℕ). packed (bit_of l) ((n + 7) / 8)) (slots_kept sh.slots)
      (sym (slots_length sh sh.slots) ∙ ap length (slots_kept sh.slots))
