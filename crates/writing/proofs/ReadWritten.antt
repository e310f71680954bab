-- Reading what was written gives the fields back, with zeros past the counts (S9).
use mathlib.Core.Path.{◌≡◌, refl, sym, ap, ap₂, ◌∙◌, subst}
use mathlib.Core.Bool.{cond, false}
use mathlib.Core.List.{List}
use Prim.Native.Nat.{ℕ, zero, suc, ◌+◌, ◌-◌, ◌*◌, ◌/◌, ◌%◌, ◌^◌, ◌≤◌, ◌<◌}
use native.Mathlib.Omega.{arith}
use native.Mathlib.Decide.{ℕ_discrete}
use borrow.Author.Tests.{le-ltb, eq-eqb, ne_eqb}
use lib.Dec.{eqb}
use lib.ListN.{length, get_or, get_or-eq_default}
use Rattle.laws.specs.Tables.{table, up_to}
use Rattle.laws.specs.Sums.{sum_to}
use Rattle.laws.proofs.TableLaws.{table-length, table_same, up_to-below, up_to-same}
use Rattle.counters.specs.Lines.{first_of}
use Rattle.bits.specs.Bits.{val, bit_at, bits_at, bit_of}
use Rattle.bits.proofs.BitLaws.{packed-bit, val-zero}
use Rattle.sheet.specs.Counts.{most_channels, most_slots, most_codes, most_paired}
use Rattle.sheet.specs.Layout.{codes_width, log_width, capacity_width, channel_at, slot_width}
use Rattle.sheet.specs.Fields.{channels_in, slots_in, uplink_in, slot_from, phchs_in, code_log, code_capacity, codes_in, sheet_of, phchs_of, capacity_of, log_of}
use Rattle.sheet.specs.Sizes.{slot_at, bits_needed, bytes_needed}
use Rattle.sheet.specs.Numbers.{beyond_uplink, load_lines, read_answer}
use Rattle.sheet.specs.Range.{Ranged}
use Rattle.sheet.proofs.FieldLaws.{start_in}
use Rattle.sheet.proofs.NumberLaws.{Readable, loads-zero, paired_of, number-zero, accepted}
use Rattle.sheet.specs.declared.Sheet.{Sheet}
use Rattle.writing.specs.Numbers.{field_number, write_number}
use Rattle.writing.specs.Written.{sheet_bits, bytes_of, code_trimmed, trimmed}
use Rattle.writing.proofs.HoldLaws.{slots_length}
use Rattle.writing.proofs.RangeLaws.{Sound, sound, writable}
use Rattle.writing.proofs.ByteLaws.{slots_binary}
use Rattle.writing.proofs.BeginLaws.{Begins, read_version, read_mode, read_count, read_slots, read_uplink, read_lcr, read_top, read_spare, read_tti, read_encoded, read_ratio, read_phchs, read_log, read_capacity}
use Rattle.writing.proofs.AgreeLaws.{agree_need, agree_lines, trim_agree}

pub sheet_made : {v v' m m' c c' s s' k k' f f' : ℕ} {a a' b b' d d' p p' u u' l l' : List ℕ} → v ≡ v' → m ≡ m' → c ≡ c' → s ≡ s' → k ≡ k' → f ≡ f'
    → a ≡ a' → b ≡ b' → d ≡ d' → p ≡ p' → u ≡ u' → l ≡ l'
    → ◌≡◌ {A = Sheet}
    (record { version = v; mode = m; channels = c; slots = s; uplink = k; lcr = f; tti = a; e = b; rm = d; phchs = p; caps = u; logs = l })
    (record { version = v'; mode = m'; channels = c'; slots = s'; uplink = k'; lcr = f'; tti = a'; e = b'; rm = d'; phchs = p'; caps = u'; logs = l' })
sheet_made e1 e2 e3 e4 e5 e6 e7 e8 e9 e10 e11 e12 = rw (e1, e2, e3, e4, e5, e6, e7, e8, e9, e10, e11, e12)

-- bytes that begin with the bits of a sheet in range have its fields
module _ (sh : Sheet) (s : List ℕ) (b : Begins (bit_at s) (sheet_bits sh)) (r : Ranged sh) (one : sh.version ≡ 1) (up : beyond_uplink sh ≡ false) where
  count_same : channels_in s ≡ sh.channels
  count_same = omega (arith, read_count sh (bit_at s) b r one, read_top sh (bit_at s) b r one, r.one)

  slots_same : slots_in s ≡ sh.slots
  slots_same = read_slots sh (bit_at s) b r one

  uplink-same : uplink_in s ≡ sh.uplink
  uplink-same = read_uplink sh (bit_at s) b r one

  codes_same : (t : ℕ) → t < sh.slots → bits_at s (slot_at sh t) codes_width + 1 ≡ phchs_of sh t
  codes_same t l = omega (arith, read_phchs sh (bit_at s) b r one t l, r.phch t l)

  slot-from : (t : ℕ) → t ≤ sh.slots → slot_from s (channel_at sh.channels) t ≡ slot_at sh t
  unfolding slot_from sum_to
  slot-from zero l = omega arith
  slot-from (suc t) l =
      ap₂ (λ (u x : ℕ). x + slot_width u (bits_at s x codes_width + 1)) uplink-same (slot-from t (omega arith))
      ∙ ap (λ (x : ℕ). slot_at sh t + slot_width sh.uplink x) (codes_same t l)
      ∙ omega arith

  slot_same : (t : ℕ) → t ≤ sh.slots → slot_from s (start_in s) t ≡ slot_at sh t
  slot_same t l = ap (λ (x : ℕ). slot_from s (channel_at x) t) count_same ∙ slot-from t l

  phchs_same : (t : ℕ) → t < sh.slots → phchs_in s (start_in s) t ≡ phchs_of sh t
  phchs_same t l = ap (λ (x : ℕ). bits_at s x codes_width + 1) (slot_same t (omega arith)) ∙ codes_same t l

  caps-same : (t p : ℕ) → t < sh.slots → p < phchs_of sh t → code_capacity s (start_in s) t p ≡ capacity_of sh t p
  caps-same t p l k =
      ap₂ (λ (u x : ℕ). bits_at s (x + slot_width u p + log_width u) capacity_width) uplink-same (slot_same t (omega arith))
      ∙ read_capacity sh (bit_at s) b r one t p l k

  -- the logarithms of an uplink sheet have 3 bits each, and those of downlink none
  small : (t p : ℕ) → t < sh.slots → p < phchs_of sh t → (sh.uplink ≡ 0 → ⊥) → log_of sh t p < 2 ^ log_width sh.uplink
  small t p l k z =
      let e : sh.uplink ≡ 1 = omega (arith, r.uplink) in
      rw e (omega (arith, (paired_of sh up z t l).1 p k))

  logs_same : (t p : ℕ) → t < sh.slots → p < phchs_of sh t → Dec (sh.uplink ≡ 0) → code_log s (start_in s) t p ≡ cond (eqb sh.uplink 0) 0 (log_of sh t p)
  unfolding val
  logs_same t p l k (yes z) =
      ap (λ (u : ℕ). bits_at s (slot_from s (start_in s) t + slot_width u p) (log_width u)) (uplink-same ∙ z) ∙ rw (eq-eqb sh.uplink 0 z)
  logs_same t p l k (no z) =
      ap₂ (λ (u x : ℕ). bits_at s (x + slot_width u p) (log_width u)) uplink-same (slot_same t (omega arith))
      ∙ read_log sh (bit_at s) b r one t p l k (small t p l k z)
      ∙ rw (ne_eqb sh.uplink 0 z)

  -- a channel's field, up to the count
  channel-same : (f g : ℕ → ℕ) → ((i : ℕ) → i < sh.channels → f i ≡ g i) → (i : ℕ) → i < most_channels
      → up_to (channels_in s) i (f i) ≡ up_to sh.channels i (g i)
  channel-same f g h i l = up_to-same (channels_in s) sh.channels i _ _ count_same (λ k. h i (omega (arith, count_same)))

  -- and what each physical channel has, up to the counts, where an array has w of them for each slot
  entries_same : (w : ℕ) (f : List ℕ → ℕ → ℕ → ℕ → ℕ) (g : ℕ → ℕ) → ((m : ℕ) → w * (m / w) + m % w ≡ m) → ((m n : ℕ) → m < w * n → m / w < n)
      → ((m : ℕ) → m % w < w) → ((t p : ℕ) → t < sh.slots → p < w → p < phchs_of sh t → f s (start_in s) t p ≡ g (w * t + p))
      → codes_in w f s ≡ table (λ m. code_trimmed w sh m (g m)) 0 (most_slots * w)
  entries_same w f g parts slot code e =
      table_same _ _ (most_slots * w)
      (λ m l.
      up_to-same (w * slots_in s) (w * sh.slots) m _ _ (ap (λ (x : ℕ). w * x) slots_same)
      (λ k.
      let h : m / w < sh.slots = subst (λ (x : ℕ). m / w < x) slots_same (slot m (slots_in s) k) in
      up_to-same (phchs_in s (start_in s) (m / w)) (phchs_of sh (m / w)) (m % w) _ _ (phchs_same (m / w) h)
      (λ j. e (m / w) (m % w) h (code m) (subst (λ (x : ℕ). m % w < x) (phchs_same (m / w) h) j) ∙ ap g (parts m))))

  sheet_same : sheet_of s ≡ trimmed sh
  unfolding sheet_of trimmed
  sheet_same =
      sheet_made (read_version sh (bit_at s) b r one) (read_mode sh (bit_at s) b r one) count_same slots_same uplink-same
      (read_lcr sh (bit_at s) b r one)
      (table_same _ _ most_channels (channel-same _ _ (read_tti sh (bit_at s) b r one)))
      (table_same _ _ most_channels (channel-same _ _ (read_encoded sh (bit_at s) b r one)))
      (table_same _ _ most_channels (channel-same _ _ (λ i l. omega (arith, read_ratio sh (bit_at s) b r one i l, r.ratio i l))))
      (table_same _ _ most_slots (λ t l. up_to-same (slots_in s) sh.slots t _ _ slots_same (λ k. phchs_same t (omega (arith, slots_same)))))
      (entries_same most_codes code_capacity (λ m. get_or sh.caps m 0) (λ m. omega arith) (λ m n l. omega arith) (λ m. omega arith)
      (λ t p l j k. caps-same t p l k))
      (entries_same most_paired code_log (λ m. cond (eqb sh.uplink 0) 0 (get_or sh.logs m 0)) (λ m. omega arith) (λ m n l. omega arith) (λ m. omega arith)
      (λ t p l j k. logs_same t p l k (ℕ_discrete sh.uplink 0) ∙ ap (cond (eqb sh.uplink 0) 0) (up_to-below most_paired p _ j)))

module _ (sh : Sheet) where
  -- the bytes begin with the bits of the fields, and the others are 0
  begun : Begins (bit_at (bytes_of sh)) (sheet_bits sh)
  begun =
      record {
        bit =
            λ i l.
            packed-bit (bit_of (sheet_bits sh)) (bytes_needed sh) i (slots_binary sh sh.slots).below
            (omega (arith, slots_length sh sh.slots));
      }

  past_zero : (i : ℕ) → bits_needed sh ≤ i → i < 8 * bytes_needed sh → bit_at (bytes_of sh) i ≡ 0
  past_zero i a l =
      let m : length (sheet_bits sh) ≤ i = omega (arith, slots_length sh sh.slots) in
      packed-bit (bit_of (sheet_bits sh)) (bytes_needed sh) i (slots_binary sh sh.slots).below l ∙ get_or-eq_default (sheet_bits sh) 0 m

  padding_zero : bits_at (bytes_of sh) (bits_needed sh) (8 * bytes_needed sh - bits_needed sh) ≡ 0
  padding_zero =
      val-zero (bit_at (bytes_of sh)) (bits_needed sh) (8 * bytes_needed sh - bits_needed sh)
      (λ i l. past_zero (bits_needed sh + i) (omega arith) (omega arith))

  pub bytes_length : length (bytes_of sh) ≡ bytes_needed sh
  bytes_length = table-length _ 0 (bytes_needed sh)

  trim_version : (trimmed sh).version ≡ sh.version
  unfolding trimmed
  trim_version = refl

  trim_slots : (trimmed sh).slots ≡ sh.slots
  unfolding trimmed
  trim_slots = refl

  module _ (w : Sound sh) where
    pub fields_back : sheet_of (bytes_of sh) ≡ trimmed sh
    fields_back = sheet_same sh (bytes_of sh) begun w.ranged w.version (loads-zero sh w.loads).uplink

    need_back : bits_needed (sheet_of (bytes_of sh)) ≡ bits_needed sh
    need_back = ap bits_needed fields_back ∙ agree_need (trimmed sh) sh (trim_agree sh w.ranged)

    readable_back : Readable (bytes_of sh)
    readable_back =
        record {
          long = le-ltb (length (bytes_of sh)) 2 (omega (arith, bytes_length));
          version = ap (λ (x : Sheet). x.version) fields_back ∙ trim_version ∙ w.version;
          some = λ z. w.some (sym (ap (λ (x : Sheet). x.slots) fields_back ∙ trim_slots) ∙ z);
          exact = bytes_length ∙ ap (λ (x : ℕ). (x + 7) / 8) (sym need_back);
          spare = read_spare sh (bit_at (bytes_of sh)) begun w.ranged w.version;
          padding = ap₂ (λ (x y : ℕ). bits_at (bytes_of sh) x (8 * y - x)) need_back bytes_length ∙ padding_zero;
          loads =
              ap (λ (x : Sheet). first_of (load_lines x)) fields_back ∙ ap first_of (agree_lines (trimmed sh) sh (trim_agree sh w.ranged))
              ∙ w.loads;
        }

  -- the bytes of fields without a number are accepted
  pub bytes_back : field_number sh ≡ 0 → read_answer (bytes_of sh) ≡ record { number = 0; sheet = trimmed sh }
  bytes_back h =
      let w = sound sh h in
      sym (accepted (bytes_of sh) 0 (trimmed sh) (sym (number-zero (bytes_of sh) (readable_back w))) refl (sym (fields_back w)))

  -- what was written is accepted, and its fields are those that were given
  pub read_back : (n : ℕ) → write_number sh n ≡ 0 → read_answer (bytes_of sh) ≡ record { number = 0; sheet = trimmed sh }
  read_back n h = bytes_back (writable sh n h).fields
