-- An accepted sheet written again gives the same bytes (S9), and none is longer than the longest.
use mathlib.Core.Path.{◌≡◌, sym, ap, ap₂, ◌∙◌, subst}
use mathlib.Core.Bool.{false}
use mathlib.Core.List.{List, []}
use Prim.Native.Nat.{ℕ, zero, suc, ◌+◌, ◌-◌, ◌*◌, ◌≤◌, ◌<◌}
use native.Mathlib.Omega.{arith}
use native.Mathlib.Decide.{dec_lt, ℕ_discrete}
use lib.ListN.{length, get_or, get_or-eq_default}
use Rattle.laws.specs.Sums.{sum_to}
use Rattle.bits.specs.Bits.{val, bit_at, packed, bit_of}
use Rattle.bits.proofs.BitLaws.{bit-lt, bits-lt, packed-again, packed-same, val-none}
use Rattle.sheet.specs.Counts.{longest_sheet}
use Rattle.sheet.specs.Layout.{head_widths, width_to, count_at, count_width, tti_width, encoded_width, ratio_width, codes_width, log_width, capacity_width, channel_at, slot_width}
use Rattle.sheet.specs.Fields.{head_in, spare_in, channels_in, slots_in, uplink_in, slot_from, sheet_of, tti_of, encoded_of, ratio_of, phchs_of, capacity_of, log_of}
use Rattle.sheet.specs.Sizes.{slot_at, bits_needed}
use Rattle.sheet.specs.Numbers.{beyond_uplink, read_number}
use Rattle.sheet.proofs.FieldLaws.{start_in, version_in, mode_in, channels_in_lem, slots_in_lem, uplink_in_lem, lcr_in_lem, tti_in_lem, encoded_in_lem, ratio_in_lem, phchs_in_lem, caps_in_lem, logs_in, log_down, ranged_in}
use Rattle.sheet.proofs.NumberLaws.{Readable, readable, loads-zero, paired_of, accepted-most}
use Rattle.writing.specs.Numbers.{write_number}
use Rattle.writing.specs.Written.{low_of, top_of, head_values, head_to, head_bits, channel_bits, code_bits, slots_bits, sheet_bits, bytes_of}
use Rattle.writing.proofs.HoldLaws.{to_tti, to_encoded, to_log, head_length, channel-length, tti-length, encoded-length, slots_length, codes-length, logs_length}
use Rattle.writing.proofs.RangeLaws.{Sound, sound_zero, write_zero}
use Rattle.writing.proofs.BeginLaws.{Begins, begins-more}

module _ (s : List ℕ) where
  -- the slots stand where the fields say
  pub slot_in : (t : ℕ) → t ≤ slots_in s → slot_from s (start_in s) t ≡ slot_at (sheet_of s) t
  unfolding slot_from sum_to
  slot_in zero l = ap channel_at (sym (channels_in_lem s)) ∙ omega arith
  slot_in (suc t) l =
      ap₂ (λ (x y : ℕ). x + slot_width (uplink_in s) y) (slot_in t (omega arith)) (sym (phchs_in_lem s t l))
      ∙ ap (λ (u : ℕ). slot_at (sheet_of s) t + slot_width u (phchs_of (sheet_of s) t)) (sym (uplink_in_lem s))
      ∙ omega arith

  codes-up : (t : ℕ) → t < slots_in s → phchs_of (sheet_of s) t - 1 ≡ val (bit_at s) (slot_at (sheet_of s) t) codes_width
  codes-up t l =
      ap (λ (x : ℕ). x - 1) (phchs_in_lem s t l) ∙ omega arith ∙ ap (λ (x : ℕ). val (bit_at s) x codes_width) (slot_in t (omega arith))

  capacity_up : (t p : ℕ) → t < slots_in s → p < phchs_of (sheet_of s) t
      → capacity_of (sheet_of s) t p ≡ val (bit_at s) (slot_at (sheet_of s) t + slot_width (sheet_of s).uplink p + log_width (sheet_of s).uplink) capacity_width
  capacity_up t p l k =
      caps_in_lem s t p l (subst (λ (x : ℕ). p < x) (phchs_in_lem s t l) k)
      ∙ ap₂ (λ (x u : ℕ). val (bit_at s) (x + slot_width u p + log_width u) capacity_width) (slot_in t (omega arith)) (sym (uplink_in_lem s))

  -- the bytes begin with the bits of their fields, where the spare bit is 0 and number 13 has nothing to refuse
  module _ (z : spare_in s ≡ 0) (up : beyond_uplink (sheet_of s) ≡ false) where
    log_up : (t p : ℕ) → t < slots_in s → p < phchs_of (sheet_of s) t → Dec ((sheet_of s).uplink ≡ 0)
        → log_of (sheet_of s) t p ≡ val (bit_at s) (slot_at (sheet_of s) t + slot_width (sheet_of s).uplink p) (log_width (sheet_of s).uplink)
    unfolding val
    log_up t p l k (yes d) =
        log_down s (sym (uplink_in_lem s) ∙ d) t p
        ∙ sym (ap (λ (u : ℕ). val (bit_at s) (slot_at (sheet_of s) t + slot_width u p) (log_width u)) d)
    log_up t p l k (no d) =
        let few = (paired_of (sheet_of s) up d t (omega (arith, slots_in_lem s))).0 in
        logs_in s t p l (omega arith) (subst (λ (x : ℕ). p < x) (phchs_in_lem s t l) k)
        ∙ ap₂ (λ (x u : ℕ). val (bit_at s) (x + slot_width u p) (log_width u)) (slot_in t (omega arith)) (sym (uplink_in_lem s))

    head_next : (k : ℕ) → get_or (head_values (sheet_of s)) k 0 ≡ head_in s k → Begins (bit_at s) (head_to (sheet_of s) k) → Begins (bit_at s) (head_to (sheet_of s) (suc k))
    unfolding head_to
    head_next k q h =
        begins-more (bit_at s) (head_to (sheet_of s) k) (width_to head_widths k) (get_or head_widths k 0) (get_or (head_values (sheet_of s)) k 0) (bit-lt s)
        (head_length (sheet_of s) k) q h

    head_up : Begins (bit_at s) (head_bits (sheet_of s))
    unfolding head_to
    head_up =
        let h0 : Begins (bit_at s) [] = record { bit = λ i l. absurd (omega arith) } in
        let low : low_of (sheet_of s) ≡ head_in s 2 = omega (arith, channels_in_lem s, bits-lt s count_at count_width) in
        let top : top_of (sheet_of s) ≡ head_in s 6 = omega (arith, channels_in_lem s, bits-lt s count_at count_width) in
        let h4 = head_next 3 (slots_in_lem s) (head_next 2 low (head_next 1 (mode_in s) (head_next 0 (version_in s) h0))) in
        head_next 7 (sym z) (head_next 6 top (head_next 5 (lcr_in_lem s) (head_next 4 (uplink_in_lem s) h4)))

    channels_up : (i : ℕ) → i ≤ channels_in s → Begins (bit_at s) (channel_bits (sheet_of s) i)
    unfolding channel_bits
    channels_up zero l = head_up
    channels_up (suc i) l =
        let sh = sheet_of s in
        let f = bit_at s in
        let two = bit-lt s in
        let h1 =
        begins-more f (channel_bits sh i) (channel_at i) tti_width (tti_of sh i) two (channel-length sh i) (tti_in_lem s i l) (channels_up i (omega arith))
        in
        let h2 = begins-more f (to_tti sh i) (channel_at i + tti_width) encoded_width (encoded_of sh i) two (tti-length sh i) (encoded_in_lem s i l) h1 in
        begins-more f (to_encoded sh i) (channel_at i + (tti_width + encoded_width)) ratio_width (ratio_of sh i - 1) two (encoded-length sh i)
        (omega (arith, ratio_in_lem s i l)) h2

    codes_all : (t : ℕ) → t < slots_in s → Begins (bit_at s) (slots_bits (sheet_of s) t) → (p : ℕ) → p ≤ phchs_of (sheet_of s) t
        → Begins (bit_at s) (code_bits (sheet_of s) t (slots_bits (sheet_of s) t) p)
    unfolding code_bits
    codes_all t l h zero k =
        let sh = sheet_of s in
        begins-more (bit_at s) (slots_bits sh t) (slot_at sh t) codes_width (phchs_of sh t - 1) (bit-lt s) (slots_length sh t) (codes-up t l) h
    codes_all t l h (suc p) k =
        let sh = sheet_of s in
        let h1 =
        begins-more (bit_at s) (code_bits sh t (slots_bits sh t) p) (slot_at sh t + slot_width sh.uplink p) (log_width sh.uplink) (log_of sh t p) (bit-lt s)
        (codes-length sh t p) (log_up t p l k (ℕ_discrete sh.uplink 0)) (codes_all t l h p (omega arith))
        in
        begins-more (bit_at s) (to_log sh t p) (slot_at sh t + slot_width sh.uplink p + log_width sh.uplink) capacity_width (capacity_of sh t p) (bit-lt s)
        (logs_length sh t p) (capacity_up t p l k) h1

    slots_up : (t : ℕ) → t ≤ slots_in s → Begins (bit_at s) (slots_bits (sheet_of s) t)
    unfolding slots_bits
    slots_up zero l = channels_up (sheet_of s).channels (omega (arith, channels_in_lem s))
    slots_up (suc t) l = codes_all t l (slots_up t (omega arith)) (phchs_of (sheet_of s) t) (omega arith)

    sheet_up : Begins (bit_at s) (sheet_bits (sheet_of s))
    sheet_up = slots_up (sheet_of s).slots (omega (arith, slots_in_lem s))

  bits-same : Readable s → (i : ℕ) → i < 8 * length s → Dec (i < bits_needed (sheet_of s)) → bit_of (sheet_bits (sheet_of s)) i ≡ bit_at s i
  bits-same r i b (yes l) = sym ((sheet_up r.spare (loads-zero (sheet_of s) r.loads).uplink).bit i (omega (arith, slots_length (sheet_of s) (sheet_of s).slots)))
  bits-same r i b (no l) =
      let n = bits_needed (sheet_of s) in
      let m : length (sheet_bits (sheet_of s)) ≤ i = omega (arith, slots_length (sheet_of s) (sheet_of s).slots) in
      let k : n + (i - n) ≡ i = omega arith in
      get_or-eq_default (sheet_bits (sheet_of s)) 0 m
      ∙ sym (val-none (bit_at s) n (8 * length s - n) (i - n) r.padding (omega arith))
      ∙ ap (bit_at s) k

  pub written_again : ((i : ℕ) → get_or s i 0 < 256) → read_number s ≡ 0 → bytes_of (sheet_of s) ≡ s
  written_again byte h =
      let r = readable s h in
      ap (packed (bit_of (sheet_bits (sheet_of s)))) (sym r.exact)
      ∙ packed-same (bit_of (sheet_bits (sheet_of s))) (bit_at s) (length s) (λ i l. bits-same r i l (dec_lt i (bits_needed (sheet_of s))))
      ∙ packed-again s byte

  module _ (h : read_number s ≡ 0) where
    -- writing accepts the fields of an accepted sheet, into a buffer of its length
    pub accepted-again : write_number (sheet_of s) (length s) ≡ 0
    accepted-again =
        let r = readable s h in
        let w : Sound (sheet_of s) = record { version = r.version; some = r.some; ranged = ranged_in s; loads = r.loads } in
        write_zero (sheet_of s) (length s) (record { fields = sound_zero (sheet_of s) w; exact = r.exact })

    pub longest : length s ≤ longest_sheet
    longest =
        let r = readable s h in
        subst (λ (x : ℕ). x ≤ longest_sheet) (sym r.exact) (accepted-most (sheet_of s) (ranged_in s) (loads-zero (sheet_of s) r.loads))
