-- Laws of the fields of a sheet's bytes: each field is what stands in its bits, and within its range.
use mathlib.Core.Path.{◌≡◌, refl, sym, ap, ◌∙◌, subst}
use mathlib.Core.List.{List}
use Prim.Native.Nat.{ℕ, ◌+◌, ◌*◌, ◌≤◌, ◌<◌}
use native.Mathlib.Nat.{mul_comm, mul-add, mul-le-mul_left}
use native.Mathlib.Omega.{arith}
use lib.ListN.{length, get_or, replicate}
use Rattle.laws.proofs.TableLaws.{table-length, zeros_at, filled_at, up_to-below, up_to-zero}
use Rattle.bits.specs.Bits.{bits_at}
use Rattle.bits.proofs.BitLaws.{bits-lt}
use Rattle.sheet.specs.Counts.{most_channels, most_slots, most_codes, most_capacities, most_paired, most_logs}
use Rattle.sheet.specs.Layout.{version_at, version_width, mode_at, mode_width, count_at, count_width, slots_at, slots_width, lcr_at, lcr_width, top_at, top_width, tti_width, encoded_width, ratio_width, log_width, capacity_width, channel_at, slot_width}
use Rattle.sheet.specs.Fields.{channels_in, slots_in, uplink_in, lcr_in, tti_in, encoded_in, ratio_in, slot_from, phchs_in, code_log, code_capacity, code_in, codes_in, sheet_of, tti_of, encoded_of, ratio_of, phchs_of, capacity_of, log_of}
use Rattle.sheet.specs.Range.{Ranged}
use Rattle.sheet.proofs.SlotLaws.{phchs_most, uplink-most, code_in_lem, logs_none}

-- the bit at which the first slot begins
abbrev pub start_in : List ℕ → ℕ
start_in s = channel_at (channels_in s)

pub channels_most : (s : List ℕ) → channels_in s ≤ most_channels
channels_most s = omega (arith, bits-lt s count_at count_width, bits-lt s top_at top_width)

pub slots_most : (s : List ℕ) → slots_in s ≤ most_slots
slots_most s = omega (arith, bits-lt s slots_at slots_width)

module _ (s : List ℕ) where
  pub version_in : (sheet_of s).version ≡ bits_at s version_at version_width
  unfolding sheet_of
  version_in = refl

  pub mode_in : (sheet_of s).mode ≡ bits_at s mode_at mode_width
  unfolding sheet_of
  mode_in = refl

  pub channels_in_lem : (sheet_of s).channels ≡ channels_in s
  unfolding sheet_of
  channels_in_lem = refl

  pub slots_in_lem : (sheet_of s).slots ≡ slots_in s
  unfolding sheet_of
  slots_in_lem = refl

  pub uplink_in_lem : (sheet_of s).uplink ≡ uplink_in s
  unfolding sheet_of
  uplink_in_lem = refl

  pub lcr_in_lem : (sheet_of s).lcr ≡ lcr_in s
  unfolding sheet_of
  lcr_in_lem = refl

  pub tti_in_lem : (i : ℕ) → i < channels_in s → tti_of (sheet_of s) i ≡ tti_in s i
  unfolding sheet_of
  tti_in_lem i h = filled_at (tti_in s) (channels_in s) most_channels i (omega (arith, channels_most s)) h

  pub encoded_in_lem : (i : ℕ) → i < channels_in s → encoded_of (sheet_of s) i ≡ encoded_in s i
  unfolding sheet_of
  encoded_in_lem i h = filled_at (encoded_in s) (channels_in s) most_channels i (omega (arith, channels_most s)) h

  pub ratio_in_lem : (i : ℕ) → i < channels_in s → ratio_of (sheet_of s) i ≡ ratio_in s i
  unfolding sheet_of
  ratio_in_lem i h = filled_at (ratio_in s) (channels_in s) most_channels i (omega (arith, channels_most s)) h

  pub phchs_in_lem : (t : ℕ) → t < slots_in s → phchs_of (sheet_of s) t ≡ phchs_in s (start_in s) t
  unfolding sheet_of
  phchs_in_lem t h = filled_at (phchs_in s (start_in s)) (slots_in s) most_slots t (omega (arith, slots_most s)) h

  codes_in_lem : (w : ℕ) (f : List ℕ → ℕ → ℕ → ℕ → ℕ) (t p : ℕ) → t < slots_in s → p < w → p < phchs_in s (start_in s) t
      → get_or (codes_in w f s) (w * t + p) 0 ≡ f s (start_in s) t p
  codes_in_lem w f t p h k l =
      let b : t + 1 ≤ slots_in s = omega arith in
      let c : t + 1 ≤ most_slots = omega (arith, slots_most s) in
      filled_at (code_in w f s (start_in s)) (w * slots_in s) (most_slots * w) (w * t + p)
      (omega (arith, mul-add w t 1, mul-le-mul_left w c, mul_comm w most_slots)) (omega (arith, mul-add w t 1, mul-le-mul_left w b))
      ∙ sym (code_in_lem w f s (start_in s) t p k l)

  pub caps_in_lem : (t p : ℕ) → t < slots_in s → p < phchs_in s (start_in s) t → capacity_of (sheet_of s) t p ≡ code_capacity s (start_in s) t p
  unfolding sheet_of
  caps_in_lem t p h l = codes_in_lem most_codes code_capacity t p h (omega (arith, phchs_most s (start_in s) t)) l

  pub logs_in : (t p : ℕ) → t < slots_in s → p < most_paired → p < phchs_in s (start_in s) t → log_of (sheet_of s) t p ≡ code_log s (start_in s) t p
  unfolding sheet_of
  logs_in t p h k l =
      up_to-below most_paired p (get_or (codes_in most_paired code_log s) (most_paired * t + p) 0) k ∙ codes_in_lem most_paired code_log t p h k l

  -- in downlink they are 0
  logs_down : uplink_in s ≡ 0 → (sheet_of s).logs ≡ replicate most_logs 0
  unfolding sheet_of
  logs_down z = logs_none s (start_in s) (most_paired * slots_in s) z

  pub log_down : uplink_in s ≡ 0 → (t p : ℕ) → log_of (sheet_of s) t p ≡ 0
  log_down z t p =
      up_to-zero most_paired p (ap (λ (l : List ℕ). get_or l (most_paired * t + p) 0) (logs_down z) ∙ zeros_at most_logs (most_paired * t + p))

  pub caps-whole : length (sheet_of s).caps ≡ most_capacities
  unfolding sheet_of
  caps-whole = table-length _ 0 most_capacities

  pub ranged_in : Ranged (sheet_of s)
  ranged_in =
      let ch : (i : ℕ) → i < (sheet_of s).channels → i < channels_in s = λ i h. subst (λ (x : ℕ). i < x) channels_in_lem h in
      let sl : (t : ℕ) → t < (sheet_of s).slots → t < slots_in s = λ t h. subst (λ (x : ℕ). t < x) slots_in_lem h in
      record {
        mode = omega (arith, mode_in, bits-lt s mode_at mode_width);
        uplink = omega (arith, uplink_in_lem, uplink-most s);
        lcr = omega (arith, lcr_in_lem, bits-lt s lcr_at lcr_width);
        one = omega (arith, channels_in_lem);
        few_channels = omega (arith, channels_in_lem, channels_most s);
        few_slots = omega (arith, slots_in_lem, slots_most s);
        tti = λ i h. omega (arith, tti_in_lem i (ch i h), bits-lt s (channel_at i) tti_width);
        encoded = λ i h. omega (arith, encoded_in_lem i (ch i h), bits-lt s (channel_at i + tti_width) encoded_width);
        ratio = λ i h. omega (arith, ratio_in_lem i (ch i h));
        ratio256 = λ i h. omega (arith, ratio_in_lem i (ch i h), bits-lt s (channel_at i + (tti_width + encoded_width)) ratio_width);
        phch = λ t h. omega (arith, phchs_in_lem t (sl t h));
        phch16 = λ t h. omega (arith, phchs_in_lem t (sl t h), phchs_most s (start_in s) t);
        caps =
            λ t p h l.
            omega (
              arith,
              caps_in_lem t p (sl t h) (subst (λ (x : ℕ). p < x) (phchs_in_lem t (sl t h)) l),
              bits-lt s (slot_from s (start_in s) t + slot_width (uplink_in s) p + log_width (uplink_in s)) capacity_width,
            );
      }
