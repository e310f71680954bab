-- Bits that begin with a list: fields are read from them, and they are made of the fields that are read.
use mathlib.Core.Path.{◌≡◌, sym, ap, ◌∙◌, subst}
use mathlib.Core.List.{List, ◌++◌}
use Prim.Native.Nat.{ℕ, zero, suc, ◌+◌, ◌-◌, ◌^◌, ◌≤◌, ◌<◌}
use native.Mathlib.Omega.{arith}
use native.Mathlib.Decide.{dec_lt, ℕ_discrete}
use lib.Arith.{lt_of_le-ne}
use lib.ListN.{length, get_or, length-append, get_or-append}
use lib.Seq.{get_or-append-add}
use Rattle.laws.proofs.TableLaws.{table_at}
use Rattle.bits.specs.Bits.{val, digit, field}
use Rattle.bits.proofs.BitLaws.{val-field, field-after, digit-val}
use Rattle.sheet.specs.Layout.{head_widths, width_to, version_at, version_width, mode_at, mode_width, count_at, count_width, slots_at, slots_width, uplink_at, uplink_width, lcr_at, lcr_width, top_at, top_width, spare_at, spare_width, tti_width, encoded_width, ratio_width, codes_width, log_width, capacity_width, channel_at, slot_width}
use Rattle.sheet.specs.Fields.{tti_of, encoded_of, ratio_of, phchs_of, capacity_of, log_of}
use Rattle.sheet.specs.Sizes.{slot_at}
use Rattle.sheet.specs.Range.{Ranged}
use Rattle.sheet.specs.declared.Sheet.{Sheet}
use Rattle.writing.specs.Written.{low_of, top_of, head_values, head_to, head_bits, channel_bits, code_bits, slots_bits, sheet_bits}
use Rattle.writing.proofs.HoldLaws.{to_tti, to_encoded, to_log, head_length, channel-length, tti-length, encoded-length, slots_length, codes-length, logs_length}

pub record Begins (f : ℕ → ℕ) (l : List ℕ) : Type 0 where
  pub bit : (i : ℕ) → i < length l → f i ≡ get_or l i 0

begins-before : {f : ℕ → ℕ} {l : List ℕ} (m : List ℕ) → Begins f (l ++ m) → Begins f l
begins-before {f} {l} m h = record { bit = λ i b. h.bit i (omega (arith, length-append l m)) ∙ get_or-append l m 0 i b }

-- a field is read
begins-val : (f : ℕ → ℕ) (l : List ℕ) (at w v : ℕ) → length l ≡ at → v < 2 ^ w → Begins f (l ++ field w v) → val f at w ≡ v
begins-val f l at w v e b h =
    val-field f at w v b
    (λ i k.
    ap (λ (x : ℕ). f (x + i)) (sym e)
    ∙ h.bit (length l + i) (omega (arith, field-after l w v))
    ∙ get_or-append-add l (field w v) i 0
    ∙ table_at (digit w v) w i k)

-- a field that was read is appended
module _ (f : ℕ → ℕ) (l : List ℕ) (at w v : ℕ) (two : (j : ℕ) → f j < 2) (e : length l ≡ at) (q : v ≡ val f at w) (h : Begins f l) where
  more : (i : ℕ) → Dec (i < length l) → i < length (l ++ field w v) → f i ≡ get_or (l ++ field w v) i 0
  more i (yes a) b = h.bit i a ∙ sym (get_or-append l (field w v) 0 i a)
  more i (no a) b =
      let k : i ≡ at + (i - at) = omega arith in
      let k2 : i ≡ length l + (i - at) = omega arith in
      let c : i - at < w = omega (arith, field-after l w v) in
      ap f k
      ∙ sym (digit-val f at w (i - at) two c)
      ∙ ap (λ (x : ℕ). digit w x (i - at)) (sym q)
      ∙ sym (table_at (digit w v) w (i - at) c)
      ∙ sym (get_or-append-add l (field w v) (i - at) 0)
      ∙ ap (λ (x : ℕ). get_or (l ++ field w v) x 0) (sym k2)

  pub begins-more : Begins f (l ++ field w v)
  begins-more = record { bit = λ i b. more i (dec_lt i (length l)) b }

-- a chain of lists, each the beginning of the next
down_step : (f : ℕ → ℕ) (x : ℕ → List ℕ) (n m : ℕ) → Begins f (x (suc n)) → (m ≤ n → Begins f (x m)) → m ≤ suc n → Dec (m ≡ suc n) → Begins f (x m)
down_step f x n m h before l (yes e) = subst (λ (k : ℕ). Begins f (x k)) (sym e) h
down_step f x n m h before l (no e) = let b : m < suc n = lt_of_le-ne l e in before (omega arith)

chain_down : (f : ℕ → ℕ) (x : ℕ → List ℕ) → ((n : ℕ) → Begins f (x (suc n)) → Begins f (x n)) → (n m : ℕ) → m ≤ n → Begins f (x n) → Begins f (x m)
chain_down f x k zero m l h = let e : 0 ≡ m = omega arith in subst (λ (j : ℕ). Begins f (x j)) e h
chain_down f x k (suc n) m l h = down_step f x n m h (λ b. chain_down f x k n m b (k n h)) l (ℕ_discrete m (suc n))

module _ (sh : Sheet) (f : ℕ → ℕ) where
  channel-less : (i : ℕ) → Begins f (channel_bits sh (suc i)) → Begins f (channel_bits sh i)
  unfolding channel_bits
  channel-less i h =
      begins-before (field tti_width (tti_of sh i))
      (begins-before (field encoded_width (encoded_of sh i)) (begins-before (field ratio_width (ratio_of sh i - 1)) h))

  head_less : (k : ℕ) → Begins f (head_to sh (suc k)) → Begins f (head_to sh k)
  unfolding head_to
  head_less k h = begins-before (field (get_or head_widths k 0) (get_or (head_values sh) k 0)) h

  code_less : (t : ℕ) (b : List ℕ) (p : ℕ) → Begins f (code_bits sh t b (suc p)) → Begins f (code_bits sh t b p)
  unfolding code_bits
  code_less t b p h = begins-before (field (log_width sh.uplink) (log_of sh t p)) (begins-before (field capacity_width (capacity_of sh t p)) h)

  code_none : (t : ℕ) (b : List ℕ) → Begins f (code_bits sh t b 0) → Begins f b
  unfolding code_bits
  code_none t b h = begins-before (field codes_width (phchs_of sh t - 1)) h

  slot_whole : (t : ℕ) → Begins f (slots_bits sh (suc t)) → Begins f (code_bits sh t (slots_bits sh t) (phchs_of sh t))
  unfolding slots_bits
  slot_whole t h = h

  slot-less : (t : ℕ) → Begins f (slots_bits sh (suc t)) → Begins f (slots_bits sh t)
  slot-less t h =
      code_none t (slots_bits sh t)
      (chain_down f (code_bits sh t (slots_bits sh t)) (code_less t (slots_bits sh t)) (phchs_of sh t) 0 (omega arith) (slot_whole t h))

  no_slot : Begins f (slots_bits sh 0) → Begins f (channel_bits sh sh.channels)
  unfolding slots_bits
  no_slot h = h

  no_channel_lem : Begins f (channel_bits sh 0) → Begins f (head_bits sh)
  unfolding channel_bits
  no_channel_lem h = h

  module _ (h : Begins f (sheet_bits sh)) where
    slots_begin : (t : ℕ) → t ≤ sh.slots → Begins f (slots_bits sh t)
    slots_begin t l = chain_down f (slots_bits sh) slot-less sh.slots t l h

    codes_begin : (t p : ℕ) → t < sh.slots → p ≤ phchs_of sh t → Begins f (code_bits sh t (slots_bits sh t) p)
    codes_begin t p l k =
        chain_down f (code_bits sh t (slots_bits sh t)) (code_less t (slots_bits sh t)) (phchs_of sh t) p k (slot_whole t (slots_begin (suc t) l))

    channels_begin : (i : ℕ) → i ≤ sh.channels → Begins f (channel_bits sh i)
    channels_begin i l = chain_down f (channel_bits sh) channel-less sh.channels i l (no_slot (slots_begin 0 (omega arith)))

    head_begins : Begins f (head_bits sh)
    head_begins = no_channel_lem (channels_begin 0 (omega arith))

    -- the fields of a sheet in range are read from bits that begin with it
    read_head : (k : ℕ) → k < 8 → get_or (head_values sh) k 0 < 2 ^ get_or head_widths k 0
        → val f (width_to head_widths k) (get_or head_widths k 0) ≡ get_or (head_values sh) k 0
    unfolding head_to
    read_head k l b =
        begins-val f (head_to sh k) (width_to head_widths k) (get_or head_widths k 0) (get_or (head_values sh) k 0) (head_length sh k) b
        (chain_down f (head_to sh) head_less 8 (suc k) l head_begins)

    module _ (r : Ranged sh) (one : sh.version ≡ 1) where
      pub read_version : val f version_at version_width ≡ sh.version
      read_version = read_head 0 (omega arith) (omega arith)

      pub read_mode : val f mode_at mode_width ≡ sh.mode
      read_mode = read_head 1 (omega arith) (omega (arith, r.mode))

      pub read_count : val f count_at count_width ≡ low_of sh
      read_count = read_head 2 (omega arith) (omega arith)

      pub read_slots : val f slots_at slots_width ≡ sh.slots
      read_slots = read_head 3 (omega arith) (omega (arith, r.few_slots))

      pub read_uplink : val f uplink_at uplink_width ≡ sh.uplink
      read_uplink = read_head 4 (omega arith) (omega (arith, r.uplink))

      pub read_lcr : val f lcr_at lcr_width ≡ sh.lcr
      read_lcr = read_head 5 (omega arith) (omega (arith, r.lcr))

      pub read_top : val f top_at top_width ≡ top_of sh
      read_top = read_head 6 (omega arith) (omega (arith, r.few_channels))

      pub read_spare : val f spare_at spare_width ≡ 0
      read_spare = read_head 7 (omega arith) (omega arith)

      pub read_tti : (i : ℕ) → i < sh.channels → val f (channel_at i) tti_width ≡ tti_of sh i
      unfolding channel_bits
      read_tti i l =
          begins-val f (channel_bits sh i) (channel_at i) tti_width (tti_of sh i) (channel-length sh i) (omega (arith, r.tti i l))
          (begins-before (field encoded_width (encoded_of sh i)) (begins-before (field ratio_width (ratio_of sh i - 1)) (channels_begin (suc i) l)))

      pub read_encoded : (i : ℕ) → i < sh.channels → val f (channel_at i + tti_width) encoded_width ≡ encoded_of sh i
      unfolding channel_bits
      read_encoded i l =
          begins-val f (to_tti sh i) (channel_at i + tti_width) encoded_width (encoded_of sh i) (tti-length sh i) (omega (arith, r.encoded i l))
          (begins-before (field ratio_width (ratio_of sh i - 1)) (channels_begin (suc i) l))

      pub read_ratio : (i : ℕ) → i < sh.channels → val f (channel_at i + (tti_width + encoded_width)) ratio_width ≡ ratio_of sh i - 1
      unfolding channel_bits
      read_ratio i l =
          begins-val f (to_encoded sh i) (channel_at i + (tti_width + encoded_width)) ratio_width (ratio_of sh i - 1) (encoded-length sh i)
          (omega (arith, r.ratio256 i l)) (channels_begin (suc i) l)

      pub read_phchs : (t : ℕ) → t < sh.slots → val f (slot_at sh t) codes_width ≡ phchs_of sh t - 1
      unfolding code_bits
      read_phchs t l =
          begins-val f (slots_bits sh t) (slot_at sh t) codes_width (phchs_of sh t - 1) (slots_length sh t) (omega (arith, r.phch16 t l))
          (codes_begin t 0 l (omega arith))

      pub read_log : (t p : ℕ) → t < sh.slots → p < phchs_of sh t → log_of sh t p < 2 ^ log_width sh.uplink
          → val f (slot_at sh t + slot_width sh.uplink p) (log_width sh.uplink) ≡ log_of sh t p
      unfolding code_bits
      read_log t p l k b =
          begins-val f (code_bits sh t (slots_bits sh t) p) (slot_at sh t + slot_width sh.uplink p) (log_width sh.uplink) (log_of sh t p)
          (codes-length sh t p) b (begins-before (field capacity_width (capacity_of sh t p)) (codes_begin t (suc p) l k))

      pub read_capacity : (t p : ℕ) → t < sh.slots → p < phchs_of sh t
          → val f (slot_at sh t + slot_width sh.uplink p + log_width sh.uplink) capacity_width ≡ capacity_of sh t p
      unfolding code_bits
      read_capacity t p l k =
          begins-val f (to_log sh t p) (slot_at sh t + slot_width sh.uplink p + log_width sh.uplink) capacity_width (capacity_of sh t p)
          (logs_length sh t p) (omega (arith, r.caps t p l k)) (codes_begin t (suc p) l k)
