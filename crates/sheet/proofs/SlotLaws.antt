-- Laws of reading: one channel more, one physical channel more, a slot that is done, and the fields put together.
use mathlib.Core.Path.{◌≡◌, refl, sym, ap, ap₂, ◌∙◌}
use mathlib.Core.List.{List}
use Prim.Native.Nat.{ℕ, ◌+◌, ◌*◌, ◌/◌, ◌%◌, ◌^◌, ◌≤◌, ◌<◌}
use native.Mathlib.Nat.{add-zero, mul_comm, mul-add, mul-le-mul_right}
use native.Mathlib.Numerals.{add-one}
use native.Mathlib.Omega.{arith}
use native.Mathlib.Decide.{dec_lt}
use lib.Arith.{digits_div, digits_mod}
use lib.ListN.{get_or, set, replicate}
use Rattle.laws.specs.Tables.{up_to}
use Rattle.laws.proofs.TableLaws.{filled_at, table-set, table_same, table_zeros, up_to-below, up_to_past, up_to-zero}
use Rattle.bits.specs.Bits.{val, bit_at, bits_at}
use Rattle.bits.proofs.BitLaws.{bit-lt, bits-lt, val_shift, val-append, val-part}
use Rattle.sheet.specs.Counts.{most_channels, most_slots, most_codes, most_capacities, most_paired, most_logs}
use Rattle.sheet.specs.Layout.{version_at, version_width, mode_at, mode_width, count_at, count_width, slots_at, slots_width, uplink_at, uplink_width, lcr_at, lcr_width, top_at, top_width, tti_width, encoded_width, ratio_width, codes_width, log_width, capacity_width, channel_at, slot_width}
use Rattle.sheet.specs.Fields.{channels_in, uplink_in, tti_in, encoded_in, ratio_in, slot_from, phchs_in, code_log, code_capacity, code_in, sheet_of}
use Rattle.sheet.specs.Reading.{channels_to, slots_to, logs_to}
use Rattle.sheet.specs.declared.fields.Channels.{Channels}
use Rattle.sheet.specs.declared.fields.Slots.{Slots}
use Rattle.sheet.specs.declared.Sheet.{Sheet}

-- x is TTI and E of channel k as one number, d is RM-1
pub channels_more : (s : List ℕ) (k : ℕ) (c : Channels) {x d : ℕ} → k < most_channels → c ≡ channels_to s k → x ≡ bits_at s (channel_at k) (tti_width + encoded_width)
    → d ≡ bits_at s (channel_at k + (tti_width + encoded_width)) ratio_width
    → ◌≡◌ {A = Channels} (record { tti = set c.tti k (x / 2 ^ encoded_width); e = set c.e k (x % 2 ^ encoded_width); rm = set c.rm k (d + 1) })
    (channels_to s (k + 1))
channels_more s k c {x} h e ex ed =
    let both = val-append (bit_at s) (channel_at k) tti_width encoded_width in
    let ea : x / 2 ^ encoded_width ≡ tti_in s k = omega (arith, ex, both, bits-lt s (channel_at k + tti_width) encoded_width) in
    let eb : x % 2 ^ encoded_width ≡ encoded_in s k = omega (arith, ex, both, bits-lt s (channel_at k + tti_width) encoded_width) in
    rw (e, ea, eb, ed, table-set (tti_in s) most_channels k h, table-set (encoded_in s) most_channels k h, table-set (ratio_in s) most_channels k h)

pub phchs_most : (s : List ℕ) (start t : ℕ) → phchs_in s start t ≤ most_codes
phchs_most s start t = omega (arith, bits-lt s (slot_from s start t) codes_width)

pub uplink-most : (s : List ℕ) → uplink_in s ≤ 1
uplink-most s = omega (arith, bits-lt s uplink_at uplink_width)

-- a physical channel more takes as many bits as any, and in uplink the most
pub width_more : (up p : ℕ) → slot_width up (p + 1) ≡ slot_width up p + log_width up + capacity_width
width_more up p = omega (arith, mul-add (log_width up + capacity_width) p 1)

pub width_most : (up p : ℕ) → up ≤ 1 → slot_width up p ≤ slot_width 1 p
width_most up p h = let b : log_width up + capacity_width ≤ 15 = omega arith in omega (arith, mul-le-mul_right p b)

pub slot_next : (s : List ℕ) (start t : ℕ) → slot_from s start t + slot_width (uplink_in s) (phchs_in s start t) ≡ slot_from s start (t + 1)
unfolding slot_from
slot_next s start t = rw (add-one t)

-- what there is of the physical channels, where an array has w of them for each slot
module _ (w : ℕ) (f : List ℕ → ℕ → ℕ → ℕ → ℕ) (s : List ℕ) (start t : ℕ) where
  -- number w t + p is physical channel p of slot t
  pub code_at : (p : ℕ) → p < w → code_in w f s start (w * t + p) ≡ up_to (phchs_in s start t) p (f s start t p)
  code_at p h =
      let q : (w * t + p) / w ≡ t = ap (λ (x : ℕ). (x + p) / w) (mul_comm w t) ∙ digits_div t {m = w} {r = p} h in
      let r : (w * t + p) % w ≡ p = ap (λ (x : ℕ). (x + p) % w) (mul_comm w t) ∙ digits_mod t {m = w} {r = p} h in
      ap₂ (λ (a b : ℕ). up_to (phchs_in s start a) b (f s start a b)) q r

  pub code_in_lem : (p : ℕ) → p < w → p < phchs_in s start t → f s start t p ≡ code_in w f s start (w * t + p)
  code_in_lem p h l = sym (code_at p h ∙ up_to-below (phchs_in s start t) p (f s start t p) l)

-- a slot's capacities that are done
module _ (s : List ℕ) (start t : ℕ) where
  -- past the slot's physical channels there is none
  capacity_none : (m : ℕ) → most_codes * t + phchs_in s start t ≤ m → m < most_codes * (t + 1) → code_in most_codes code_capacity s start m ≡ 0
  capacity_none m h l =
      let x = code_capacity s start (m / most_codes) (m % most_codes) in
      let q : m / most_codes ≡ t = omega arith in
      let r : phchs_in s start t ≤ m % most_codes = omega arith in
      ap (λ (a : ℕ). up_to (phchs_in s start a) (m % most_codes) x) q ∙ up_to_past (phchs_in s start t) (m % most_codes) x r

  entry : (m : ℕ) → Dec (m < most_codes * t + phchs_in s start t) → Dec (m < most_codes * (t + 1))
      → up_to (most_codes * t + phchs_in s start t) m (code_in most_codes code_capacity s start m) ≡ up_to (most_codes * (t + 1)) m (code_in most_codes code_capacity s start m)
  entry m (yes a) b = up_to-below _ m _ a ∙ sym (up_to-below (most_codes * (t + 1)) m _ (omega (arith, phchs_most s start t)))
  entry m (no a) (yes b) =
      up_to_past _ m _ (omega arith) ∙ sym (capacity_none m (omega arith) b) ∙ sym (up_to-below (most_codes * (t + 1)) m _ b)
  entry m (no a) (no b) = up_to_past _ m _ (omega arith) ∙ sym (up_to_past (most_codes * (t + 1)) m _ (omega arith))

  pub slot-done : slots_to s start (t + 1) (most_codes * t + phchs_in s start t) ≡ slots_to s start (t + 1) (most_codes * (t + 1))
  slot-done =
      let e =
      table_same (λ m. up_to (most_codes * t + phchs_in s start t) m (code_in most_codes code_capacity s start m))
      (λ m. up_to (most_codes * (t + 1)) m (code_in most_codes code_capacity s start m)) most_capacities
      (λ m l. entry m (dec_lt m (most_codes * t + phchs_in s start t)) (dec_lt m (most_codes * (t + 1))))
      in
      rw e

pub slot-begun : (s : List ℕ) (start t : ℕ) (r : Slots) {x : ℕ} → t < most_slots → r ≡ slots_to s start t (most_codes * t) → x ≡ phchs_in s start t
    → ◌≡◌ {A = Slots} (record { phchs = set r.phchs t x; caps = r.caps }) (slots_to s start (t + 1) (most_codes * t + 0))
slot-begun s start t r h e ex = rw (e, ex, table-set (phchs_in s start) most_slots t h, add-zero (most_codes * t))

pub slot-more : (s : List ℕ) (start t p : ℕ) (r : Slots) {x : ℕ} → t < most_slots → p < phchs_in s start t → r ≡ slots_to s start (t + 1) (most_codes * t + p)
    → x ≡ code_capacity s start t p
    → ◌≡◌ {A = Slots} (record { phchs = r.phchs; caps = set r.caps (most_codes * t + p) x }) (slots_to s start (t + 1) (most_codes * t + (p + 1)))
slot-more s start t p r h l e ex =
    let b : most_codes * t + p < most_capacities = omega (arith, phchs_most s start t) in
    let z : most_codes * t + (p + 1) ≡ most_codes * t + p + 1 = omega arith in
    let c = code_in_lem most_codes code_capacity s start t p (omega (arith, phchs_most s start t)) l in
    rw (e, ex, c, table-set (code_in most_codes code_capacity s start) most_capacities (most_codes * t + p) b, z)

-- P of each slot that was read
pub slots_read : (s : List ℕ) (start t : ℕ) (r : Slots) → r ≡ slots_to s start t (most_codes * t) → t ≤ most_slots → (i : ℕ) → i < t
    → get_or r.phchs i 0 ≡ phchs_in s start i
slots_read s start t r e h i l = ap (λ (x : Slots). get_or x.phchs i 0) e ∙ filled_at (phchs_in s start) t most_slots i (omega arith) l

-- the two logarithms of a slot are read
pub logs_more : (s : List ℕ) (start t : ℕ) (logs : List ℕ) {x y : ℕ} → t < most_slots → logs ≡ logs_to s start (most_paired * t) → x ≡ code_log s start t 0
    → y ≡ up_to (phchs_in s start t) 1 (code_log s start t 1)
    → set (set logs (most_paired * t) x) (most_paired * t + 1) y ≡ logs_to s start (most_paired * (t + 1))
logs_more s start t logs h e ex ey =
    let z : most_paired * t ≡ most_paired * t + 0 = omega arith in
    let c = code_in_lem most_paired code_log s start t 0 (omega arith) (omega arith) ∙ ap (code_in most_paired code_log s start) (sym z) in
    let d = sym (code_at most_paired code_log s start t 1 (omega arith)) in
    let n : most_paired * (t + 1) ≡ most_paired * t + 1 + 1 = omega arith in
    rw (
      e,
      ex,
      ey,
      c,
      d,
      table-set (code_in most_paired code_log s start) most_logs (most_paired * t) (omega arith),
      table-set (code_in most_paired code_log s start) most_logs (most_paired * t + 1) (omega arith),
      n,
    )

-- in downlink they are all 0
pub logs_none : (s : List ℕ) (start m : ℕ) → uplink_in s ≡ 0 → logs_to s start m ≡ replicate most_logs 0
unfolding val
logs_none s start m z =
    table_same (λ k. up_to m k (code_in most_paired code_log s start k)) (λ k. 0) most_logs
    (λ k l.
    ap (λ (u : ℕ). up_to m k (up_to (phchs_in s start (k / most_paired)) (k % most_paired) (bits_at s (slot_from s start (k / most_paired) + slot_width u (k % most_paired)) (log_width u)))) z
    ∙ up_to-zero m k (up_to-zero (phchs_in s start (k / most_paired)) (k % most_paired) refl))
    ∙ table_zeros most_logs

-- the fields of the head, divided out of its two bytes
module _ (s : List ℕ) {first second : ℕ} (e : first ≡ bits_at s 0 8) (f : second ≡ bits_at s 8 8) where
  pub version_of : first / 16 ≡ bits_at s version_at version_width
  version_of = ap (λ (x : ℕ). x / 16) e ∙ val_shift (bit_at s) 0 4 4 (bit-lt s)

  pub mode_of : first / 8 % 2 ≡ bits_at s mode_at mode_width
  mode_of = ap (λ (x : ℕ). x / 8 % 2) e ∙ val-part (bit_at s) 0 4 1 3 (bit-lt s)

  low_of : first % 8 ≡ bits_at s count_at count_width
  low_of = omega (arith, e, val-append (bit_at s) 0 5 3, bits-lt s 5 3)

  top_of : second / 2 % 2 ≡ bits_at s top_at top_width
  top_of = ap (λ (x : ℕ). x / 2 % 2) f ∙ val-part (bit_at s) 8 6 1 1 (bit-lt s)

  pub channels_of : 8 * (second / 2 % 2) + first % 8 + 1 ≡ channels_in s
  channels_of = ap₂ (λ (a b : ℕ). 8 * a + b + 1) top_of low_of

  pub slots_of : second / 16 ≡ bits_at s slots_at slots_width
  slots_of = ap (λ (x : ℕ). x / 16) f ∙ val_shift (bit_at s) 8 4 4 (bit-lt s)

  pub uplink_of : second / 8 % 2 ≡ bits_at s uplink_at uplink_width
  uplink_of = ap (λ (x : ℕ). x / 8 % 2) f ∙ val-part (bit_at s) 8 4 1 3 (bit-lt s)

  pub lcr_of : second / 4 % 2 ≡ bits_at s lcr_at lcr_width
  lcr_of = ap (λ (x : ℕ). x / 4 % 2) f ∙ val-part (bit_at s) 8 5 1 2 (bit-lt s)

-- the parts that were read make the sheet
pub joined : (s : List ℕ) {v m n t u k : ℕ} (c : Channels) (r : Slots) {l : List ℕ} → v ≡ bits_at s version_at version_width → m ≡ bits_at s mode_at mode_width
    → n ≡ channels_in s → t ≡ bits_at s slots_at slots_width → u ≡ bits_at s uplink_at uplink_width → k ≡ bits_at s lcr_at lcr_width → c ≡ channels_to s n → r ≡ slots_to s (channel_at n) t (most_codes * t)
    → l ≡ logs_to s (channel_at n) (most_paired * t)
    → ◌≡◌ {A = Sheet}
    (record {
      version = v;
      mode = m;
      channels = n;
      slots = t;
      uplink = u;
      lcr = k;
      tti = c.tti;
      e = c.e;
      rm = c.rm;
      phchs = r.phchs;
      caps = r.caps;
      logs = l;
    })
    (sheet_of s)
unfolding sheet_of
joined s c r ev em en et eu ek ec er el = rw (ec, er, el, ev, em, en, et, eu, ek)
