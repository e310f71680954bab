-- Bits that are written field by field: what a store of a field holds, and how long the bits are.
use mathlib.Core.Path.{◌≡◌, refl, sym, ap, ◌∙◌, subst}
use mathlib.Core.List.{List, [], ◌++◌}
use Prim.Native.Nat.{ℕ, zero, suc, ◌+◌, ◌-◌, ◌*◌, ◌≤◌, ◌<◌}
use native.Mathlib.Numerals.{add-one}
use native.Mathlib.Omega.{arith}
use native.Mathlib.Decide.{dec_lt}
use lib.ListN.{length, get_or, replicate, get_or-eq_default, get_or-append}
use lib.Seq.{paste, length-paste, get_or-append-add}
use Rattle.laws.specs.Sums.{sum_to}
use Rattle.laws.proofs.TableLaws.{zeros_at}
use Rattle.bits.specs.Bits.{field}
use Rattle.bits.proofs.BitLaws.{field-length, field-after, paste_before, paste_inside, paste_after}
use Rattle.sheet.specs.Counts.{longest_form}
use Rattle.sheet.specs.Layout.{head_widths, width_to, tti_width, encoded_width, ratio_width, codes_width, log_width, capacity_width, channel_at, slot_width}
use Rattle.sheet.specs.Fields.{tti_of, encoded_of, ratio_of, phchs_of, capacity_of, log_of}
use Rattle.sheet.specs.Sizes.{slot_at}
use Rattle.sheet.specs.declared.Sheet.{Sheet}
use Rattle.writing.specs.declared.written.Bits.{Bits}
use Rattle.writing.specs.Written.{head_values, head_to, channel_bits, code_bits, slots_bits, Holds, BitsWritten}
use Rattle.sheet.proofs.SlotLaws.{width_more}

-- the bits that the writer has room for
abbrev pub room : ℕ
room = 8 * longest_form

pub holds_zeros : (n : ℕ) → length {A = ℕ} (replicate n 0) ≡ n → Holds (replicate n 0) n []
holds_zeros n e = record { long = e; same = zeros_at n }

-- a field is put after the bits that are held
module _ (bs : List ℕ) (n : ℕ) (l : List ℕ) (at w v : ℕ) (h : Holds bs n l) (e : length l ≡ at) (fits : at + w ≤ n) where
  places : (i : ℕ) → Dec (i < at) → Dec (i < at + w) → get_or (paste bs at (field w v) w) i 0 ≡ get_or (l ++ field w v) i 0
  places i (yes a) b =
      paste_before bs at (field w v) w i (omega (arith, h.long)) (omega (arith, field-length w v)) a
      ∙ h.same i
      ∙ sym (get_or-append l (field w v) 0 i (omega arith))
  places i (no a) (yes b) =
      let k : i ≡ at + (i - at) = omega arith in
      let k2 : i ≡ length l + (i - at) = omega arith in
      ap (λ (x : ℕ). get_or (paste bs at (field w v) w) x 0) k
      ∙ paste_inside bs at (field w v) w (i - at) (omega (arith, h.long)) (omega (arith, field-length w v)) (omega arith)
      ∙ sym (ap (λ (x : ℕ). get_or (l ++ field w v) x 0) k2 ∙ get_or-append-add l (field w v) (i - at) 0)
  places i (no a) (no b) =
      let k : i ≡ at + w + (i - (at + w)) = omega arith in
      let m : length (l ++ field w v) ≤ i = omega (arith, field-after l w v) in
      let m2 : length l ≤ i = omega arith in
      ap (λ (x : ℕ). get_or (paste bs at (field w v) w) x 0) k
      ∙ paste_after bs at (field w v) w (i - (at + w)) (omega (arith, h.long)) (omega (arith, field-length w v))
      ∙ ap (λ (x : ℕ). get_or bs x 0) (sym k)
      ∙ h.same i
      ∙ get_or-eq_default l 0 m2
      ∙ sym (get_or-eq_default (l ++ field w v) 0 m)

  -- its value given by an equal number
  pub holds_more : {u : ℕ} {r : List ℕ} → u ≡ v → r ≡ paste bs at (field w u) w → Holds r n (l ++ field w v)
  holds_more q g =
      let p = g ∙ ap (λ (x : ℕ). paste bs at (field w x) w) q in
      record {
        long = ap length p ∙ length-paste bs at (field w v) w (omega (arith, h.long)) (omega (arith, field-length w v)) ∙ h.long;
        same = λ i. ap (λ (x : List ℕ). get_or x i 0) p ∙ places i (dec_lt i at) (dec_lt i (at + w));
      }

-- what a put promises, and what it then comes to where its width and its value are given by equal numbers
abbrev pub Puts : Bits → Bits → ℕ → ℕ → Type 0
Puts b r w u = (l : List ℕ) → BitsWritten b l → BitsWritten r (l ++ field w u)

pub put_as : {b r : Bits} {w u v : ℕ} (x : ℕ) (l : List ℕ) → BitsWritten b l → Puts b r w u → w ≡ x → u ≡ v → BitsWritten r (l ++ field x v)
put_as {b} {r} {w} {u} {v} x l h m e q = subst (λ (y : ℕ). BitsWritten r (l ++ field y v)) e (subst (λ (y : ℕ). BitsWritten r (l ++ field w y)) q (m l h))

module _ (sh : Sheet) where
  -- the bits before channel i with its TTI, and with its E too
  abbrev pub to_tti : ℕ → List ℕ
  to_tti i = channel_bits sh i ++ field tti_width (tti_of sh i)

  abbrev pub to_encoded : ℕ → List ℕ
  to_encoded i = to_tti i ++ field encoded_width (encoded_of sh i)

  -- the bits before physical channel p of slot t with its logarithm
  abbrev pub to_log : ℕ → ℕ → List ℕ
  to_log t p = code_bits sh t (slots_bits sh t) p ++ field (log_width sh.uplink) (log_of sh t p)

  -- how long the bits are
  pub head_length : (k : ℕ) → length (head_to sh k) ≡ width_to head_widths k
  unfolding head_to
  head_length zero = refl
  head_length (suc k) = field-after (head_to sh k) (get_or head_widths k 0) _ ∙ ap (λ (x : ℕ). x + get_or head_widths k 0) (head_length k)

  pub channel-length : (i : ℕ) → length (channel_bits sh i) ≡ channel_at i
  unfolding channel_bits
  channel-length zero = head_length 8
  channel-length (suc i) =
      field-after (to_encoded i) ratio_width (ratio_of sh i - 1)
      ∙ omega (
        arith,
        field-after (to_tti i) encoded_width (encoded_of sh i),
        field-after (channel_bits sh i) tti_width (tti_of sh i),
        channel-length i,
      )

  pub tti-length : (i : ℕ) → length (to_tti i) ≡ channel_at i + tti_width
  tti-length i = field-after (channel_bits sh i) tti_width (tti_of sh i) ∙ ap (λ (x : ℕ). x + tti_width) (channel-length i)

  pub encoded-length : (i : ℕ) → length (to_encoded i) ≡ channel_at i + (tti_width + encoded_width)
  encoded-length i = field-after (to_tti i) encoded_width (encoded_of sh i) ∙ omega (arith, tti-length i)

  code_length : (t : ℕ) (b : List ℕ) (p : ℕ) → length (code_bits sh t b p) ≡ length b + slot_width sh.uplink p
  unfolding code_bits
  code_length t b zero = field-after b codes_width (phchs_of sh t - 1) ∙ omega arith
  code_length t b (suc p) =
      field-after (code_bits sh t b p ++ field (log_width sh.uplink) (log_of sh t p)) capacity_width (capacity_of sh t p)
      ∙ omega (
        arith,
        field-after (code_bits sh t b p) (log_width sh.uplink) (log_of sh t p),
        code_length t b p,
        width_more sh.uplink p,
      )

  pub slots_length : (t : ℕ) → length (slots_bits sh t) ≡ slot_at sh t
  unfolding slots_bits sum_to
  slots_length zero = channel-length sh.channels ∙ omega arith
  slots_length (suc t) = code_length t (slots_bits sh t) (phchs_of sh t) ∙ omega (arith, slots_length t)

  pub codes-length : (t p : ℕ) → length (code_bits sh t (slots_bits sh t) p) ≡ slot_at sh t + slot_width sh.uplink p
  codes-length t p = code_length t (slots_bits sh t) p ∙ ap (λ (x : ℕ). x + slot_width sh.uplink p) (slots_length t)

  pub logs_length : (t p : ℕ) → length (to_log t p) ≡ slot_at sh t + slot_width sh.uplink p + log_width sh.uplink
  logs_length t p =
      field-after (code_bits sh t (slots_bits sh t) p) (log_width sh.uplink) (log_of sh t p) ∙ ap (λ (x : ℕ). x + log_width sh.uplink) (codes-length t p)

  -- one more channel, physical channel, slot
  pub channel-more : (i : ℕ) → to_encoded i ++ field ratio_width (ratio_of sh i - 1) ≡ channel_bits sh (i + 1)
  unfolding channel_bits
  channel-more i = rw (add-one i)

  pub code_more : (t p : ℕ) → to_log t p ++ field capacity_width (capacity_of sh t p) ≡ code_bits sh t (slots_bits sh t) (p + 1)
  unfolding code_bits
  code_more t p = rw (add-one p)

  pub slots_more : (t : ℕ) → code_bits sh t (slots_bits sh t) (phchs_of sh t) ≡ slots_bits sh (t + 1)
  unfolding slots_bits
  slots_more t = rw (add-one t)

  -- one more field of the head
  pub head_more : (k : ℕ) {b r : Bits} {u : ℕ} → BitsWritten b (head_to sh k) → Puts b r (get_or head_widths k 0) u → u ≡ get_or (head_values sh) k 0
      → BitsWritten r (head_to sh (suc k))
  unfolding head_to
  head_more k h m e = put_as (get_or head_widths k 0) (head_to sh k) h m refl e
