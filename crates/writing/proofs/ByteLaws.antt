-- The bits of a sheet are 0 or 1.
use mathlib.Core.Path.{◌≡◌, sym, ap, ◌∙◌, subst}
use mathlib.Core.List.{List, ◌++◌}
use Prim.Native.Nat.{ℕ, zero, suc, ◌+◌, ◌-◌, ◌≤◌, ◌<◌}
use native.Mathlib.Nat.{mod-lt}
use native.Mathlib.Omega.{arith}
use native.Mathlib.Decide.{dec_lt}
use lib.Dec.{lit<}
use lib.ListN.{length, get_or, get_or-eq_default, get_or-append}
use lib.Seq.{get_or-append-add}
use Rattle.laws.proofs.TableLaws.{table_at}
use Rattle.bits.specs.Bits.{digit, field}
use Rattle.bits.proofs.BitLaws.{field-length}
use Rattle.sheet.specs.Layout.{head_widths, tti_width, encoded_width, ratio_width, codes_width, log_width, capacity_width}
use Rattle.sheet.specs.Fields.{phchs_of}
use Rattle.sheet.specs.declared.Sheet.{Sheet}
use Rattle.writing.specs.Written.{head_to, channel_bits, code_bits, slots_bits}

pub record Binary (l : List ℕ) : Type 0 where
  pub below : (i : ℕ) → get_or l i 0 < 2

field_binary : (w v : ℕ) → Binary (field w v)
field_binary w v = record { below = λ i. side i (dec_lt i w) }
  where
    side : (i : ℕ) → Dec (i < w) → get_or (field w v) i 0 < 2
    side i (yes l) = subst (λ (x : ℕ). x < 2) (sym (table_at (digit w v) w i l)) (mod-lt _ (lit< tt))
    side i (no l) =
        let m : length (field w v) ≤ i = omega (arith, field-length w v) in
        subst (λ (x : ℕ). x < 2) (sym (get_or-eq_default (field w v) 0 m)) (lit< tt)

binary_more : (l : List ℕ) (w v : ℕ) → Binary l → Binary (l ++ field w v)
binary_more l w v h = record { below = λ i. side i (dec_lt i (length l)) }
  where
    side : (i : ℕ) → Dec (i < length l) → get_or (l ++ field w v) i 0 < 2
    side i (yes b) = subst (λ (x : ℕ). x < 2) (sym (get_or-append l (field w v) 0 i b)) (h.below i)
    side i (no b) =
        let k : i ≡ length l + (i - length l) = omega arith in
        subst (λ (x : ℕ). x < 2) (sym (ap (λ (x : ℕ). get_or (l ++ field w v) x 0) k ∙ get_or-append-add l (field w v) (i - length l) 0))
        ((field_binary w v).below (i - length l))

module _ (sh : Sheet) where
  head_binary : (k : ℕ) → Binary (head_to sh k)
  unfolding head_to
  head_binary zero = record { below = λ i. lit< tt }
  head_binary (suc k) = binary_more (head_to sh k) (get_or head_widths k 0) _ (head_binary k)

  channel_binary : (i : ℕ) → Binary (channel_bits sh i)
  unfolding channel_bits
  channel_binary zero = head_binary 8
  channel_binary (suc i) = binary_more _ ratio_width _ (binary_more _ encoded_width _ (binary_more _ tti_width _ (channel_binary i)))

  code_binary : (t : ℕ) (b : List ℕ) (p : ℕ) → Binary b → Binary (code_bits sh t b p)
  unfolding code_bits
  code_binary t b zero h = binary_more b codes_width _ h
  code_binary t b (suc p) h = binary_more _ capacity_width _ (binary_more _ (log_width sh.uplink) _ (code_binary t b p h))

  pub slots_binary : (t : ℕ) → Binary (slots_bits sh t)
  unfolding slots_bits
  slots_binary zero = channel_binary sh.channels
  slots_binary (suc t) = code_binary t (slots_bits sh t) (phchs_of sh t) (slots_binary t)
