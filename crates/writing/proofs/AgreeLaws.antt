-- Sheets that agree in every field within their counts need the same bytes and have the same numbers from 5 on.
use mathlib.Core.Path.{◌≡◌, refl, sym, ap, ap₂, ◌∙◌}
use mathlib.Core.Bool.{Bool, not, cond, ◌&&◌, ◌||◌}
use Prim.Native.Nat.{ℕ, ◌+◌, ◌*◌, ◌/◌, ◌%◌, ◌<◌}
use native.Mathlib.Omega.{arith}
use native.Mathlib.Decide.{dec_lt, ℕ_discrete}
use borrow.Author.Tests.{eq-eqb, ne_eqb}
use lib.Dec.{eqb, ltb}
use lib.ListN.{get_or}
use Rattle.laws.specs.Tables.{table, up_to}
use Rattle.laws.specs.Sums.{sum_to, any_to}
use Rattle.laws.proofs.TableLaws.{filled_at, up_to-below, up_to_past}
use Rattle.laws.proofs.SumLaws.{sum_same, any_same}
use Rattle.sheet.specs.Counts.{most_channels, most_slots, most_codes, most_paired, most_lcr_slots, most_log}
use Rattle.sheet.specs.Layout.{channel_at, slot_width}
use Rattle.sheet.specs.Fields.{tti_of, encoded_of, phchs_of, capacity_of, log_of}
use Rattle.sheet.specs.Sizes.{frames_in, segment_in, equalised_of, equalised_all, slot_capacity, places_all, subframes_of, capacity_all, bits_needed}
use Rattle.sheet.specs.Numbers.{empty_place, slot_beyond, some_beyond, beyond_uplink, beyond_subframe, silent, load_lines}
use Rattle.sheet.proofs.NumberLaws.{empty_slot}
use Rattle.sheet.specs.Range.{Ranged}
use Rattle.sheet.specs.declared.Sheet.{Sheet}
use Rattle.writing.specs.Written.{code_trimmed, trimmed}

pub record Agree (a b : Sheet) : Type 0 where
  pub channels : a.channels ≡ b.channels
  pub slots : a.slots ≡ b.slots
  pub uplink : a.uplink ≡ b.uplink
  pub lcr : a.lcr ≡ b.lcr
  pub tti : (i : ℕ) → i < b.channels → tti_of a i ≡ tti_of b i
  pub encoded : (i : ℕ) → i < b.channels → encoded_of a i ≡ encoded_of b i
  pub phchs : (t : ℕ) → t < b.slots → phchs_of a t ≡ phchs_of b t
  pub caps : (t p : ℕ) → t < b.slots → p < phchs_of b t → capacity_of a t p ≡ capacity_of b t p
  pub logs : (t p : ℕ) → t < b.slots → p < phchs_of b t → (b.uplink ≡ 0 → ⊥) → log_of a t p ≡ log_of b t p

module _ (a b : Sheet) (g : Agree a b) where
  pub agree_need : bits_needed a ≡ bits_needed b
  agree_need =
      ap₂ (λ (n t : ℕ). channel_at n + sum_to (λ k. slot_width a.uplink (phchs_of a k)) t) g.channels g.slots
      ∙ ap (λ (x : ℕ). channel_at b.channels + x)
      (sum_same (λ k. slot_width a.uplink (phchs_of a k)) (λ k. slot_width b.uplink (phchs_of b k)) b.slots
      (λ t l. ap₂ slot_width g.uplink (g.phchs t l)))

  agree_equalised : equalised_all a ≡ equalised_all b
  agree_equalised =
      ap (sum_to (equalised_of a)) g.channels
      ∙ sum_same (equalised_of a) (equalised_of b) b.channels
      (λ i l. ap₂ (λ (t e : ℕ). frames_in t * segment_in e (frames_in t)) (g.tti i l) (g.encoded i l))

  agree_places : places_all a ≡ places_all b
  agree_places =
      ap (sum_to (slot_capacity a)) g.slots
      ∙ sum_same (slot_capacity a) (slot_capacity b) b.slots
      (λ t l. ap (sum_to (capacity_of a t)) (g.phchs t l) ∙ sum_same (capacity_of a t) (capacity_of b t) (phchs_of b t) (λ p k. g.caps t p l k))

  agree_capacity : capacity_all a ≡ capacity_all b
  unfolding subframes_of
  agree_capacity = ap₂ (λ (k w : ℕ). (1 + k) * w) g.lcr agree_places

  agree_empty : empty_place a ≡ empty_place b
  agree_empty =
      ap (any_to (empty_slot a)) g.slots
      ∙ any_same (empty_slot a) (empty_slot b) b.slots
      (λ t l.
      ap (any_to (λ p. eqb (capacity_of a t p) 0)) (g.phchs t l)
      ∙ any_same (λ p. eqb (capacity_of a t p) 0) (λ p. eqb (capacity_of b t p) 0) (phchs_of b t) (λ p k. ap (λ (x : ℕ). eqb x 0) (g.caps t p l k)))

  agree_slot : (b.uplink ≡ 0 → ⊥) → (t : ℕ) → t < b.slots → slot_beyond a.logs t (phchs_of a t) ≡ slot_beyond b.logs t (phchs_of b t)
  agree_slot z t l =
      ap₂ ◌||◌ (ap (ltb most_paired) (g.phchs t l))
      (ap (any_to (λ p. ltb most_log (log_of a t p))) (g.phchs t l)
      ∙ any_same (λ p. ltb most_log (log_of a t p)) (λ p. ltb most_log (log_of b t p)) (phchs_of b t) (λ p k. ap (ltb most_log) (g.logs t p l k z)))

  agree_beyond : Dec (b.uplink ≡ 0) → beyond_uplink a ≡ beyond_uplink b
  agree_beyond (yes z) = rw (g.uplink, eq-eqb b.uplink 0 z)
  agree_beyond (no z) =
      ap₂ (λ (u t : ℕ). not (eqb u 0) && some_beyond a.phchs a.logs t) g.uplink g.slots
      ∙ ap (λ (x : Bool). not (eqb b.uplink 0) && x)
      (any_same (λ t. slot_beyond a.logs t (phchs_of a t)) (λ t. slot_beyond b.logs t (phchs_of b t)) b.slots (agree_slot z))

  agree_subframe : beyond_subframe a ≡ beyond_subframe b
  agree_subframe = ap₂ (λ (k t : ℕ). not (eqb k 0) && ltb most_lcr_slots t) g.lcr g.slots

  agree_silent : silent a ≡ silent b
  agree_silent =
      ap not
      (ap (any_to (λ i. not (eqb (encoded_of a i) 0))) g.channels
      ∙ any_same (λ i. not (eqb (encoded_of a i) 0)) (λ i. not (eqb (encoded_of b i) 0)) b.channels
      (λ i l. ap (λ (x : ℕ). not (eqb x 0)) (g.encoded i l)))

  pub agree_lines : load_lines a ≡ load_lines b
  agree_lines = rw (agree_empty, agree_beyond (ℕ_discrete b.uplink 0), agree_subframe, agree_equalised, agree_capacity, agree_silent)

-- the trimmed fields agree with the fields
module _ (sh : Sheet) (r : Ranged sh) where
  trim_code : (w : ℕ) (g : ℕ → ℕ) (t p : ℕ) → (w * t + p) / w ≡ t → (w * t + p) % w ≡ p → w * t + p < most_slots * w → w * t + p < w * sh.slots
      → p < phchs_of sh t → get_or (table (λ m. code_trimmed w sh m (g m)) 0 (most_slots * w)) (w * t + p) 0 ≡ g (w * t + p)
  trim_code w g t p q u here there k =
      let m = w * t + p in
      filled_at (λ j. up_to (phchs_of sh (j / w)) (j % w) (g j)) (w * sh.slots) (most_slots * w) m here there
      ∙ ap₂ (λ (x y : ℕ). up_to (phchs_of sh x) y (g m)) q u
      ∙ up_to-below (phchs_of sh t) p (g m) k

  trim_caps : (t p : ℕ) → t < sh.slots → p < phchs_of sh t → capacity_of (trimmed sh) t p ≡ capacity_of sh t p
  unfolding trimmed
  trim_caps t p l k =
      let b = r.phch16 t l in
      let c = r.few_slots in
      trim_code most_codes (λ m. get_or sh.caps m 0) t p (omega arith) (omega arith) (omega arith) (omega arith) k

  trim_logs : (t p : ℕ) → t < sh.slots → p < phchs_of sh t → (sh.uplink ≡ 0 → ⊥) → Dec (p < most_paired) → log_of (trimmed sh) t p ≡ log_of sh t p
  unfolding trimmed
  trim_logs t p l k z (yes h) =
      let c = r.few_slots in
      ap (up_to most_paired p)
      (trim_code most_paired (λ m. cond (eqb sh.uplink 0) 0 (get_or sh.logs m 0)) t p (omega arith) (omega arith) (omega arith) (omega arith) k
      ∙ ap (λ (x : Bool). cond x 0 (get_or sh.logs (most_paired * t + p) 0)) (ne_eqb sh.uplink 0 z))
  trim_logs t p l k z (no h) = up_to_past most_paired p _ (omega arith) ∙ sym (up_to_past most_paired p _ (omega arith))

  pub trim_agree : Agree (trimmed sh) sh
  unfolding trimmed
  trim_agree =
      record {
        channels = refl;
        slots = refl;
        uplink = refl;
        lcr = refl;
        tti = λ i l. filled_at (tti_of sh) sh.channels most_channels i (omega (arith, r.few_channels)) l;
        encoded = λ i l. filled_at (encoded_of sh) sh.channels most_channels i (omega (arith, r.few_channels)) l;
        phchs = λ t l. filled_at (phchs_of sh) sh.slots most_slots t (omega (arith, r.few_slots)) l;
        caps = trim_caps;
        logs = λ t p l k z. trim_logs t p l k z (dec_lt p most_paired);
      }
