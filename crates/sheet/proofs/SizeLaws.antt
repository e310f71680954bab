-- Laws of the sizes: N, what capacities come to, and the longest sheet.
use mathlib.Core.Path.{◌≡◌, refl, sym, ap, ap₂, ◌∙◌}
use mathlib.Core.Bool.{Bool, cond, ◌||◌}
use Prim.Native.Nat.{ℕ, ◌+◌, ◌-◌, ◌*◌, ◌/◌, ◌%◌, ◌^◌, ◌≤◌, ◌<◌}
use native.Mathlib.Nat.{mod-eq_of_lt, one-mul, div-le_self}
use native.Mathlib.Numerals.{add-one}
use native.Mathlib.Omega.{arith}
use native.Mathlib.Decide.{ℕ_discrete}
use borrow.Author.Tests.{eq-eqb, ne_eqb}
use lib.Pow.{pow_mono, pow_pos}
use Rattle.laws.specs.Sums.{any_to}
use Rattle.laws.proofs.SumLaws.{sum-most}
use Rattle.sheet.specs.Counts.{most_slots, most_codes, most_subframes, most_tti, most_frames, most_capacity, most_needed, longest_form}
use Rattle.sheet.specs.Layout.{slot_width}
use Rattle.sheet.specs.Fields.{phchs_of, capacity_of}
use Rattle.sheet.specs.Sizes.{frames_in, segment_in, slot_capacity, places_all, subframes_of, capacity_all, bits_needed, bytes_needed}
use Rattle.sheet.specs.Numbers.{slot_load, whole_load, load_of}
use Rattle.sheet.specs.Range.{Ranged}
use Rattle.sheet.specs.declared.sizes.Load.{Load}
use Rattle.sheet.specs.declared.Sheet.{Sheet}
use Rattle.sheet.proofs.SlotLaws.{width_most}

-- 1 << tti
pub shifted : (tti : ℕ) → tti ≤ most_tti → 1 * 2 ^ tti % 18446744073709551616 ≡ frames_in tti
shifted tti h = ap (λ (y : ℕ). y % 18446744073709551616) (one-mul (2 ^ tti)) ∙ mod-eq_of_lt (omega (arith, pow_mono h))

pub frames_are : (tti : ℕ) → tti ≤ most_tti → let r = 1 * 2 ^ tti % 18446744073709551616 in (r ≡ frames_in tti) × (1 ≤ r) × (r ≤ most_frames)
frames_are tti h = let e = shifted tti h in (e, omega (arith, e, pow_pos tti), omega (arith, e, pow_mono h))

pub size_none : (e f : ℕ) → e ≡ 0 → 0 ≡ segment_in e f
size_none e f h = sym (ap (λ (b : Bool). cond b 0 ((e - 1) / f + 1)) (eq-eqb e 0 h))

pub size-some : (e f : ℕ) {x g : ℕ} → x ≡ e → g ≡ f → (e ≡ 0 → ⊥) → (x - 1) / g + 1 ≡ segment_in e f
size-some e f {x} {g} p q h =
    ap₂ (λ (a b : ℕ). (a - 1) / b + 1) p q ∙ sym (ap (λ (b : Bool). cond b 0 ((e - 1) / f + 1)) (ne_eqb e 0 h))

-- N is at most E
pub size-most : (e f : ℕ) → segment_in e f ≤ e
size-most e f = side (ℕ_discrete e 0)
  where
    side : Dec (e ≡ 0) → segment_in e f ≤ e
    side (yes z) = omega (arith, size_none e f z)
    side (no z) = omega (arith, size-some e f {x = e} {g = f} refl refl z, div-le_self (e - 1) f)

-- one capacity more, or one slot more
pub any_next : (f : ℕ → Bool) (i : ℕ) {a b : Bool} → a ≡ any_to f i → b ≡ f i → (a || b) ≡ any_to f (i + 1)
unfolding any_to
any_next f i p q = ap₂ ◌||◌ p q ∙ sym (ap (any_to f) (add-one i))

pub load_same : {a b : Bool} {x y : ℕ} → a ≡ b → x ≡ y → ◌≡◌ {A = Load} (record { empty = a; sum = x }) (record { empty = b; sum = y })
load_same p q = rw (p, q)

-- what a sheet's capacities come to: that it may be asked, and what it is
pub codes-few : (sh : Sheet) (n : ℕ) → Ranged sh → n ≡ sh.slots → (n ≤ most_slots) × ((t : ℕ) → t < n → phchs_of sh t ≤ most_codes)
codes-few sh n r e = (omega (arith, r.few_slots), λ t l. r.phch16 t (omega arith))

pub load_is : (sh : Sheet) (n : ℕ) (load : Load) → n ≡ sh.slots → load ≡ whole_load sh.phchs sh.caps n → load ≡ load_of sh
load_is sh n load e h = h ∙ ap (whole_load sh.phchs sh.caps) e

-- the sub-frames are 1 or 2, and D has the places of one for each
pub some-subframe : (sh : Sheet) → 0 < subframes_of sh
unfolding subframes_of
some-subframe sh = omega arith

pub subframes_are : (sh : Sheet) {k : ℕ} → k ≡ sh.lcr → 1 + k ≡ subframes_of sh
unfolding subframes_of
subframes_are sh e = ap (λ (x : ℕ). 1 + x) e

pub few_subframes : (sh : Sheet) → Ranged sh → subframes_of sh ≤ most_subframes
unfolding subframes_of
few_subframes sh r = omega (arith, r.lcr)

pub places-most : (sh : Sheet) → Ranged sh → places_all sh ≤ most_slots * (most_codes * most_capacity)
places-most sh r =
    let b =
    sum-most (slot_capacity sh) (most_codes * most_capacity) sh.slots
    (λ t l. omega (arith, sum-most (capacity_of sh t) most_capacity (phchs_of sh t) (λ p k. r.caps t p l k), r.phch16 t l))
    in
    omega (arith, r.few_slots)

pub one_each : (sh : Sheet) {d : ℕ} → subframes_of sh ≡ 1 → d ≡ capacity_all sh → d ≡ places_all sh
one_each sh e f = f ∙ ap (λ (k : ℕ). k * places_all sh) e ∙ one-mul (places_all sh)

pub half_each : (sh : Sheet) {d : ℕ} → subframes_of sh ≡ 2 → d ≡ capacity_all sh → d / 2 ≡ places_all sh
half_each sh {d} e f = let g : d ≡ 2 * places_all sh = f ∙ ap (λ (k : ℕ). k * places_all sh) e in omega (arith, g)

pub load_places : (sh : Sheet) {load : Load} → load ≡ load_of sh → load.sum ≡ places_all sh
load_places sh e = ap (λ (x : Load). x.sum) e

pub load_sum : (sh : Sheet) (t : ℕ) {n : ℕ} {load : Load} → n ≡ phchs_of sh t → load ≡ slot_load sh.caps (most_codes * t) n → load.sum ≡ slot_capacity sh t
load_sum sh t e h = ap (λ (x : Load). x.sum) (h ∙ ap (slot_load sh.caps (most_codes * t)) e)

-- the longest sheet in form
pub need_most : (sh : Sheet) → Ranged sh → bits_needed sh ≤ most_needed
need_most sh r =
    let b =
    sum-most (λ t. slot_width sh.uplink (phchs_of sh t)) (slot_width 1 most_codes) sh.slots
    (λ t l. omega (arith, r.phch16 t l, width_most sh.uplink (phchs_of sh t) r.uplink))
    in
    omega (arith, r.few_slots, r.few_channels)

pub bytes_most : (sh : Sheet) → Ranged sh → bytes_needed sh ≤ longest_form
bytes_most sh r = omega (arith, need_most sh r)
