-- Laws of steps 9 and 8 as the code goes back through them.
use mathlib.Core.Path.{◌≡◌, sym, ap, ap₂, ◌∙◌}
use mathlib.Core.Bool.{Bool}
use mathlib.Core.List.{List}
use Prim.Native.Nat.{ℕ, ◌+◌, ◌*◌, ◌-◌, ◌<◌}
use native.Mathlib.Omega.{arith}
use borrow.Author.Tests.{eq-eqb, ne_eqb}
use lib.ListN.{length, get_or, take, drop}
use Rattle.laws.specs.Sums.{sum_to}
use Rattle.sheet.specs.Counts.{most_codes}
use Rattle.sheet.specs.Fields.{phchs_of, capacity_of}
use Rattle.sheet.specs.Sizes.{slot_capacity, subframes_of, capacity_all}
use Rattle.sheet.specs.Range.{Accepted}
use Rattle.sheet.specs.declared.Sheet.{Sheet}
use Rattle.interleaving.specs.Second.{comes_from}
use Rattle.mapping.specs.Mapping.{number_of, filled_as, in_runs, at}
use Rattle.mapping.specs.declared.Runs.{Runs}
use Rattle.frame.specs.Frame.{caps_of, slot_start, subframe_start}
use Rattle.frame.specs.Slots.{RunsAt}
use Rattle.naming.specs.Name.{slot_bit_at, read_from}
use Rattle.naming.proofs.Slots.{read_by, bit_by_caps}

-- step 9: the slot's capacities, as the code takes them
module _ (sh : Sheet) (ok : Accepted sh) (t : ℕ) (l : t < sh.slots) {n : ℕ} (e : n ≡ phchs_of sh t) where
  abbrev taken : List ℕ
  taken = take (most_codes * t + n - most_codes * t) (drop (most_codes * t) sh.caps)

  caps_taken : taken ≡ caps_of sh t
  unfolding caps_of
  caps_taken = let q : most_codes * t + n - most_codes * t ≡ phchs_of sh t = omega arith in ap (λ (k : ℕ). take k (drop (most_codes * t) sh.caps)) q

  module _ (p place : ℕ) (h : p < phchs_of sh t) where
    pub bit_is : {r : Runs} → RunsAt sh t r → {n : ℕ}
        → n ≡ number_of (at taken) (in_runs r.first r.other) (length taken) p (filled_as (at taken p) (p + 1) place) → n ≡ slot_bit_at sh t p place
    bit_is k q =
        q
        ∙ ap₂ (λ (B : ℕ → ℕ) (c : List ℕ). number_of (at c) B (length c) p (filled_as (at c p) (p + 1) place)) (sym k.runs) caps_taken
        ∙ bit_by_caps sh ok t l p place h

-- one capacity is its sum
pub one_size : (sh : Sheet) (t : ℕ) → phchs_of sh t ≡ 1 → {r : ℕ} → r ≡ get_or sh.caps (most_codes * t) 0
    → (r ≡ slot_capacity sh t) × (r ≡ capacity_of sh t 0)
unfolding sum_to
one_size sh t e {r} q =
    let i : most_codes * t ≡ most_codes * t + 0 = omega arith in
    let one : r ≡ capacity_of sh t 0 = q ∙ ap (λ (j : ℕ). get_or sh.caps j 0) i in
    let all : slot_capacity sh t ≡ 0 + capacity_of sh t 0 = ap (sum_to (capacity_of sh t)) e in
    (omega (arith, one, all), one)

-- step 8, by the mode
module _ (sh : Sheet) (h t k : ℕ) where
  pub read_over : {n j r : ℕ} → sh.mode ≡ 0 → n ≡ capacity_all sh → j ≡ subframe_start sh h + (slot_start sh t + k) → r ≡ comes_from n j → r ≡ read_from sh h t k
  unfolding read_from
  read_over z p q e = e ∙ ap₂ comes_from p q ∙ sym (ap (λ (b : Bool). read_by sh b h t k) (eq-eqb sh.mode 0 z))

  pub read_each : {b n j r : ℕ} → (sh.mode ≡ 0 → ⊥) → b ≡ subframes_of sh * slot_start sh t → n ≡ subframes_of sh * slot_capacity sh t
      → j ≡ h * slot_capacity sh t + k → r ≡ comes_from n j → b + r ≡ read_from sh h t k
  unfolding read_from
  read_each z o p q e = ap₂ ◌+◌ o (e ∙ ap₂ comes_from p q) ∙ sym (ap (λ (b : Bool). read_by sh b h t k) (ne_eqb sh.mode 0 z))
