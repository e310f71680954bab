use native.Mathlib.Omega.{arith}
use mathlib.Core.Path.{◌≡◌, refl, ap, ap₂, ◌∙◌}
use Prim.Native.Nat.{ℕ, ◌+◌, ◌*◌, ◌%◌, ◌<◌}
use Rattle.laws.specs.Tables.{table}
use Rattle.bits.specs.Bits.{bits_at}
use Rattle.sheet.specs.Counts.{most_codes}
use Rattle.sheet.specs.Layout.{codes_width, log_width, capacity_width, slot_width}
use Rattle.sheet.specs.Fields.{uplink_in, slot_from, phchs_in}
use Rattle.sheet.specs.Reading.{slots_to}
use Rattle.sheet.proofs.SlotLaws.{phchs_most, uplink-most, width_more, slot_next, slot-begun, slot-more, slot-done}
use Rattle.sheet.proofs.fields.read_slots.Goals as goal

-- in downlink no logarithm stands before U, and all is in fours
in-fours : (at before : ℕ) → (before ≡ 0) × (at % 4 ≡ 0) → ((at + before) % 4 ≡ 0) × ((at + (before + capacity_width)) % 4 ≡ 0)
in-fours at before h = omega (arith, h)

pub overflow_mul-before : goal.overflow_mul-before
overflow_mul-before c = omega (arith, uplink-most c.args.s.now)

pub loop-i-init : goal.loop-i-init
unfolding table slot_from
loop-i-init c = (omega arith, refl, omega arith, refl, ap log_width c.requires.0, λ z. omega arith)

pub loop-j-init : goal.loop-j-init
loop-j-init c =
    let a = c.args in
    let l = c.loop-i in
    let p : c.read_field.result + 1 ≡ phchs_in a.s.now a.start l.i =
    ap (λ (x : ℕ). x + 1) (c.read_field.ensures.0 ∙ ap (λ (x : ℕ). bits_at a.s.now x codes_width) l.invariant.1)
    in
    (omega arith, p, omega arith, omega arith, slot-begun a.s.now a.start l.i l.r (omega arith) l.invariant.3 p, omega (arith, l.invariant.4, uplink-most a.s.now), λ z. omega (arith, l.invariant.4, l.invariant.5 z))

pub read_capacity-requires : goal.read_capacity-requires
read_capacity-requires c = (omega arith, λ z. (in-fours _ _ (c.loop-j.invariant.6 z)).0)

pub loop-j-preserved : goal.loop-j-preserved
loop-j-preserved c =
    let a = c.args in
    let o = c.loop-i in
    let i = o.i in
    let l = c.loop-j in
    let s = a.s.now in
    let b : l.j < phchs_in s a.start i = omega arith in (
      omega arith,
      l.invariant.1,
      omega (arith, o.invariant.4, width_more (uplink_in s) l.j),
      omega (arith, o.invariant.4, uplink-most s),
      slot-more s a.start i l.j l.r (omega arith) b l.invariant.4
          (c.read_capacity.ensures ∙ ap₂ (λ (x y : ℕ). bits_at s (x + y) capacity_width) l.invariant.2 o.invariant.4),
      l.invariant.5,
      λ z. ((l.invariant.6 z).0, (in-fours _ _ (l.invariant.6 z)).1),
    )

pub loop-i-preserved : goal.loop-i-preserved
loop-i-preserved c =
    let a = c.args in
    let o = c.loop-i in
    let i = o.i in
    let l = c.loop-j in
    let e : l.j ≡ phchs_in a.s.now a.start i = omega arith in (
      omega arith,
      l.invariant.2 ∙ ap (λ (j : ℕ). slot_from a.s.now a.start i + slot_width (uplink_in a.s.now) j) e ∙ slot_next a.s.now a.start i,
      omega (arith, phchs_most a.s.now a.start i),
      l.invariant.4 ∙ ap (λ (j : ℕ). slots_to a.s.now a.start (i + 1) (most_codes * i + j)) e ∙ slot-done a.s.now a.start i,
      o.invariant.4,
      λ z. (l.invariant.6 z).1,
    )

pub returns : goal.returns
returns c =
    let a = c.args in
    let l = c.loop-i in
    let e : l.i ≡ a.t = omega arith in
    l.invariant.3 ∙ ap (λ (i : ℕ). slots_to a.s.now a.start i (most_codes * i)) e
