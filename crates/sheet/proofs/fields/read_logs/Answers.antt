use native.Mathlib.Omega.{arith}
use mathlib.Core.Path.{◌≡◌, refl, sym, ap, ap₂, ◌∙◌}
use mathlib.Core.List.{List}
use Prim.Native.Nat.{ℕ, ◌+◌, ◌*◌}
use Rattle.laws.specs.Tables.{table, up_to}
use Rattle.bits.specs.Bits.{bits_at}
use Rattle.sheet.specs.Counts.{most_paired}
use Rattle.sheet.specs.Layout.{codes_width, log_width, capacity_width, slot_width}
use Rattle.sheet.specs.Fields.{uplink_in, slot_from, code_log}
use Rattle.sheet.specs.Reading.{logs_to}
use Rattle.sheet.proofs.SlotLaws.{phchs_most, uplink-most, slot_next, logs_more, logs_none}
use Rattle.sheet.proofs.fields.read_logs.Goals as goal

-- where the two stand
module _ (s : List ℕ) (start i : ℕ) {at : ℕ} (e : at ≡ slot_from s start i) (u : uplink_in s ≡ 1) where
  first : bits_at s (at + codes_width) (log_width 1) ≡ code_log s start i 0
  first = ap (λ (x : ℕ). bits_at s x (log_width 1)) (omega arith) ∙ ap (λ (x : ℕ). bits_at s (slot_from s start i + slot_width x 0) (log_width x)) (sym u)

  second : bits_at s (at + codes_width + (log_width 1 + capacity_width)) (log_width 1) ≡ code_log s start i 1
  second = ap (λ (x : ℕ). bits_at s x (log_width 1)) (omega arith) ∙ ap (λ (x : ℕ). bits_at s (slot_from s start i + slot_width x 1) (log_width x)) (sym u)

pub returns-then-up-eq0 : goal.returns-then-up-eq0
returns-then-up-eq0 c = sym (logs_none c.args.s.now c.args.start _ (sym c.requires.uplink ∙ c.if-up-eq0.true))

pub loop-i-init : goal.loop-i-init
unfolding table slot_from
loop-i-init c = (omega arith, refl, omega (arith, c.requires.near), refl, omega (arith, c.requires.uplink, uplink-most c.args.s.now, c.if-up-eq0.false))

pub slot_width-at-requires : goal.slot_width-at-requires
slot_width-at-requires c =
    let i = c.loop-i.i in
    (omega arith, omega (arith, c.requires.codes i (omega arith), phchs_most c.args.s.now c.args.start i))

pub loop-i-preserved : goal.loop-i-preserved
loop-i-preserved c =
    let a = c.args in
    let l = c.loop-i in
    let x = a.s.now in
    let p = c.requires.codes l.i (omega arith) in (
      omega arith,
      ap₂ (λ (u v : ℕ). u + v) l.invariant.1 (c.slot_width-at.ensures.0 ∙ ap₂ slot_width (sym l.invariant.4) p) ∙ slot_next x a.start l.i,
      omega (arith, c.slot_width-at.ensures),
      logs_more x a.start l.i l.logs (omega (arith, c.requires.few)) l.invariant.3 (c.read_field.ensures.0 ∙ first x a.start l.i l.invariant.1 l.invariant.4)
          (c.second_log.ensures ∙ ap₂ (λ (u v : ℕ). up_to u 1 v) p (second x a.start l.i l.invariant.1 l.invariant.4)),
      l.invariant.4,
    )

pub returns : goal.returns
returns c =
    let a = c.args in
    let l = c.loop-i in
    let e : l.i ≡ a.t = omega arith in
    l.invariant.3 ∙ ap (λ (i : ℕ). logs_to a.s.now a.start (most_paired * i)) e
