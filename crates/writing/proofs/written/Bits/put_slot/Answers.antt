use native.Mathlib.Omega.{arith}
use mathlib.Core.Path.{◌≡◌, refl, ap, subst}
use Prim.Native.Nat.{ℕ, ◌-◌}
use Rattle.sheet.specs.Layout.{codes_width, log_width, capacity_width}
use Rattle.sheet.specs.Fields.{phchs_of}
use Rattle.writing.specs.Written.{code_bits, slots_bits, BitsWritten}
use Rattle.writing.proofs.HoldLaws.{to_log, put_as, code_more, slots_more}
use Rattle.writing.proofs.written.Bits.put_slot.Goals as goal

pub loop-p-init : goal.loop-p-init
unfolding code_bits
loop-p-init c =
    let a = c.args in
    let w = c.from-width.ensures in
    (omega arith, omega arith, ap log_width w, omega (arith, w), put_as codes_width (slots_bits a.fields.now a.t) c.requires.5 c.put.ensures.more refl (ap (λ (x : ℕ). x - 1) c.from-n.ensures))

pub loop-p-preserved : goal.loop-p-preserved
loop-p-preserved c =
    let f = c.args.fields.now in
    let t = c.args.t in
    let l = c.loop-p in
    let h1 = put_as (log_width f.uplink) (code_bits f t (slots_bits f t) l.p) l.invariant.4 c.put-in-loop-p.ensures.more l.invariant.2 c.log_at.ensures in
    let h2 = put_as capacity_width (to_log f t l.p) h1 c.put-in-loop-p-2.ensures.more refl c.from.ensures in
    (omega arith, omega arith, l.invariant.2, l.invariant.3, subst (BitsWritten c.put-in-loop-p-2.new.self) (code_more f t l.p) h2)

pub returns-clause-more : goal.returns-clause-more
returns-clause-more c =
    let f = c.args.fields.now in
    let t = c.args.t in
    let l = c.loop-p in
    let e : l.p ≡ phchs_of f t = omega arith in
    subst (BitsWritten l.self) (slots_more f t) (subst (λ (x : ℕ). BitsWritten l.self (code_bits f t (slots_bits f t) x)) e l.invariant.4)
