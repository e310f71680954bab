use mathlib.Core.Path.{◌≡◌, refl, sym, ap, ap₂, ◌∙◌}
use mathlib.Core.Bool.{false}
use Prim.Native.Nat.{ℕ, suc, ◌+◌, ◌*◌, ◌-◌}
use native.Mathlib.Nat.{suc-mul}
use native.Mathlib.Omega.{arith}
use lib.ListN.{get_or}
use lib.Ieee.{nan, binary32}
use lib.Ieee.Fits.{add-fits}
use Rattle.pattern.specs.Pattern.{grown}
use Rattle.pattern.proofs.CountLaws.{grown_no}
use Rattle.joining.specs.declared.Heard.TheVariants.{Joined}
use Rattle.joining.specs.Joining.{value_of}
use Rattle.joining.proofs.PlaceLaws.{once_heard, more}
use Rattle.joining.proofs.JoinLaws.{sum-turn, sum-end, raw_many}
use Rattle.joining.proofs.walking.hear_sent.Goals as goal

pub returns-then-q-start : goal.returns-then-q-start
unfolding value_of
returns-then-q-start c =
    let a = c.args in
    let o = once_heard false a.p a.q a.start a.k a.values.now (omega arith) c.requires.2 in
    (o.0, o.1, o.2, c.shared_slice_known-1.given a.k)

pub loop-e-init : goal.loop-e-init
loop-e-init c = (omega arith, omega arith, omega arith, omega arith, omega arith, refl, refl, c.shared_slice_known-1.given c.args.k)

pub bounds-values-next : goal.bounds-values-next
bounds-values-next c =
    let l = c.loop-e in
    let a = c.args in
    omega (arith, more a.p a.q l.e (omega arith) (omega arith) (omega arith))

pub loop-e-preserved : goal.loop-e-preserved
loop-e-preserved c =
    let l = c.loop-e in
    let a = c.args in
    let g = more a.p a.q l.e (omega arith) (omega arith) (omega arith) in
    let n = ap (λ (n : ℕ). n * a.p) g in
    let s = suc-mul (grown false a.p a.q (l.e + a.p)) a.p in
    let end = a.k + suc (grown false a.p a.q a.start) in (
      omega arith,
      omega arith,
      omega arith,
      omega arith,
      omega arith,
      omega arith,
      sym (sum-turn a.values.now l.next end l.sum (omega arith) (omega arith)) ∙ l.invariant.6,
      add-fits binary32 l.sum (get_or a.values.now l.next nan),
    )

pub returns : goal.returns
unfolding value_of
returns c =
    let l = c.loop-e in
    let a = c.args in
    let v = a.values.now in
    let g = grown_no false a.p a.q l.e (omega arith) in
    let n = ap (λ (n : ℕ). n * a.p) g in
    let s = more a.p a.q a.start (omega arith) (omega arith) (omega arith) in
    let many = suc (grown false a.p a.q a.start) in
    let c' : l.next - a.k ≡ many = omega arith in (
      ap₂ Joined (sym (sum-end v l.next (a.k + many) l.sum (omega arith)) ∙ l.invariant.6) c' ∙ sym (raw_many v a.k many (omega arith) (omega arith)),
      omega arith,
      omega arith,
      l.invariant.7,
    )
