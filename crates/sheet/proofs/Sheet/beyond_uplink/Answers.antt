use native.Mathlib.Omega.{arith}
use mathlib.Core.Path.{◌≡◌, refl, sym, ap, ◌∙◌}
use mathlib.Core.Bool.{Bool, not, ◌&&◌}
use borrow.Author.Tests.{eq-eqb, ne_eqb}
use lib.ListN.{get_or}
use Rattle.laws.specs.Sums.{any_to}
use Rattle.laws.proofs.SumLaws.{any_more, any_hit}
use Rattle.sheet.specs.Numbers.{slot_beyond, some_beyond}
use Rattle.sheet.proofs.Sheet.beyond_uplink.Goals.{Else-self-eq0}
use Rattle.sheet.proofs.Sheet.beyond_uplink.Goals as goal

pub returns-then-self-eq0 : goal.returns-then-self-eq0
returns-then-self-eq0 c = simp (eq-eqb _ 0 c.if-self-eq0.true)

pub loop-t-init : goal.loop-t-init
unfolding any_to
loop-t-init c = refl

uplink : (c : Else-self-eq0) {b : Bool} → b ≡ some_beyond c.args.self.now.phchs c.args.self.now.logs c.args.self.now.slots → b ≡ (not (lib.Dec.eqb c.args.self.now.uplink 0) && some_beyond c.args.self.now.phchs c.args.self.now.logs c.args.self.now.slots)
uplink c e =
    let f = c.args.self.now in
    e ∙ sym (ap (λ (b : Bool). not b && some_beyond f.phchs f.logs f.slots) (ne_eqb _ 0 c.if-self-eq0.false))

pub returns-then-slot_beyond : goal.returns-then-slot_beyond
returns-then-slot_beyond c =
    let f = c.args.self.now in
    let l = c.loop-t in
    uplink (goal.at.returns-then-slot_beyond c).Else-self-eq0
    (sym (any_hit (λ t. slot_beyond f.logs t (get_or f.phchs t 0)) f.slots l.t (omega arith)
    (ap (slot_beyond f.logs l.t) (sym c.from.ensures) ∙ sym c.slot_beyond.ensures ∙ c.if-slot_beyond.true)))

pub loop-t-preserved : goal.loop-t-preserved
loop-t-preserved c =
    let f = c.args.self.now in
    let l = c.loop-t in
    any_more (λ t. slot_beyond f.logs t (get_or f.phchs t 0)) l.t l.invariant
    (ap (slot_beyond f.logs l.t) (sym c.from.ensures) ∙ sym c.slot_beyond.ensures ∙ c.if-slot_beyond.false)

pub returns : goal.returns
returns c =
    let f = c.args.self.now in
    let l = c.loop-t in
    let e : l.t ≡ f.slots = omega arith in
    uplink (goal.at.returns c).Else-self-eq0 (sym (ap (some_beyond f.phchs f.logs) (sym e) ∙ l.invariant))
