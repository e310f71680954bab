use Rattle.std.proofs.Common.{ℕ, length, sym, ap, ◌∙◌, arith}
use Rattle.interleaving.specs.Second.{second_interleaved}
use borrow.Rule.Slice.PartMut.{put_mid}
use lib.Ieee.{nan}
use Rattle.interleaving.proofs.SecondLaws.{second-length}
use Rattle.mapping.specs.Mapping.{in_runs, slot_undone}
use Rattle.mapping.proofs.RunLaws.{in_runs-some, one-runs, coded_pair}
use Rattle.mapping.proofs.SlotLaws.{settled_bits}
use Rattle.mapping.proofs.AloneLaws.{alone_take}
use Rattle.mapping.proofs.unmap_slot.Goals as goal

pub returns-then-frame-values : goal.returns-then-frame-values
returns-then-frame-values c =
    let a = c.args in
    let n = second-length a.values.now in
    c.undo.ensures
    ∙ alone_take nan (in_runs a.runs.first a.runs.other) a.caps.now (omega arith) (second_interleaved a.values.now) a.frame.now c.requires.0.slot.room a.at
    (omega (arith, n, c.requires.1)) (c.if-frame-values.true ∙ sym n)

pub by_runs-requires : goal.by_runs-requires
by_runs-requires c =
    let p = c.requires in
    (coded_pair p.0 c.if-runs-ne2.true, record { all = c.of-turns.ensures; inside = p.1 })

pub returns-then-runs-ne2 : goal.returns-then-runs-ne2
returns-then-runs-ne2 c =
    let a = c.args in
    let r = c.requires.0.runs in
    let e = c.by_runs.ensures in
    e.rest
    ∙ ap (put_mid a.at (length a.frame.now) (second_interleaved a.values.now)) (settled_bits e.settled (λ q h. in_runs-some r.first r.other q))

pub returns-then-values-caps : goal.returns-then-values-caps
returns-then-values-caps c =
    let a = c.args in
    c.unmap_short.ensures
    ∙ ap (λ (B : ℕ → ℕ). put_mid a.at (length a.frame.now) (second_interleaved a.values.now) (slot_undone B a.caps.now nan a.frame.now))
    (one-runs c.requires.0.runs c.if-runs-ne2.false)

pub returns : goal.returns
returns c =
    let a = c.args in
    let e = c.in_turn.ensures in
    e.rest
    ∙ ap (put_mid a.at (length a.frame.now) (second_interleaved a.values.now)) (settled_bits e.settled (λ q h. omega arith))
    ∙ ap (λ (B : ℕ → ℕ). put_mid a.at (length a.frame.now) (second_interleaved a.values.now) (slot_undone B a.caps.now nan a.frame.now))
    (one-runs c.requires.0.runs c.if-runs-ne2.false)
