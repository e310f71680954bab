use Rattle.std.proofs.Common.{ℕ, length, sym, ap, ◌∙◌, arith}
use Rattle.interleaving.specs.Second.{second_interleaved}
use Rattle.interleaving.proofs.SecondLaws.{second-length}
use Rattle.mapping.specs.Mapping.{in_runs, slot_of}
use Rattle.mapping.specs.Lines.{part_from}
use Rattle.mapping.proofs.RunLaws.{in_runs-some, one-runs, coded_pair}
use Rattle.mapping.proofs.SlotLaws.{settled_slot}
use Rattle.mapping.proofs.AloneLaws.{alone_put}
use Rattle.mapping.proofs.HandLaws.{threefold_slot}
use Rattle.mapping.proofs.map_slot.Goals as goal

pub returns-then-frame-bits : goal.returns-then-frame-bits
returns-then-frame-bits c =
    let a = c.args in
    let n = second-length a.bits.now in
    c.interleave.ensures
    ∙ alone_put 0 (in_runs a.runs.first a.runs.other) a.caps.now (omega arith) (second_interleaved a.bits.now) a.frame.now c.requires.0.slot.room a.at
    (omega (arith, n, c.requires.1)) (c.if-frame-bits.true ∙ sym n)

pub map_threefold-requires : goal.map_threefold-requires
map_threefold-requires c =
    (c.is_threefold.ensures c.if-is_threefold.true, rw (← c.if-frame-bits-2.true) c.requires.0.slot, c.requires.2)

pub returns-then-is_threefold : goal.returns-then-is_threefold
returns-then-is_threefold c =
    let a = c.args in
    let n = second-length a.bits.now in
    c.map_threefold.ensures
    ∙ threefold_slot (c.is_threefold.ensures c.if-is_threefold.true) c.requires.0 (second_interleaved a.bits.now) a.frame.now a.at (omega (arith, n, c.requires.1))
    (c.if-frame-bits-2.true ∙ sym n)

pub by_runs-requires : goal.by_runs-requires
by_runs-requires c =
    let p = c.requires in
    (coded_pair p.0 c.if-runs-ne2.true, record { all = c.of-turns.ensures; inside = p.1 })

pub returns-then-runs-ne2 : goal.returns-then-runs-ne2
returns-then-runs-ne2 c =
    let r = c.requires.0.runs in
    settled_slot c.by_runs.ensures.settled (λ q h. in_runs-some r.first r.other q) c.args.frame.now c.requires.0.slot.room

pub returns-then-bits-caps : goal.returns-then-bits-caps
returns-then-bits-caps c =
    let a = c.args in
    c.map_short.ensures
    ∙ ap (λ (B : ℕ → ℕ). slot_of B a.caps.now (part_from a.at (length a.frame.now) (second_interleaved a.bits.now)) a.frame.now)
    (one-runs c.requires.0.runs c.if-runs-ne2.false)

pub returns : goal.returns
returns c =
    let a = c.args in
    settled_slot c.in_turn.ensures.settled (λ q h. omega arith) a.frame.now c.requires.0.slot.room
    ∙ ap (λ (B : ℕ → ℕ). slot_of B a.caps.now (part_from a.at (length a.frame.now) (second_interleaved a.bits.now)) a.frame.now)
    (one-runs c.requires.0.runs c.if-runs-ne2.false)
