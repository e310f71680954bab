use native.Mathlib.Omega.{arith}
use mathlib.Core.Path.{◌≡◌, refl, ap}
use Prim.Native.Nat.{ℕ, ◌+◌, ◌*◌}
use lib.ListN.{get_or}
use Rattle.sheet.specs.Counts.{most_paired}
use Rattle.sheet.specs.Fields.{log_of}
use Rattle.sheet.specs.declared.Sheet.{Sheet}
use Rattle.frame.proofs.TurnLaws.{turned_down, turned_single, logs_few, turned_paired}
use Rattle.frame.proofs.spreading.runs_at.Goals as goal

pub returns-then-fields-eq0 : goal.returns-then-fields-eq0
returns-then-fields-eq0 c = turned_down c.args.fields.now c.args.t c.if-fields-eq0.true

pub returns-then-from-ne-PAIRED : goal.returns-then-from-ne-PAIRED
returns-then-from-ne-PAIRED c = turned_single c.args.fields.now c.args.t c.if-fields-eq0.false (λ z. c.if-from-ne-PAIRED.true (omega arith))

zeroth : (sh : Sheet) (t : ℕ) → get_or sh.logs (most_paired * t) 0 ≡ log_of sh t 0
zeroth sh t = let i : most_paired * t ≡ most_paired * t + 0 = omega arith in ap (λ (k : ℕ). get_or sh.logs k 0) i

pub runs_of-requires : goal.runs_of-requires
runs_of-requires c =
    let sh = c.args.fields.now in
    logs_few sh c.args.t c.requires.0 c.requires.1 c.if-fields-eq0.false (omega arith) (zeroth sh c.args.t) refl

pub returns : goal.returns
returns c =
    let sh = c.args.fields.now in
    turned_paired sh c.args.t c.requires.0 c.requires.1 c.if-fields-eq0.false (omega arith) (zeroth sh c.args.t) refl c.runs_of.ensures.0
    c.runs_of.ensures.1 c.runs_of.ensures.2
