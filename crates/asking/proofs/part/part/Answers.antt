use mathlib.Core.List.{[], ◌∷◌}
use Prim.Native.Nat.{◌-◌}
use Rattle.std.proofs.Common.{rules, ◌≡◌}
use Rattle.counters.specs.Lines.{line}
use Rattle.sheet.specs.Sizes.{capacity_all}
use Rattle.sheet.specs.Numbers.{read_lines}
use Rattle.sheet.proofs.NumberLaws.{read_numbered}
use Rattle.looking.specs.Looking.{no_trch, not_long}
use Rattle.looking.proofs.LookLaws.{opened_refuses, opened_says}
use Rattle.asking.specs.Part.{part_given, part_in}
use Rattle.asking.proofs.PartLaws.{part_from}
use Rattle.asking.proofs.part.part.Goals as goal

pub returns : goal.returns
returns c =
    let s = c.args.bytes.now in
    let k = c.args.trch.0 in
    let n = c.args.n in
    let x = c.with_sheet.result in
    let w = c.with_sheet.ensures in
    part_from s k n x
    (opened_refuses (read_lines s) (read_numbered s) s (λ sh. line (no_trch sh k) 10 ∷ line (not_long n (capacity_all sh)) 11 ∷ []) _ x w (λ o p. search rules))
    (opened_says (read_lines s) s (λ sh z. part_given z ≡ part_in sh (k - 1)) _ x w (λ o p. search rules))
