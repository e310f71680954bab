use mathlib.Core.List.{[], ◌∷◌}
use lib.Dec.{ltb}
use Rattle.std.proofs.Common.{rules}
use Rattle.counters.specs.Lines.{line}
use Rattle.sheet.specs.Numbers.{read_lines}
use Rattle.sheet.proofs.NumberLaws.{read_numbered}
use Rattle.looking.specs.Looking.{last_frame}
use Rattle.looking.proofs.LookLaws.{opened_refuses}
use Rattle.looking.proofs.open_frame.Goals as goal

pub returns-clause-number : goal.returns-clause-number
returns-clause-number c =
    let s = c.args.bytes.now in
    opened_refuses (read_lines s) (read_numbered s) s (λ _. line (ltb last_frame c.args.frame.0) 9 ∷ []) _ c.with_sheet.result c.with_sheet.ensures (λ o p. search rules)
