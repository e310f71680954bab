use mathlib.Core.List.{[], ◌∷◌}
use Prim.Native.Nat.{◌-◌}
use Rattle.std.proofs.Common.{rules, ◌≡◌}
use Rattle.counters.specs.Lines.{line}
use Rattle.sheet.specs.Numbers.{read_lines}
use Rattle.sheet.proofs.NumberLaws.{read_numbered}
use Rattle.looking.specs.Looking.{no_trch}
use Rattle.looking.proofs.LookLaws.{opened_refuses, opened_says}
use Rattle.asking.specs.Asking.{channel_given, channel_in}
use Rattle.asking.proofs.AskLaws.{channel_from}
use Rattle.asking.proofs.channel.Goals as goal

pub returns : goal.returns
returns c =
    let s = c.args.bytes.now in
    let k = c.args.trch.0 in
    let x = c.with_sheet.result in
    let w = c.with_sheet.ensures in
    channel_from s k x
    (opened_refuses (read_lines s) (read_numbered s) s (λ sh. line (no_trch sh k) 10 ∷ []) _ x w (λ o p. search rules))
    (opened_says (read_lines s) s (λ sh z. channel_given z ≡ channel_in sh (k - 1)) _ x w (λ o p. search rules))
