use mathlib.Core.Bool.{not}
use mathlib.Core.List.{[], ◌∷◌}
use lib.Dec.{ltb}
use Rattle.std.proofs.Common.{rules, ◌≡◌}
use Rattle.counters.specs.Lines.{line}
use Rattle.sheet.specs.Numbers.{read_lines}
use Rattle.sheet.proofs.NumberLaws.{read_numbered}
use Rattle.naming.specs.Name.{name_of, name_in, has_place}
use Rattle.looking.specs.Looking.{last_frame}
use Rattle.looking.proofs.LookLaws.{opened_refuses, opened_says}
use Rattle.asking.proofs.NameLaws.{name_from}
use Rattle.asking.proofs.name.name.Goals as goal

pub returns : goal.returns
returns c =
    let a = c.args in
    let s = a.bytes.now in
    let f = a.frame.0 in
    let x = c.with_sheet.result in
    let w = c.with_sheet.ensures in
    name_from s f a.subframe a.slot a.phch.0 a.place x
    (opened_refuses (read_lines s) (read_numbered s) s (λ sh. line (ltb last_frame f) 9 ∷ line (not (has_place sh a.subframe a.slot a.phch.0 a.place)) 10 ∷ []) _ x w (λ o p. search rules))
    (opened_says (read_lines s) s (λ sh z. name_in z ≡ name_of sh f a.subframe a.slot a.phch.0 a.place) _ x w (λ o p. search rules))
