use mathlib.Core.Path.{sym, ◌∙◌}
use Rattle.naming.proofs.ExistLaws.{exists}
use Rattle.asking.proofs.name.find_name.Goals as goal

pub name-requires : goal.name-requires
name-requires c =
    let p = c.args.place in
    (exists c.args.opened.now.fields p.subframe p.slot p.phch.0 p.place).0 (sym c.exists.ensures ∙ c.if-exists.true)
