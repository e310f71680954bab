use mathlib.Core.Path.{subst}
use Rattle.std.proofs.Common.{rules}
use Rattle.sheets.specs.Flat.{logs_from, LaidAt}
use Rattle.sheets.proofs.FlatLaws.{row_laid}
use Rattle.sheets.proofs.flat.lay_sheet.Goals as goal

pub returns : goal.returns
returns c =
    row_laid c.args.fields.now c.args.out.now c.requires (search rules) (search rules) (search rules) (search rules) (search rules)
    c.lay.ensures c.lay-2.ensures c.lay-3.ensures c.lay-4.ensures c.lay-5.ensures c.lay-6.ensures
    (subst (LaidAt _ _ logs_from) c.spread_logs.ensures c.lay-7.ensures)
