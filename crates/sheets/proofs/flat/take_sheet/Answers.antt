use Rattle.sheets.proofs.FlatLaws.{sheet_taken}
use Rattle.sheets.proofs.flat.take_sheet.Goals as goal

pub returns : goal.returns
returns c =
    sheet_taken c.args.flat.now c.part.ensures c.part-2.ensures c.part-3.ensures
    c.part-4.ensures c.part-5.ensures c.take_logs.ensures
