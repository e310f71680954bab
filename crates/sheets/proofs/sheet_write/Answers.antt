use Rattle.sheets.proofs.SheetLaws.{write_made}
use Rattle.sheets.proofs.sheet_write.Goals as goal

pub returns : goal.returns
returns c =
    let a = c.args in
    write_made a.fields.now a.out.now c.write_sheet.ensures.answered c.write_sheet.ensures.written
