use mathlib.Core.Path.{sym}
use lib.ListN.{length}
use Rattle.sheet.proofs.SizeLaws.{bytes_most}
use Rattle.writing.proofs.RangeLaws.{sound, writable}
use Rattle.writing.proofs.written.write_sheet.Goals as goal

pub put_sheet-requires : goal.put_sheet-requires
put_sheet-requires c =
    let a = c.args in
    let w = writable a.fields.now (length a.out.now) (sym c.in_ok-check_write.ensures.0) in
    let r = (sound a.fields.now w.fields).ranged in
    (r, w.exact, bytes_most a.fields.now r)
