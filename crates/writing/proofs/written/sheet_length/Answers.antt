use mathlib.Core.Path.{sym}
use Rattle.writing.proofs.RangeLaws.{sound}
use Rattle.writing.proofs.written.sheet_length.Goals as goal

pub bytes_needed-requires : goal.bytes_needed-requires
bytes_needed-requires c = (sound c.args.fields.now (sym c.in_ok-check_fields.ensures.0)).ranged
