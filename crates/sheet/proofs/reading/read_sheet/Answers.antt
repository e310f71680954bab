use mathlib.Core.Path.{sym, subst}
use Rattle.sheet.specs.Range.{Ranged}
use Rattle.sheet.proofs.FieldLaws.{ranged_in}
use Rattle.sheet.proofs.reading.read_sheet.Goals as goal

pub check_bytes-requires : goal.check_bytes-requires
check_bytes-requires c = (c.read_fields-fields.ensures, subst Ranged (sym c.read_fields-fields.ensures) (ranged_in c.args.bytes.now))
