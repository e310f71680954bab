use mathlib.Core.Path.{sym}
use Rattle.laws.proofs.TableLaws.{up_to-below, up_to_past}
use Rattle.sheet.specs.Counts.{most_paired}
use Rattle.sheets.proofs.flat.log_at.Goals as goal

pub returns-then-p-lt-PAIRED : goal.returns-then-p-lt-PAIRED
returns-then-p-lt-PAIRED c = sym (up_to-below most_paired c.args.p _ c.if-p-lt-PAIRED.true)

pub returns : goal.returns
returns c = sym (up_to_past most_paired c.args.p _ c.if-p-lt-PAIRED.false)
