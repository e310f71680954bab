use native.Mathlib.Omega.{arith}
use mathlib.Core.List.{[], ◌∷◌}
use lib.ListN.{length}
use Rattle.std.proofs.lemmas.Result.{err_from_is_err_and}
use Rattle.counters.specs.Lines.{line}
use Rattle.counters.proofs.RefusalLaws.{refusal_positive}
use Rattle.sheet.specs.Numbers.{read_lines}
use Rattle.sheet.proofs.NumberLaws.{read_numbered}
use Rattle.looking.proofs.LookLaws.{number_first, number_second}
use Rattle.looking.proofs.OutcomeLaws.{wrote_no}
use Rattle.sheets.specs.Sheets.{not_flat}
use Rattle.ummervia.proofs.exports.read_row.Goals as goal
use mathlib.Core.Path.{ap}
use Rattle.sheet.specs.Numbers.{SheetAnswer}

pub returns-in_err-fields : goal.returns-in_err-fields
returns-in_err-fields c =
    let p = err_from_is_err_and c.from_residual.result c.from_residual.ensures.1 in
    let n = c.in_err-fields.ensures in
    let r = c.in_err-fields.field-0.0 in
    let e = ap (λ (x : SheetAnswer). x.number) n.0 in
    rw (p.1, p.2, n.1)
    (wrote_no _ _ _ _ (number_first (read_lines c.args.bytes.now) (line (not_flat (length c.args.row.now)) 11 ∷ []) r e) (λ q. omega (arith, q, refusal_positive r)))

pub returns-in_err-check_length : goal.returns-in_err-check_length
returns-in_err-check_length c =
    let p = err_from_is_err_and c.from_residual-in_err-check_length.result c.from_residual-in_err-check_length.ensures.1 in
    let o = ap (λ (x : SheetAnswer). x.number) c.in_ok-fields.ensures.0 in
    let n = c.in_err-check_length.ensures.number in
    let r = c.in_err-check_length.field-0.0 in
    let s = c.args.bytes.now in
    rw (p.1, p.2, n.1)
    (wrote_no _ _ _ _ (number_second (line (not_flat (length c.args.row.now)) 11 ∷ []) (read_numbered s) o n.0) (λ q. omega (arith, q, refusal_positive r)))
