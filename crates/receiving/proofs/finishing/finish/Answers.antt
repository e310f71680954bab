use native.Mathlib.Omega.{arith}
use mathlib.Core.Bool.{◌||◌}
use mathlib.Core.List.{[], ◌∷◌}
use Prim.Native.Nat.{◌-◌}
use lib.ListN.{length}
use Rattle.std.proofs.lemmas.Result.{err_from_is_err_and}
use Rattle.counters.specs.Lines.{line}
use Rattle.counters.proofs.RefusalLaws.{refusal_positive}
use Rattle.sheet.specs.Fields.{sheet_of, encoded_of}
use Rattle.sheet.specs.Sizes.{equalised_all}
use Rattle.sheet.specs.Numbers.{read_lines}
use Rattle.looking.specs.Looking.{no_trch, not_long}
use Rattle.looking.proofs.LookLaws.{number_first}
use Rattle.looking.proofs.OutcomeLaws.{wrote_no}
use Rattle.receiving.proofs.finishing.finish.Goals as goal

pub returns-in_err-opened : goal.returns-in_err-opened
returns-in_err-opened c =
    let a = c.args in
    let p = err_from_is_err_and c.from_residual.result c.from_residual.ensures.1 in
    let n = c.in_err-opened.ensures.number in
    let r = c.in_err-opened.field-0.0 in
    let s = a.bytes.now in
    let sh = sheet_of s in
    let k = a.trch.0 in
    let tail = line (no_trch sh k) 10 ∷ line (not_long (length a.joined.now) (equalised_all sh) || not_long (length a.coded.now) (encoded_of sh (k - 1))) 11 ∷ [] in
    rw (p.1, p.2, n.1) (wrote_no _ _ _ _ (number_first (read_lines s) tail r n.0) (λ q. omega (arith, q, refusal_positive r)))
