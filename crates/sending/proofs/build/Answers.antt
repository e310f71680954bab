use native.Mathlib.Omega.{arith}
use Prim.Native.Nat.{ℕ}
use lib.ListN.{length}
use Rattle.std.proofs.lemmas.Result.{err_from_is_err_and}
use Rattle.counters.specs.Lines.{first_of}
use Rattle.counters.proofs.RefusalLaws.{refusal_positive}
use Rattle.sheet.specs.Fields.{sheet_of}
use Rattle.sheet.specs.Sizes.{encoded_all, capacity_all}
use Rattle.frame.specs.Bit.{is_bit, first_bad}
use Rattle.frame.specs.Frame.{bit_frame}
use Rattle.looking.specs.Looking.{frame_lines}
use Rattle.looking.proofs.LookLaws.{early_frame, looks_early, looked_no}
use Rattle.sending.specs.Building.{content_lines}
use Rattle.sending.proofs.build.Goals as goal

pub returns-in_err-opened : goal.returns-in_err-opened
returns-in_err-opened c =
    let a = c.args in
    let p = err_from_is_err_and c.from_residual.result c.from_residual.ensures.1 in
    let n = c.in_err-opened.ensures.number in
    let r = c.in_err-opened.field-0.0 in
    let s = a.bytes.now in
    let sh = sheet_of s in
    let l =
    looks_early is_bit (frame_lines s a.frame.0) (early_frame s a.frame.0) a.contents.now (encoded_all sh) (length a.out.now) (capacity_all sh) ℕ r n.0 n.1 in
    let lines = content_lines s a.frame.0 a.contents.now (length a.out.now) in
    rw (p.1, p.2)
    (search (looked_no (first_of lines) (first_bad a.contents.now) (capacity_all sh) (bit_frame sh a.frame.0 a.contents.now) a.out.now l.0 (λ q. omega (arith, q, refusal_positive r)) l.1))
